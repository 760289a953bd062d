-- The zero bytes of the padding.
use Rattle.std.proofs.Common.{◌≡◌, ℕ, zero, suc, ◌+◌, ◌-◌, ◌*◌, ◌%◌, ◌^◌, ◌<◌, ◌≤◌, List, [], ◌∷◌, ◌++◌, length, take, replicate, sym, ap, ◌∙◌, append_assoc, append-nil, not-suc-le-zero, arith, length-append}
use Rattle.std.proofs.lemmas.List.{take-replicate}
use Rattle.std.proofs.lemmas.Bool.{cond-true, cond-false, eq-eqb, ne_eqb}
use Rattle.digest.specs.Words.{low_first}
use Rattle.digest.specs.Padding.{filled, closed}

-- d zero bytes, where that many make the length 56 modulo 64, and fewer do not
pub filled_is : (most d : ℕ) (m : List ℕ) → d ≤ most → d < 64 → (length m + d) % 64 ≡ 56 → filled most m ≡ m ++ replicate d 0
unfolding filled
filled_is zero zero m l h e = sym (append-nil m)
filled_is zero (suc d) m l h e = absurd (not-suc-le-zero l)
filled_is (suc most) zero m l h e =
    let f : length m % 64 ≡ 56 = omega arith in
    cond-true _ _ _ (eq-eqb _ _ f) ∙ sym (append-nil m)
filled_is (suc most) (suc d) m l h e =
    let n : length m % 64 ≡ 56 → ⊥ = λ f. omega arith in
    let a : d ≤ most = omega arith in
    let b : d < 64 = omega arith in
    let g : (length (m ++ 0 ∷ []) + d) % 64 ≡ 56 = omega (arith, length-append m (0 ∷ [])) in
    cond-false _ _ _ (ne_eqb _ _ n) ∙ filled_is most d (m ++ 0 ∷ []) a b g ∙ append_assoc m (0 ∷ []) (replicate d 0)

filled_front : (p m : List ℕ) → length p % 64 ≡ 0 → filled 63 (p ++ m) ≡ p ++ filled 63 m
filled_front p m h =
    let d = (120 - length m % 64) % 64 in
    let a : (120 - length m % 64) % 64 ≤ 63 = omega arith in
    let b : (120 - length m % 64) % 64 < 64 = omega arith in
    let e : (length m + (120 - length m % 64) % 64) % 64 ≡ 56 = omega arith in
    let f : (length (p ++ m) + (120 - length m % 64) % 64) % 64 ≡ 56 = omega (arith, length-append p m) in
    filled_is 63 d (p ++ m) a b f ∙ append_assoc p m (replicate d 0) ∙ ap (λ z. p ++ z) (sym (filled_is 63 d m a b e))

-- whole blocks in front leave the padding as it is
pub closed_front : (p m : List ℕ) (n : ℕ) → length p % 64 ≡ 0 → closed (p ++ m) n ≡ p ++ closed m n
unfolding closed
closed_front p m n h =
    ap (λ z. filled 63 z ++ low_first 8 (n * 8 % 2 ^ 64)) (append_assoc p m (128 ∷ []))
    ∙ ap (λ z. z ++ low_first 8 (n * 8 % 2 ^ 64)) (filled_front p (m ++ 128 ∷ []) h)
    ∙ append_assoc p (filled 63 (m ++ 128 ∷ [])) (low_first 8 (n * 8 % 2 ^ 64))

-- the parts of the padding, laid one after another
pub laid : (m : List ℕ) (k n : ℕ) {t u v w b : List ℕ} → k < 64 → (length m + 1 + k) % 64 ≡ 56 → t ≡ [] ++ m → u ≡ t ++ 128 ∷ []
    → v ≡ u ++ take k (replicate 64 0) → w ≡ v ++ b → b ≡ low_first 8 (n * 8 % 2 ^ 64) → w ≡ closed m n
unfolding closed
laid m k n h e p q r s f =
    let a : k ≤ 63 = omega arith in
    let g : k ≤ 64 = omega arith in
    let i : (length (m ++ 128 ∷ []) + k) % 64 ≡ 56 = omega (arith, length-append m (128 ∷ [])) in
    let x = take-replicate {X = ℕ} k 64 0 g in
    let y = filled_is 63 k (m ++ 128 ∷ []) a h i in
    cc
