-- Attributes that are not CableLabs ones are skipped.
use Rattle.std.proofs.Common.{◌≡◌, ℕ, zero, suc, ◌+◌, ◌-◌, ◌<◌, ◌≤◌, false, eqb, List, ◌∷◌, ◌++◌, length, take, drop, refl, ap, ◌∙◌, arith, length-append}
use Rattle.std.proofs.lemmas.List.{take_at, drop_at}
use Rattle.std.proofs.lemmas.Bool.{or_from, le-ltb, cond-false}
use Rattle.forms.specs.declared.encoding.Encoding.TheVariants.{Packet}
use Rattle.reading.specs.Walks as W
use Rattle.reading.specs.Walks.{Walked, ended, cable, other, sorted, attribute_at}
use Rattle.reading.specs.Tokens.{Seen, picked, pick, token_at}
use Rattle.reading.specs.Events.{headed, event_at}
use Rattle.reading.proofs.Sizes.{walked_size, attribute_size}

walked : (p t : ℕ) (v rest : List ℕ) → eqb t 26 ≡ false → attribute_at p (t ∷ (2 + length v) ∷ (v ++ rest)) ≡ other t v p (p + (2 + length v)) rest
unfolding attribute_at
walked p t v rest d =
    let s = 2 + length v in
    let bs = v ++ rest in
    let h : 2 ≤ s = omega arith in
    let l : s ≤ 2 + length bs = omega (arith, length-append v rest) in
    let m : s - 2 ≡ length v = omega arith in
    cond-false _ _ _ (or_from _ _ (le-ltb s 2 h) (le-ltb (2 + length bs) s l))
    ∙ cond-false _ _ _ d
    ∙ (λ i. other t (take (m i) bs) p (p + s) (drop (m i) bs))
    ∙ (λ i. other t (take_at v rest (length v) refl i) p (p + s) (drop_at v rest (length v) refl i))

-- more steps than bytes change nothing
picked_same : (p : ℕ) (x : Walked) (f g : ℕ → List ℕ → Seen) (n : ℕ) → walked_size x ≤ n → ((q : ℕ) (r : List ℕ) → length r < n → f q r ≡ g q r) → picked p x f ≡ picked p x g
picked_same p ended f g n h k = refl
picked_same p (W.wrong x) f g n h k = refl
picked_same p (cable m v a q r) f g n h k = refl
picked_same p (other t v a q r) f g n h k = k q r (omega arith)

pick_enough : (n m p : ℕ) (bs : List ℕ) → length bs < n → length bs < m → pick n p bs ≡ pick m p bs
unfolding pick
pick_enough zero m p bs h k = let z : ⊥ = omega arith in absurd z
pick_enough (suc n) zero p bs h k = let z : ⊥ = omega arith in absurd z
pick_enough (suc n) (suc m) p bs h k = picked_same p (attribute_at p bs) (pick n) (pick m) (length bs) (attribute_size p bs) (λ q r l. pick_enough n m q r (omega arith) (omega arith))

pub skipped : (p t : ℕ) (v rest : List ℕ) → eqb t 26 ≡ false → token_at Packet p (t ∷ (2 + length v) ∷ (v ++ rest)) ≡ token_at Packet (p + (2 + length v)) rest
unfolding token_at pick
skipped p t v rest d =
    let n = length (t ∷ (2 + length v) ∷ (v ++ rest)) in
    let q = p + (2 + length v) in
    ap (λ x. picked p x (pick n)) (walked p t v rest d) ∙ pick_enough n (suc (length rest)) q rest (omega (arith, length-append v rest)) (omega arith)

pub event_skipped : (p t : ℕ) (v rest : List ℕ) → eqb t 26 ≡ false → event_at Packet p (t ∷ (2 + length v) ∷ (v ++ rest)) ≡ event_at Packet (p + (2 + length v)) rest
unfolding event_at
event_skipped p t v rest d = ap (headed Packet) (skipped p t v rest d)
