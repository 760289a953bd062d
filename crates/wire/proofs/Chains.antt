-- Parts that are written or read one after another.
use Rattle.std.proofs.Common.{◌≡◌, ℕ, ◌+◌, ◌≤◌, List, ◌++◌, length, take, drop, sym, refl, ap, ◌∙◌, arith, length-append, length-drop, take-add}
use Rattle.std.proofs.lemmas.List.{drop-drop, take_at, drop_at, length-take-le}
use Rattle.wire.specs.Octets.{part_of}

-- one more part is read
pub join : (xs : List ℕ) (at i n : ℕ) {a b : List ℕ} → a ≡ take i (drop at xs) → b ≡ take n (drop (at + i) xs) → a ++ b ≡ take (i + n) (drop at xs)
join xs at i n {a = a} p q =
    ap (λ z. a ++ z) q ∙ ap (λ z. z ++ take n (drop (at + i) xs)) p ∙ ap (λ z. take i (drop at xs) ++ take n z) (sym (drop-drop i at xs)) ∙ sym (take-add i n (drop at xs))

-- two lists of two parts each, whose last parts are as long
pub parted : (a b c d : List ℕ) → length b ≡ length d → a ++ b ≡ c ++ d → (a ≡ c) × (b ≡ d)
parted a b c d h e =
    let l : length a ≡ length c = omega (arith, length-append a b, length-append c d, ap length e) in (
      sym (take_at a b (length a) refl) ∙ ap (take (length a)) e ∙ take_at c d (length a) (sym l),
      sym (drop_at a b (length a) refl) ∙ ap (drop (length a)) e ∙ drop_at c d (length a) (sym l),
    )

pub part_long : (b : List ℕ) (i n : ℕ) → i + n ≤ length b → length (part_of i n b) ≡ n
part_long b i n h = let k : n ≤ length (drop i b) = omega (arith, length-drop i b) in length-take-le n (drop i b) k
