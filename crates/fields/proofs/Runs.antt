-- Digits and spaces, in the words of std's iterators.
use Rattle.std.proofs.Common.{◌≡◌, ℕ, ◌+◌, ◌<◌, ◌≤◌, Bool, true, false, not, cond, ◌==◌, nat_lt, suc, ◌∙◌, List, [], ◌∷◌, length, drop, Some, None, refl, ap, arith}
use Rattle.std.proofs.lemmas.Bool.Decides.{nat_tests}
use Rattle.std.specs.List.{position, position_or_len}
use Rattle.fields.specs.Texts.{digits, spaced}

abbrev pub no_space : ℕ → Bool
no_space b = not (b == 32)

-- where the first byte that is no space stands, from what `position` gives
found : (n m k : ℕ) → cond (nat_lt n m) (Some n) None ≡ Some k → (n < m) × (n ≡ k)
found n m k e = grind (arith, nat_tests)

absent : (n m : ℕ) → cond (nat_lt n m) (Some n) None ≡ None → m ≤ n
absent n m e = grind (arith, nat_tests)

after_spaces : (bs : List ℕ) → position_or_len no_space bs < length bs → spaced bs ≡ digits (drop (position_or_len no_space bs) bs)
after_spaces [] h = absurd (omega arith)
after_spaces (b ∷ bs) h =
    let n = position_or_len no_space bs in
    let e : suc n ≡ 1 + n = omega arith in
    elim (b == 32) as (λ t. cond (not (not t)) (1 + n) 0 < length (b ∷ bs) → cond t (spaced bs) (digits (b ∷ bs)) ≡ digits (drop (cond (not (not t)) (1 + n) 0) (b ∷ bs))) [
      | true ↦ λ l. after_spaces bs (omega arith) ∙ ap (λ k. digits (drop k (b ∷ bs))) e
      | false ↦ λ _. refl
    ] h

only_spaces : (bs : List ℕ) → length bs ≤ position_or_len no_space bs → spaced bs ≡ false
only_spaces [] h = refl
only_spaces (b ∷ bs) h =
    elim (b == 32) as (λ t. length (b ∷ bs) ≤ cond (not (not t)) (1 + position_or_len no_space bs) 0 → cond t (spaced bs) (digits (b ∷ bs)) ≡ false) [
      | true ↦ λ l. only_spaces bs (omega arith)
      | false ↦ λ l. absurd (omega arith)
    ] h

-- the same of what `position` gives
pub digits_from : (bs : List ℕ) (k : ℕ) → position no_space bs ≡ Some k → spaced bs ≡ digits (drop k bs)
digits_from bs k e =
    let f = found (position_or_len no_space bs) (length bs) k e in
    after_spaces bs f.0 ∙ ap (λ n. digits (drop n bs)) f.1

pub all_spaces : (bs : List ℕ) → position no_space bs ≡ None → spaced bs ≡ false
all_spaces bs e = only_spaces bs (absent (position_or_len no_space bs) (length bs) e)
