-- Numbers in two and four bytes, both ways.
use Rattle.std.proofs.Common.{◌≡◌, ℕ, ◌+◌, ◌/◌, ◌%◌, ◌<◌, ◌≤◌, List, [], ◌∷◌, length, get_or, take, drop, sym, refl, ap, ◌∙◌, add_assoc, arith}
use Rattle.std.proofs.lemmas.List.{drop_more}
use Rattle.wire.specs.Octets.{Octets, two, four, two_at, four_at, part_of}

pub two_long : (n : ℕ) → length (two n) ≡ 2
unfolding two
two_long n = refl

pub four_long : (n : ℕ) → length (four n) ≡ 4
unfolding four
four_long n = refl

pub take_one : (xs : List ℕ) (i : ℕ) → i + 1 ≤ length xs → take 1 (drop i xs) ≡ get_or xs i 0 ∷ []
take_one xs i h = let a : i < length xs = omega arith in ap (take 1) (drop_more xs i 0 a)

pub take_two : (xs : List ℕ) (i : ℕ) → i + 2 ≤ length xs → take 2 (drop i xs) ≡ get_or xs i 0 ∷ get_or xs (i + 1) 0 ∷ []
take_two xs i h =
    let a : i < length xs = omega arith in
    let b : i + 1 < length xs = omega arith in
    ap (take 2) (drop_more xs i 0 a ∙ ap (λ z. get_or xs i 0 ∷ z) (drop_more xs (i + 1) 0 b))

pub take_four : (xs : List ℕ) (i : ℕ) → i + 4 ≤ length xs
    → take 4 (drop i xs) ≡ get_or xs i 0 ∷ get_or xs (i + 1) 0 ∷ get_or xs (i + 2) 0 ∷ get_or xs (i + 3) 0 ∷ []
take_four xs i h =
    let a : i < length xs = omega arith in
    let b : i + 1 < length xs = omega arith in
    let e : i + 2 ≤ length xs = omega arith in
    let f : i + 2 + 2 ≤ length xs = omega arith in
    ap (take 4) (drop_more xs i 0 a ∙ ap (λ z. get_or xs i 0 ∷ z) (drop_more xs (i + 1) 0 b))
    ∙ rw (add_assoc i 1 1) (ap (λ z. get_or xs i 0 ∷ get_or xs (i + 1) 0 ∷ z) (take_two xs (i + 2) f ∙ rw (add_assoc i 2 1) refl))

pub two_small : (i : ℕ) (b : List ℕ) → two_at i b < 65536
unfolding two_at
two_small i b = omega arith

pub four_small : (i : ℕ) (b : List ℕ) → four_at i b < 4294967296
unfolding four_at
four_small i b = omega arith

-- a number in bytes, written again
module _ (xs : List ℕ) (i : ℕ) (o : Octets xs) where
  pub two_of : i + 2 ≤ length xs → two (two_at i xs) ≡ part_of i 2 xs
  unfolding two two_at
  two_of h =
      let p = o i in let q = o (i + 1) in
      let a : two_at i xs / 256 % 256 ≡ get_or xs i 0 = omega arith in
      let b : two_at i xs % 256 ≡ get_or xs (i + 1) 0 = omega arith in
      (λ j. a j ∷ b j ∷ []) ∙ sym (take_two xs i h)

  pub four_of : i + 4 ≤ length xs → four (four_at i xs) ≡ part_of i 4 xs
  unfolding four four_at
  four_of h =
      let p = o i in let q = o (i + 1) in let r = o (i + 2) in let s = o (i + 3) in
      let a : four_at i xs / 16777216 % 256 ≡ get_or xs i 0 = omega arith in
      let b : four_at i xs / 65536 % 256 ≡ get_or xs (i + 1) 0 = omega arith in
      let c : four_at i xs / 256 % 256 ≡ get_or xs (i + 2) 0 = omega arith in
      let d : four_at i xs % 256 ≡ get_or xs (i + 3) 0 = omega arith in
      (λ j. a j ∷ b j ∷ c j ∷ d j ∷ []) ∙ sym (take_four xs i h)

-- a number, read again
pub two_back : (xs : List ℕ) (i n : ℕ) → i + 2 ≤ length xs → n < 65536 → two n ≡ part_of i 2 xs → two_at i xs ≡ n
unfolding two two_at
two_back xs i n h k e =
    let e' = e ∙ take_two xs i h in
    let a : n / 256 % 256 ≡ get_or xs i 0 = ap (λ l. get_or l 0 0) e' in
    let b : n % 256 ≡ get_or xs (i + 1) 0 = ap (λ l. get_or l 1 0) e' in
    omega arith

pub four_back : (xs : List ℕ) (i n : ℕ) → i + 4 ≤ length xs → n < 4294967296 → four n ≡ part_of i 4 xs → four_at i xs ≡ n
unfolding four four_at
four_back xs i n h k e =
    let e' = e ∙ take_four xs i h in
    let a : n / 16777216 % 256 ≡ get_or xs i 0 = ap (λ l. get_or l 0 0) e' in
    let b : n / 65536 % 256 ≡ get_or xs (i + 1) 0 = ap (λ l. get_or l 1 0) e' in
    let c : n / 256 % 256 ≡ get_or xs (i + 2) 0 = ap (λ l. get_or l 2 0) e' in
    let d : n % 256 ≡ get_or xs (i + 3) 0 = ap (λ l. get_or l 3 0) e' in
    omega arith
