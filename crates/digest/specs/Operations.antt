-- The 64 operations by their number from 0: what each of them takes, for the contracts of the functions that give it.
use Rattle.std.specs.Prelude.{◌≡◌, ℕ, ◌+◌, ◌<◌, ◌≤◌, ◌++◌, map, take, drop, slice_index}
use Rattle.digest.specs.Rounds.{Rows, round_1, round_2, round_3, round_4, sine}

unfoldable pub rows : Rows
rows = round_1 ++ round_2 ++ round_3 ++ round_4

-- those of a round, from number i on
abbrev pub round_from : ℕ → Rows
round_from i = take 16 (drop i rows)

unfoldable pub index_of : ℕ → ℕ
index_of i = slice_index (map (λ row. row.0) rows) i

unfoldable pub shift_of : ℕ → ℕ
shift_of i = slice_index (map (λ row. row.1) rows) i

unfoldable pub sine_of : ℕ → ℕ
sine_of i = slice_index (map (λ row. sine row.2) rows) i

-- for the operations of a round, what a closure returns is the word that they add
abbrev pub Picks : (ℕ → ℕ → Type 0) → ℕ → Type 0
Picks returns first = (i k : ℕ) → first ≤ i → i < first + 16 → returns i k → k ≡ index_of i

-- what a closure returns is what fn makes of the three words
abbrev pub Computes : (ℕ → ℕ → ℕ → ℕ → Type 0) → (ℕ → ℕ → ℕ → ℕ) → Type 0
Computes returns fn = (x y z r : ℕ) → returns x y z r → r ≡ fn x y z
