-- Big-endian numbers in bytes, both ways.
use Rattle.std.specs.Prelude.{ℕ, ◌+◌, ◌*◌, ◌/◌, ◌%◌, ◌<◌, List, [], ◌∷◌, take, drop, slice_index}

-- what holds of every list of bytes
abbrev pub Octets : List ℕ → Type 0
Octets b = (i : ℕ) → slice_index b i < 256

unfoldable pub two : ℕ → List ℕ
two n = n / 256 % 256 ∷ n % 256 ∷ []

unfoldable pub four : ℕ → List ℕ
four n = n / 16777216 % 256 ∷ n / 65536 % 256 ∷ n / 256 % 256 ∷ n % 256 ∷ []

-- the byte at i, which the remainder leaves as it is
abbrev pub byte_at : ℕ → List ℕ → ℕ
byte_at i b = slice_index b i % 256

unfoldable pub two_at : ℕ → List ℕ → ℕ
two_at i b = byte_at i b * 256 + byte_at (i + 1) b

unfoldable pub four_at : ℕ → List ℕ → ℕ
four_at i b = byte_at i b * 16777216 + byte_at (i + 1) b * 65536 + byte_at (i + 2) b * 256 + byte_at (i + 3) b

-- n bytes from i on
abbrev pub part_of : ℕ → ℕ → List ℕ → List ℕ
part_of i n b = take n (drop i b)
