-- Words of 32 bits, and numbers as bytes with the low-order byte first: RFC 1321, section 2.
use Rattle.std.specs.Prelude.{ℕ, zero, suc, ◌+◌, ◌-◌, ◌*◌, ◌/◌, ◌%◌, ◌^◌, List, [], ◌∷◌, bit_or}

-- X + Y: modulo 2 ^ 32
abbrev pub plus : ℕ → ℕ → ℕ
plus x y = (x + y) % 2 ^ 32

-- not(X)
abbrev pub complement : ℕ → ℕ
complement x = 4294967295 - x

-- X <<< s: the 32 bits of X turned to the left by s places, for s from 1 to 31
unfoldable pub turned : ℕ → ℕ → ℕ
turned x s = bit_or (x * 2 ^ s % 2 ^ 32) (x / 2 ^ (32 - s))

-- the k low bytes of a number, the low-order byte first
unfoldable pub low_first : ℕ → ℕ → List ℕ
low_first zero n = []
low_first (suc k) n = n % 256 ∷ low_first k (n / 256)

-- the number that bytes write, the low-order byte first
unfoldable pub number : List ℕ → ℕ
number [] = 0
number (b ∷ bs) = b + 256 * number bs
