-- Four bytes as a number, and numbers as four or eight bytes.
use Rattle.std.proofs.Common.{◌≡◌, ℕ, zero, suc, ◌^◌, ◌+◌, ◌*◌, ◌/◌, ◌%◌, List, [], ◌∷◌, length, get_or, sym, refl, ap, ◌∙◌, arith}
use Rattle.std.specs.Int.{byte_at, bytes_low_first}
use Rattle.std.proofs.Math.Nat.{pow-suc, div-div-eq-div-mul, div-one}
use Rattle.digest.specs.Words.{low_first, number}

-- four bytes, the low-order byte first
pub number_is : (xs : List ℕ) → length xs ≡ 4
    → get_or xs 0 0 + get_or xs 1 0 * 256 + get_or xs 2 0 * 65536 + get_or xs 3 0 * 16777216 ≡ number xs
unfolding number
number_is [] e = absurd (omega arith)
number_is (a ∷ []) e = absurd (omega arith)
number_is (a ∷ (b ∷ [])) e = absurd (omega arith)
number_is (a ∷ (b ∷ (c ∷ []))) e = absurd (omega arith)
number_is (a ∷ (b ∷ (c ∷ (d ∷ [])))) e = omega arith
number_is (a ∷ (b ∷ (c ∷ (d ∷ (f ∷ xs))))) e = absurd (omega arith)

byte_is : (i n : ℕ) → byte_at i n ≡ n / 256 ^ i % 256
byte_is zero n = ap (λ m. m % 256) (sym (div-one n))
byte_is (suc i) n = refl

-- the bytes of a number from the i-th on
from_byte : (k i n : ℕ) → bytes_low_first i k n ≡ low_first k (n / 256 ^ i)
unfolding low_first
from_byte zero i n = refl
from_byte (suc k) i n =
    ap (λ b. b ∷ bytes_low_first (suc i) k n) (byte_is i n)
    ∙ ap (λ bs. n / 256 ^ i % 256 ∷ bs) (from_byte k (suc i) n ∙ ap (low_first k) (ap (λ p. n / p) (pow-suc 256 i) ∙ sym (div-div-eq-div-mul n (256 ^ i) 256)))

-- what `to_le_bytes` gives
pub bytes_are : (k n : ℕ) → bytes_low_first 0 k n ≡ low_first k n
bytes_are k n = from_byte k 0 n ∙ ap (low_first k) (div-one n)
