-- Steps 1 and 2 of RFC 1321, section 3: what is appended to a message.
use Rattle.std.specs.Prelude.{ℕ, zero, suc, ◌*◌, ◌%◌, ◌^◌, cond, List, [], ◌∷◌, ◌++◌, length, ◌==◌}
use Rattle.digest.specs.Words.{low_first}

-- zero bytes, one after another, until the length is 56 modulo 64, or as many as `most` allows
unfoldable pub filled : ℕ → List ℕ → List ℕ
filled zero m = m
filled (suc most) m = cond (length m % 64 == 56) m (filled most (m ++ 0 ∷ []))

-- m, the end of a message of n bytes, with a byte 0x80 after it, then zero bytes until the length is 56 modulo 64,
-- of which 63 always suffice, and then the length of the message in bits, modulo 2 ^ 64, in eight bytes
unfoldable pub closed : List ℕ → ℕ → List ℕ
closed m n = filled 63 (m ++ 128 ∷ []) ++ low_first 8 (n * 8 % 2 ^ 64)

abbrev pub padded : List ℕ → List ℕ
padded m = closed m (length m)
