-- The digest of RFC 1321, section 3, of any list of bytes.
use Rattle.std.specs.Prelude.{ℕ, zero, suc, ◌/◌, List, ◌++◌, length, take, drop}
use Rattle.digest.specs.Words.{low_first}
use Rattle.digest.specs.Padding.{padded}
use Rattle.digest.specs.Rounds.{mixed}
use Rattle.digest.specs.declared.state.State.{State}

-- step 3: the words A, B, C and D before the first block
abbrev pub start : State
start = record { a = 0x67452301; b = 0xefcdab89; c = 0x98badcfe; d = 0x10325476 }

-- step 4: n blocks of 64 bytes, one after another
unfoldable pub after_blocks : ℕ → List ℕ → State → State
after_blocks zero m w = w
after_blocks (suc n) m w = after_blocks n (drop 64 m) (mixed (take 64 m) w)

abbrev pub absorbed : List ℕ → State → State
absorbed m w = after_blocks (length m / 64) m w

-- step 5: A, B, C and D, the low-order byte of each first
abbrev pub written : State → List ℕ
written w = low_first 4 w.a ++ low_first 4 w.b ++ low_first 4 w.c ++ low_first 4 w.d

unfoldable pub md5 : List ℕ → List ℕ
md5 m = written (absorbed (padded m) start)
