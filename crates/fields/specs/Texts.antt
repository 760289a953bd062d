-- Numbers in text: Element_ID, Time_Zone and the time of day.
use Rattle.std.specs.Prelude.{ℕ, ◌+◌, ◌-◌, ◌*◌, Bool, false, cond, ◌&&◌, ◌||◌, List, [], ◌∷◌, take, drop, ◌==◌, nat_le, slice_index}
use Rattle.std.specs.List.{list_all}

abbrev pub digit : ℕ → Bool
digit b = nat_le 48 b && nat_le b 57

abbrev pub digits : List ℕ → Bool
digits bs = list_all digit bs

-- zero or more spaces, then one or more digits
abbrev pub spaced : List ℕ → Bool
spaced [] = false
spaced (b ∷ bs) = cond (b == 32) (spaced bs) (digits (b ∷ bs))

-- the number in the two digits from i on
unfoldable pub pair_at : ℕ → List ℕ → ℕ
pair_at i b = 10 * (slice_index b i - 48) + (slice_index b (i + 1) - 48)

-- hhmmss from i on
abbrev pub clock : ℕ → List ℕ → Bool
clock i b = nat_le (pair_at i b) 23 && nat_le (pair_at (i + 2) b) 59 && nat_le (pair_at (i + 4) b) 59

-- 0 or 1, then + or -, then hhmmss
unfoldable pub zone : List ℕ → Bool
zone b = (slice_index b 0 == 48 || slice_index b 0 == 49) && (slice_index b 1 == 43 || slice_index b 1 == 45) && digits (take 6 (drop 2 b)) && clock 2 b
