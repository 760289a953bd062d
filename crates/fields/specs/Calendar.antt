-- Event_Time: yyyymmddhhmmss.mmm, a real date of 2000 to 2099.
use Rattle.std.specs.Prelude.{ℕ, zero, suc, ◌+◌, ◌-◌, ◌*◌, ◌%◌, Bool, cond, not, ◌&&◌, ◌||◌, List, take, drop, ◌==◌, nat_le, slice_index}
use Rattle.fields.specs.Texts.{digits, pair_at, clock}

abbrev pub leap : ℕ → Bool
leap y = y % 4 == 0 && (not (y % 100 == 0) || y % 400 == 0)

abbrev pub days_in : ℕ → ℕ → ℕ
days_in y m =
    cond (m == 2) (cond (leap y) 29 28) (cond (m == 4 || m == 6 || m == 9 || m == 11) 30 31)

-- the days of the first n years from 2000 on, and of the first n months of a year
unfoldable pub years : ℕ → ℕ
years zero = 0
years (suc n) = years n + cond (leap (2000 + n)) 366 365

unfoldable pub months : ℕ → ℕ → ℕ
months y zero = 0
months y (suc n) = months y n + days_in y (suc n)

abbrev pub year : List ℕ → ℕ
year b = 100 * pair_at 0 b + pair_at 2 b

-- a date of 2000 to 2099
abbrev pub real : ℕ → ℕ → ℕ → Bool
real y m d = nat_le 2000 y && nat_le y 2099 && nat_le 1 m && nat_le m 12 && nat_le 1 d && nat_le d (days_in y m)

abbrev pub dated : List ℕ → Bool
dated b = real (year b) (pair_at 4 b) (pair_at 6 b)

-- byte 46 is the full stop before the thousandths
unfoldable pub timed : List ℕ → Bool
timed b = digits (take 14 b) && slice_index b 14 == 46 && digits (take 3 (drop 15 b)) && dated b && clock 8 b

-- the whole days before a date, from 1 January 2000 on
abbrev pub days_to : ℕ → ℕ → ℕ → ℕ
days_to y m d = years (y - 2000) + months y (m - 1) + (d - 1)

unfoldable pub days_before : List ℕ → ℕ
days_before b = days_to (year b) (pair_at 4 b) (pair_at 6 b)

-- days since 1 January 2000, then the time of day
unfoldable pub milliseconds : List ℕ → ℕ
milliseconds b =
    days_before b * 86400000 + pair_at 8 b * 3600000 + pair_at 10 b * 60000 + pair_at 12 b * 1000 + (10 * pair_at 15 b + (slice_index b 17 - 48))
