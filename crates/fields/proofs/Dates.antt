-- The days of the first n years and months: sums over ranges, and how many they are at most.
use Rattle.std.proofs.Common.{◌≡◌, ℕ, zero, suc, ◌+◌, ◌*◌, ◌≤◌, cond, map, refl, ap, sym, ◌∙◌, arith}
use Rattle.std.proofs.lemmas.List.FromFn.{sum_by-map-range_with_len_more}
use Rattle.std.proofs.lemmas.Bool.Decides.{nat_tests}
use Rattle.std.specs.List.{sum, range_with_len}
use Rattle.fields.specs.Calendar.{leap, days_in, years, months}

module _ (f g : ℕ → ℕ) (a : ℕ) (none : g 0 ≡ 0) (more : (n : ℕ) → g (suc n) ≡ g n + f (a + n)) where
  total : (n : ℕ) → sum (map f (range_with_len a n)) ≡ g n
  total zero = sym none
  total (suc n) =
      let one : suc n ≡ n + 1 = omega arith in
      ap (λ k. sum (map f (range_with_len a k))) one ∙ sum_by-map-range_with_len_more (λ x. x) f a n (a + n) refl ∙ ap (λ d. d + f (a + n)) (total n) ∙ sym (more n)

  at_most : (m : ℕ) → ((x : ℕ) → f x ≤ m) → (n : ℕ) → g n ≤ m * n
  at_most m small zero = omega (arith, none)
  at_most m small (suc n) = omega (arith, more n, small (a + n), at_most m small n)

abbrev pub days_in_year : ℕ → ℕ
days_in_year y = cond (leap y) 366 365

pub sum_of_years : (n : ℕ) → sum (map days_in_year (range_with_len 2000 n)) ≡ years n
unfolding years
sum_of_years = total days_in_year years 2000 refl (λ n. refl)

pub years_at_most : (n : ℕ) → years n ≤ 366 * n
unfolding years
years_at_most = at_most days_in_year years 2000 refl (λ n. refl) 366 (λ y. grind (arith, nat_tests))

one_more : (y n : ℕ) → months y (suc n) ≡ months y n + days_in y (1 + n)
unfolding months
one_more y n = let one : suc n ≡ 1 + n = omega arith in ap (λ m. months y n + days_in y m) one

pub sum_of_months : (y n : ℕ) → sum (map (days_in y) (range_with_len 1 n)) ≡ months y n
unfolding months
sum_of_months y = total (days_in y) (months y) 1 refl (one_more y)

pub months_at_most : (y n : ℕ) → months y n ≤ 31 * n
unfolding months
months_at_most y = at_most (days_in y) (months y) 1 refl (one_more y) 31 (λ m. grind (arith, nat_tests))
