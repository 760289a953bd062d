use Rattle.std.proofs.Common.{◌-◌, ◌<◌, ◌^◌, map, rules, tests, arith, refl, ◌∙◌}
use Rattle.std.proofs.lemmas.Iterator.{YieldsList-from_range, YieldsList-from_map}
use Rattle.std.proofs.lemmas.Iterator.Consumers.{sum_from_yields_List, fits_from_yields_list}
use Rattle.std.specs.List.{sum, range_with_len}
use Rattle.fields.proofs.Dates.{days_in_year, sum_of_years, years_at_most}
use Rattle.fields.proofs.date.Date.days_of_years.Goals as goal

pub sum-requires-clause-fits : goal.sum-requires-clause-fits
sum-requires-clause-fits c =
    let n = c.args.self.now.year - 2000 in
    let small : sum (map days_in_year (range_with_len 2000 n)) < 2 ^ 32 = omega (arith, sum_of_years n, years_at_most n, c.args.self.now.short) in
    fits_from_yields_list c.map.result _ (YieldsList-from_map _ days_in_year (YieldsList-from_range 2000 c.args.self.now.year n (cc) refl) c.map.ensures.closure (λ x r q k. search (rules, tests))) small

pub returns : goal.returns
returns c =
    let n = c.args.self.now.year - 2000 in
    sum_from_yields_List c.map.result _ c.sum.ensures.ran (YieldsList-from_map _ days_in_year (YieldsList-from_range 2000 c.args.self.now.year n (cc) refl) c.map.ensures.closure (λ x r q k. search (rules, tests)))
    ∙ sum_of_years n
