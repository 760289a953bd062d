use Rattle.std.proofs.Common.{◌-◌, ◌<◌, ◌^◌, map, rules, tests, arith, refl, ◌∙◌}
use Rattle.std.proofs.lemmas.Iterator.{YieldsList-from_range, YieldsList-from_map}
use Rattle.std.proofs.lemmas.Iterator.Consumers.{sum_from_yields_List, fits_from_yields_list}
use Rattle.std.specs.List.{sum, range_with_len}
use Rattle.fields.specs.Calendar.{days_in}
use Rattle.fields.proofs.Dates.{sum_of_months, months_at_most}
use Rattle.fields.proofs.date.Date.days_of_months.Goals as goal

pub sum-requires-clause-fits : goal.sum-requires-clause-fits
sum-requires-clause-fits c =
    let y = c.args.self.now.year in
    let n = c.args.self.now.month - 1 in
    let small : sum (map (days_in y) (range_with_len 1 n)) < 2 ^ 32 = omega (arith, sum_of_months y n, months_at_most y n, c.args.self.now.short) in
    fits_from_yields_list c.map.result _ (YieldsList-from_map _ (days_in y) (YieldsList-from_range 1 c.args.self.now.month n (cc) refl) c.map.ensures.closure (λ x r q k. search (rules, tests))) small

pub returns : goal.returns
returns c =
    let y = c.args.self.now.year in
    let n = c.args.self.now.month - 1 in
    sum_from_yields_List c.map.result _ c.sum.ensures.ran (YieldsList-from_map _ (days_in y) (YieldsList-from_range 1 c.args.self.now.month n (cc) refl) c.map.ensures.closure (λ x r q k. search (rules, tests)))
    ∙ sum_of_months y n
