use Rattle.std.proofs.Common.{refl, rules}
use Rattle.std.proofs.lemmas.List.{take_rest}
use Rattle.reading.specs.Walks.{vendor_in}
use Rattle.reading.proofs.walk.vendor.Goals as goal

pub returns-then-value-lt4 : goal.returns-then-value-lt4
unfolding vendor_in
returns-then-value-lt4 c = record { read = λ rest. search rules; next = tt }

pub returns-then-read-ne4491 : goal.returns-then-read-ne4491
unfolding vendor_in
returns-then-read-ne4491 c = record { read = λ rest. search rules; next = refl }

pub returns-then-value-lt6 : goal.returns-then-value-lt6
unfolding vendor_in
returns-then-value-lt6 c = record { read = λ rest. search rules; next = tt }

pub returns : goal.returns
unfolding vendor_in
returns c = record { read = λ rest. rw (take_rest c.args.value.now 6) (search rules); next = refl }
