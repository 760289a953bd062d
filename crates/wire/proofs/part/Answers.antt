use Rattle.std.proofs.Common.{take, ap, ◌∙◌, rules}
use Rattle.std.proofs.lemmas.List.{take_rest}
use Rattle.wire.proofs.part.Goals as goal

pub returns : goal.returns
returns g c = record { len = search rules; bytes = c.in-Some.ensures.cases.0 ∙ ap (take g.row.N) (take_rest c.args.bytes.now c.args.at) }
