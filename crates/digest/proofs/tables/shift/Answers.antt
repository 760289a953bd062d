use Rattle.std.proofs.Common.{refl}
use Rattle.digest.specs.Rounds.{round_1, round_2, round_3, round_4}
use Rattle.digest.specs.Operations.{shift_of, rows}
use Rattle.digest.proofs.Steps.{shift_above, shift_below}
use Rattle.digest.proofs.tables.shift.Goals as goal

pub returns : goal.returns
unfolding shift_of rows round_1 round_2 round_3 round_4
returns c = record { value = refl; within = (shift_above c.args.i c.requires, shift_below c.args.i c.requires) }
