use Rattle.std.proofs.Common.{refl}
use Rattle.digest.specs.Rounds.{sines, round_1, round_2, round_3, round_4}
use Rattle.digest.specs.Operations.{sine_of, rows}
use Rattle.digest.proofs.tables.sine.Goals as goal

pub returns : goal.returns
unfolding sine_of rows round_1 round_2 round_3 round_4 sines
returns c = refl
