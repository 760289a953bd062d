use Rattle.reading.proofs.Bounds.{lengths}
use Rattle.laws.proofs.lengths.Goals as goal

pub returns : goal.returns
returns c = lengths
