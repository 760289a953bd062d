use Rattle.std.proofs.Common.{◌∙◌, ap}
use Rattle.digest.specs.Words.{number}
use Rattle.digest.specs.Rounds.{word}
use Rattle.digest.proofs.Bytes.{number_is}
use Rattle.digest.proofs.rounds.word_at.Goals as goal

pub returns : goal.returns
unfolding word
returns c = c.from_le_bytes.ensures ∙ number_is c.part.result c.part.ensures.len ∙ ap number c.part.ensures.bytes
