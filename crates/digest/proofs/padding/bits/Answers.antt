use Rattle.std.proofs.Common.{◌*◌, ◌%◌, ◌^◌, ◌∙◌}
use Rattle.digest.proofs.Bytes.{bytes_are}
use Rattle.digest.proofs.padding.bits.Goals as goal

pub returns : goal.returns
returns c = c.to_le_bytes.ensures ∙ bytes_are 8 (c.args.len * 8 % 2 ^ 64)
