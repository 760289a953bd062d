use Rattle.std.proofs.Common.{◌-◌, length, arith}
use Rattle.message.proofs.Names.{name_laid}
use Rattle.message.proofs.attributes.EndpointName.read.Goals as goal

pub returns : goal.returns
returns c = name_laid c.args.bytes.now c.copy_from_slice.new.self (length c.args.bytes.now - 0) c.copy_from_slice.ensures.after (omega arith)
