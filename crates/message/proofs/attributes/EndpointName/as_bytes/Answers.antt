use Rattle.std.proofs.Common.{◌≤◌, length, sym, rules}
use Rattle.std.proofs.lemmas.List.{take_all}
use Rattle.message.proofs.attributes.EndpointName.as_bytes.Goals as goal

pub returns : goal.returns
returns c = let h : length c.args.self.now.text ≤ c.args.self.now.«length» = search rules in record { value = sym (take_all _ _ h); short = search rules }
