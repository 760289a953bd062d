use Rattle.std.proofs.Common.{rules, ◌+◌, ◌≤◌, length, arith, ap, rules}
use Rattle.std.proofs.lemmas.List.{drop-drop, drop-replicate}
use Rattle.std.proofs.lemmas.Slice.{overwrites}
use Rattle.wire.specs.Filled.{counted}
use Rattle.wire.proofs.buffer.Buffer.push.Goals as goal

pub invariant_of-self : goal.invariant_of-self
invariant_of-self g c =
    let n = counted g.row.N c.self.inside.len c.self.inside.bytes c.self.invariant in
    let room : c.self.inside.len + length c.args.more.now ≤ g.row.N = omega (arith, ap length c.self.view_is, n) in
    record { within = room; size = search (rules, overwrites); zeros = search (rules, overwrites, drop-drop, drop-replicate) }
