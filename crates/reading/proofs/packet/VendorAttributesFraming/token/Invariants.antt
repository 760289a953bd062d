use Rattle.std.proofs.Common.{◌≡◌, ℕ, ◌+◌, ◌-◌, ◌<◌, ◌≤◌, length, drop}
use Rattle.reading.specs.Tokens.{pick, cable_at}
use Rattle.reading.proofs.packet.VendorAttributesFraming.token.Given as goal

abbrev pub invariant-loop-attribute : goal.invariant-loop-attribute
invariant-loop-attribute l =
    (l.from.place ≤ l.place) × (l.place ≤ length l.from.bytes.now)
    × ((k : ℕ) × (length l.from.bytes.now < k + l.place) × (pick k l.place (drop l.place l.from.bytes.now) ≡ cable_at l.from.place (drop l.from.place l.from.bytes.now)))

abbrev pub decreases-loop-attribute : goal.decreases-loop-attribute
decreases-loop-attribute l = length l.from.bytes.now - l.place
