-- A packet that was written, taken up and read again.
use Rattle.std.specs.Prelude.{◌≡◌, ℕ, ◌≤◌, List, [], ◌∷◌, ◌++◌, length, Ok}
use Rattle.message.specs.declared.event.Event.{Event}
use Rattle.reading.specs.Events.{packet_meaning}
use Rattle.packets.specs.Packets.{taken}

pub record Returns (e : Event) (packet : List ℕ) : Type 0 where
  -- it passes the first checks, whatever lies behind it within the greatest size
  pub passes : (behind : List ℕ) → length (packet ++ behind) ≤ 4095 → taken (packet ++ behind) ≡ Ok packet
  -- it holds the event, whose header stands at 58, and nothing else
  pub events : packet_meaning packet ≡ ((e, 58) ∷ [], Ok tt)
  pub least : 142 ≤ length packet
  pub most : length packet ≤ 400
