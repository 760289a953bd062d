use Rattle.message.proofs.Alive.{alive_sound}
use Rattle.message.proofs.event.Event.media_alive.Goals as goal

pub invariant_of-result : goal.invariant_of-result
invariant_of-result c = record { sound = rw (c.number.ensures, c.number-2.ensures, c.none-attributes.ensures) alive_sound }
