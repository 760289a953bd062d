-- Taking up a packet: checks 1 to 3, in this order. What lies after Length is ignored.
use Rattle.std.specs.Prelude.{ℕ, cond, ◌||◌, List, length, take, Ok, Err, Result, ◌==◌, nat_lt, slice_index}
use Rattle.wire.specs.Octets.{two_at}
use Rattle.refusal.specs.declared.Fault.{Fault}
use Rattle.refusal.specs.declared.Fault.TheVariants.{PacketSize, PacketCode, PacketLength}
use Rattle.packets.specs.declared.taken_up.TakenUp.{TakenUp}

unfoldable pub taken : List ℕ → Result (List ℕ) Fault
taken bs =
    cond (nat_lt (length bs) 20 || nat_lt 4095 (length bs)) (Err PacketSize)
    (cond (slice_index bs 0 == 4)
    (cond (nat_lt (two_at 2 bs) 20 || nat_lt (length bs) (two_at 2 bs)) (Err PacketLength) (Ok (take (two_at 2 bs) bs)))
    (Err PacketCode))

-- the bytes that a packet taken up holds
abbrev pub held_packet : Result TakenUp Fault → Result (List ℕ) Fault
held_packet (Ok t) = Ok t.packet.now
held_packet (Err f) = Err f
