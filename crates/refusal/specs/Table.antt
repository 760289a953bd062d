-- Each refusal with the number, the place and the offset under which it is told.
use Rattle.std.specs.Prelude.{ℕ}
use Rattle.refusal.specs.declared.Place.{Place}
use Rattle.refusal.specs.declared.Place.TheVariants.{Packet, Attribute, Item, Event, Output}
use Rattle.refusal.specs.declared.Told.{Told}
use Rattle.refusal.specs.declared.Fault.{Fault}
use Rattle.refusal.specs.declared.Fault.TheVariants.{PacketSize, PacketCode, PacketLength, MalformedAttribute, CutItem, UnknownItem, UnknownAttribute, WrongWidth, Misplaced, Repeated, UnknownKind, HeaderForm, MandatoryMissing, OutputTooSmall}

abbrev pub in_place : ℕ → Place → ℕ → Told
in_place n w p = record { number = n; place = w; offset = p }

abbrev pub told : Fault → Told
told PacketSize = in_place 1 Packet 0
told PacketCode = in_place 2 Packet 0
told PacketLength = in_place 3 Packet 0
told (MalformedAttribute p) = in_place 4 Attribute p
told (CutItem p) = in_place 5 Item p
told (UnknownItem p) = in_place 6 Item p
told (UnknownAttribute p) = in_place 6 Event p
told (WrongWidth p) = in_place 7 Event p
told (Misplaced p) = in_place 8 Event p
told (Repeated p) = in_place 9 Event p
told (UnknownKind p) = in_place 10 Event p
told (HeaderForm p) = in_place 11 Event p
told (MandatoryMissing p) = in_place 12 Event p
told OutputTooSmall = in_place 15 Output 0
