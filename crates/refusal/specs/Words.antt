-- Places and refusals in words.
use Rattle.std.specs.Prelude.{ℕ, List, codes}
use Rattle.refusal.specs.declared.Place.{Place}
use Rattle.refusal.specs.declared.Place.TheVariants.{Packet, Attribute, Item, Event, Output}
use Rattle.refusal.specs.declared.Fault.{Fault}
use Rattle.refusal.specs.declared.Fault.TheVariants.{PacketSize, PacketCode, PacketLength, MalformedAttribute, CutItem, UnknownItem, UnknownAttribute, WrongWidth, Misplaced, Repeated, UnknownKind, HeaderForm, MandatoryMissing, OutputTooSmall}

abbrev pub place_name : Place → List ℕ
place_name Packet = codes "packet"
place_name Attribute = codes "attribute"
place_name Item = codes "item"
place_name Event = codes "event"
place_name Output = codes "output"

abbrev pub meaning : Fault → List ℕ
meaning PacketSize = codes "fewer than 20 bytes, or more than 4,095"
meaning PacketCode = codes "the code is not that of an Accounting-Request"
meaning PacketLength = codes "Length is under 20, or over the bytes given"
meaning (MalformedAttribute _) = codes "an attribute whose lengths do not agree"
meaning (CutItem _) = codes "the spool ends inside an item"
meaning (UnknownItem _) = codes "an item of an unknown kind"
meaning (UnknownAttribute _) = codes "a CableLabs attribute of an unknown number"
meaning (WrongWidth _) = codes "a value of a wrong width, or a name that is not padded with zeros"
meaning (Misplaced _) = codes "a header where none is due, or none where one is, or the end too early"
meaning (Repeated _) = codes "a number that was met before, or does not ascend"
meaning (UnknownKind _) = codes "a kind of event that is not in the profile"
meaning (HeaderForm _) = codes "a field of the header has not its form"
meaning (MandatoryMissing _) = codes "an attribute that this kind of event must have is absent"
meaning OutputTooSmall = codes "the buffer is too small"
