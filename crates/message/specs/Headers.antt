-- The 76 bytes of a header and the 24 of a BCID, both ways.
use Rattle.std.specs.Prelude.{ℕ, ◌+◌, Bool, ◌&&◌, List, [], ◌∷◌, ◌++◌, length, ◌==◌, nat_lt}
use Rattle.wire.specs.Octets.{two, four, byte_at, two_at, four_at, part_of}
use Rattle.message.specs.declared.header.Bcid.{Bcid}
use Rattle.message.specs.declared.header.Header.{Header}

abbrev pub bcid_form : Bcid → List ℕ
bcid_form b = four b.timestamp ++ b.element_id.0 ++ b.time_zone.0 ++ four b.event_counter.0

abbrev pub header_form : Header → List ℕ
header_form h =
    two h.version_id ++ bcid_form h.bcid ++ two h.kind ++ two h.element_type ++ h.element_id.0 ++ h.time_zone.0
    ++ four h.sequence_number.0 ++ h.event_time.0 ++ four h.status ++ (h.priority ∷ []) ++ two h.attribute_count ++ (h.event_object ∷ [])

-- the BCID that stands at i
abbrev pub bcid_at : ℕ → List ℕ → Bcid
bcid_at i b = record {
  timestamp = four_at i b;
  element_id = record { 0 = part_of (i + 4) 8 b };
  time_zone = record { 0 = part_of (i + 12) 8 b };
  event_counter = record { 0 = four_at (i + 20) b };
}

abbrev pub header_of : List ℕ → Header
header_of b = record {
  version_id = two_at 0 b;
  bcid = bcid_at 2 b;
  kind = two_at 26 b;
  element_type = two_at 28 b;
  element_id = record { 0 = part_of 30 8 b };
  time_zone = record { 0 = part_of 38 8 b };
  sequence_number = record { 0 = four_at 46 b };
  event_time = record { 0 = part_of 50 18 b };
  status = four_at 68 b;
  priority = byte_at 72 b;
  attribute_count = two_at 73 b;
  event_object = byte_at 75 b;
}

-- that the numbers fit their widths, and the texts have their lengths
unfoldable pub bcid_typed : Bcid → Bool
bcid_typed b =
    nat_lt b.timestamp 4294967296 && length b.element_id.0 == 8 && length b.time_zone.0 == 8 && nat_lt b.event_counter.0 4294967296

unfoldable pub header_typed : Header → Bool
header_typed h =
    nat_lt h.version_id 65536 && bcid_typed h.bcid && nat_lt h.kind 65536 && nat_lt h.element_type 65536
    && length h.element_id.0 == 8 && length h.time_zone.0 == 8 && nat_lt h.sequence_number.0 4294967296
    && length h.event_time.0 == 18 && nat_lt h.status 4294967296 && nat_lt h.priority 256 && nat_lt h.attribute_count 65536 && nat_lt h.event_object 256
