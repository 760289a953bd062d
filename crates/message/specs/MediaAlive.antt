-- The event that a new place holds.
use Rattle.std.specs.Prelude.{codes}
use Rattle.message.specs.declared.header.Header.{Header}

abbrev pub alive_header : Header
alive_header = record {
  version_id = 4;
  bcid = record {
    timestamp = 0x4bfa4473;
    element_id = record { 0 = codes "   32631" };
    time_zone = record { 0 = codes "1+030000" };
    event_counter = record { 0 = 9 };
  };
  kind = 20;
  element_type = 1;
  element_id = record { 0 = codes "   32631" };
  time_zone = record { 0 = codes "1+030000" };
  sequence_number = record { 0 = 0 };
  event_time = record { 0 = codes "20100524121843.407" };
  status = 8;
  priority = 128;
  attribute_count = 0;
  event_object = 0;
}
