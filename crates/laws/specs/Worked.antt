-- The worked cases, gathered as one.
use Rattle.std.specs.Prelude.{◌≡◌, ℕ, true, List, [], ◌∷◌, is_ok, Ok, Err, codes}
use Rattle.refusal.specs.declared.Fault.TheVariants.{HeaderForm, UnknownItem}
use Rattle.fields.specs.Calendar.{milliseconds}
use Rattle.message.specs.declared.header.Header.{Header}
use Rattle.message.specs.declared.event.Event.{Event}
use Rattle.message.specs.Values.{attributes_of}
use Rattle.message.specs.Checks.{checked}
use Rattle.message.specs.MediaAlive.{alive_header}
use Rattle.forms.specs.Forms.{form}
use Rattle.reading.specs.Events.{spool_meaning}

-- the Media_Alive at another time
abbrev pub alive_at : List ℕ → Header
alive_at time = record {
  version_id = alive_header.version_id;
  bcid = alive_header.bcid;
  kind = alive_header.kind;
  element_type = alive_header.element_type;
  element_id = alive_header.element_id;
  time_zone = alive_header.time_zone;
  sequence_number = alive_header.sequence_number;
  event_time = record { 0 = time };
  status = alive_header.status;
  priority = alive_header.priority;
  attribute_count = alive_header.attribute_count;
  event_object = alive_header.event_object;
}

pub record Worked : Type 0 where
  -- milliseconds since 2000
  pub first_time : milliseconds (codes "20000101000000.000") ≡ 0
  pub final_time : milliseconds (codes "20991231235959.999") ≡ 3155759999999
  pub call_time : milliseconds (codes "20100524121843.407") ≡ 328018723407
  -- the last day of a February
  pub leap_day : is_ok (checked 0 (alive_at (codes "20000229000000.000")) (attributes_of [])) ≡ true
  pub no_leap_day : checked 0 (alive_at (codes "20010229000000.000")) (attributes_of []) ≡ Err (HeaderForm 0)
  -- the Media_Alive is an event; its spool holds it and nothing else
  pub alive : is_ok (checked 0 alive_header (attributes_of [])) ≡ true
  pub alive_spool : (e : Event) → checked 0 alive_header (attributes_of []) ≡ Ok e → spool_meaning (form e) ≡ ((e, 0) ∷ [], Ok tt)
  -- a reader that accepts all bytes, or none, is not this one
  pub empty_spool : spool_meaning [] ≡ ([], Ok tt)
  pub no_spool : spool_meaning (0 ∷ []) ≡ ([], Err (UnknownItem 0))
