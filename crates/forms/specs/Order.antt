-- The order of events: by BCID, then by Event_Time, then by spool form, byte by byte.
use Rattle.std.specs.Cmp.Lexicographic.{slice_cmp}
use Rattle.std.specs.Ordering.{ordering_then, nat_cmp}
use Rattle.std.specs.declared.cmp.Ordering.{Ordering}
use Rattle.message.specs.declared.event.Event.{Event}
use Rattle.message.specs.Headers.{bcid_form}
use Rattle.forms.specs.Forms.{form}

unfoldable pub order : Event → Event → Ordering
order a b =
    ordering_then (slice_cmp nat_cmp (bcid_form a.header.bcid) (bcid_form b.header.bcid))
    (ordering_then (slice_cmp nat_cmp a.header.event_time.0 b.header.event_time.0) (slice_cmp nat_cmp (form a) (form b)))
