-- The worked cases, by computation.
use Rattle.std.proofs.Common.{◌≡◌, ℕ, ◌+◌, [], length, Ok, sym, refl, ap, ◌∙◌, append-nil}
use Rattle.fields.specs.Texts.{pair_at, zone}
use Rattle.fields.specs.Calendar.{years, months, timed, days_before, milliseconds}
use Rattle.message.specs.Headers.{bcid_typed, header_typed}
use Rattle.message.specs.Values.{others, attributes_typed}
use Rattle.message.specs.Rules.{well_formed, sound}
use Rattle.forms.specs.declared.encoding.Encoding.TheVariants.{Spool}
use Rattle.forms.specs.Forms.{form}
use Rattle.reading.specs.Tokens.{token_at, item_at}
use Rattle.reading.specs.Events.{event_at, steps, from, after, spool_meaning}
use Rattle.reading.proofs.Again.{reads_again}
use Rattle.laws.specs.Worked.{Worked}

nothing_left : (p : ℕ) → from Spool p [] ≡ ([], Ok tt)
unfolding steps event_at token_at item_at
nothing_left p = refl

pub worked : Worked
unfolding milliseconds days_before years months pair_at timed zone well_formed sound header_typed bcid_typed attributes_typed others steps event_at token_at item_at
worked = record {
  first_time = refl;
  final_time = refl;
  call_time = refl;
  leap_day = refl;
  no_leap_day = refl;
  alive = refl;
  alive_spool = λ e h. ap spool_meaning (sym (append-nil (form e))) ∙ reads_again Spool e 0 [] ∙ ap (after e 0) (nothing_left (0 + length (form e)));
  empty_spool = refl;
  no_spool = refl;
}
