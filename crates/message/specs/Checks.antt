-- The check of an event as a whole: 10, then 11, then 12, at the offset of the header.
use Rattle.std.specs.Prelude.{◌≡◌, ℕ, Bool, true, false, cond, Ok, Err, Result, refl}
use Rattle.refusal.specs.declared.Fault.{Fault}
use Rattle.refusal.specs.declared.Fault.TheVariants.{UnknownKind, HeaderForm, MandatoryMissing}
use Rattle.message.specs.declared.header.Header.{Header}
use Rattle.message.specs.declared.attributes.Attributes.{Attributes}
use Rattle.message.specs.declared.event.Event.{Event}
use Rattle.message.specs.Rules.{listed, well_formed, sound}

-- what a test makes when it passes, which may use that it did; else another
abbrev pub tested : {A : Type 0} → (b : Bool) → (b ≡ true → A) → A → A
tested true f x = f refl
tested false f x = x

abbrev pub event_of : (h : Header) (a : Attributes) → sound h a ≡ true → Event
event_of h a ok = record { header = h; attributes = a; sound = ok }

abbrev pub checked : ℕ → Header → Attributes → Result Event Fault
checked p h a =
    cond (listed h.kind)
    (cond (well_formed h)
    (tested (sound h a) (λ ok. Ok (event_of h a ok)) (Err (MandatoryMissing p)))
    (Err (HeaderForm p)))
    (Err (UnknownKind p))
