-- The rules that an event meets, one by one, and the check of them.
use Rattle.std.proofs.Common.{◌≡◌, ℕ, Bool, true, false, eqb, length, Ok, Err, sym, refl, ap, ◌∙◌}
use mathlib.Core.Bool.{Bool-set}
use Rattle.std.proofs.lemmas.Bool.{eq-eqb, eqb-true, and_parts, and_from, and_right, cond-true}
use Rattle.wire.proofs.Absurd.{impossible}
use Rattle.refusal.specs.declared.Fault.TheVariants.{MandatoryMissing}
use Rattle.fields.specs.Texts.{spaced, zone}
use Rattle.fields.specs.Calendar.{timed}
use Rattle.message.specs.declared.header.Header.{Header}
use Rattle.message.specs.declared.attributes.Attributes.{Attributes}
use Rattle.message.specs.declared.event.Event.{Event}
use Rattle.message.specs.Headers.{header_typed}
use Rattle.message.specs.Values.{others, attributes_typed}
use Rattle.message.specs.Rules.{listed, well_formed, complete, sound}
use Rattle.message.specs.Kinds.{element_listed}
use Rattle.message.specs.Checks.{tested, event_of, checked}

-- what is sound, in parts
pub record Parts (h : Header) (a : Attributes) : Type 0 where
  pub header : header_typed h ≡ true
  pub attributes : attributes_typed a ≡ true
  pub count : length (others a) ≡ h.attribute_count
  pub kind : listed h.kind ≡ true
  pub formed : well_formed h ≡ true
  pub full : complete h.kind a ≡ true

pub parts : (h : Header) (a : Attributes) → sound h a ≡ true → Parts h a
unfolding sound
parts h a e =
    let p5 = and_parts _ (complete h.kind a) e in
    let p4 = and_parts _ (well_formed h) p5.0 in
    let p3 = and_parts _ (listed h.kind) p4.0 in
    let p2 = and_parts _ (eqb (length (others a)) h.attribute_count) p3.0 in
    let p1 = and_parts (header_typed h) (attributes_typed a) p2.0 in
    record { header = p1.0; attributes = p1.1; count = eqb-true _ _ p2.1; kind = p3.1; formed = p4.1; full = p5.1 }

pub make_sound : (h : Header) (a : Attributes) → Parts h a → sound h a ≡ true
unfolding sound
make_sound h a p =
    and_from _ _ (and_from _ _ (and_from _ _ (and_from _ _ (and_from _ _ p.header p.attributes) (eq-eqb _ _ p.count)) p.kind) p.formed) p.full

pub not_sound : (h : Header) (a : Attributes) → complete h.kind a ≡ false → sound h a ≡ false
unfolding sound
not_sound h a e = and_right _ (complete h.kind a) e

-- so the header of an event tells a kind and a type of element that are there
pub kind_listed : (e : Event) → listed e.header.kind ≡ true
kind_listed e = (parts e.header e.attributes e.sound).kind

pub element_told : (e : Event) → element_listed e.header.element_type ≡ true
unfolding well_formed
element_told e =
    let h = e.header in
    let p4 = and_parts _ (timed h.event_time.0) (parts h e.attributes e.sound).formed in
    let p3 = and_parts _ (zone h.time_zone.0) p4.0 in
    let p2 = and_parts _ (spaced h.element_id.0) p3.0 in
    let p1 = and_parts _ (zone h.bcid.time_zone.0) p2.0 in
    (and_parts (element_listed h.element_type) (spaced h.bcid.element_id.0) p1.0).0

pub tested_true : {A : Type 0} (b : Bool) (f : b ≡ true → A) (x : A) (h : b ≡ true) → tested b f x ≡ f h
tested_true true f x h = ap f (Bool-set true true _ h)
tested_true false f x h = impossible cc

pub tested_false : {A : Type 0} (b : Bool) (f : b ≡ true → A) (x : A) → b ≡ false → tested b f x ≡ x
tested_false true f x h = impossible cc
tested_false false f x h = refl

pub checked_event : (p : ℕ) (h : Header) (a : Attributes) (ok : sound h a ≡ true) → checked p h a ≡ Ok (event_of h a ok)
checked_event p h a ok =
    let s = parts h a ok in
    cond-true _ _ _ s.kind ∙ cond-true _ _ _ s.formed ∙ tested_true (sound h a) _ _ ok

pub incomplete : (p : ℕ) (h : Header) (a : Attributes) → listed h.kind ≡ true → well_formed h ≡ true → complete h.kind a ≡ false → Err (MandatoryMissing p) ≡ checked p h a
incomplete p h a d e f = sym (cond-true _ _ _ d ∙ cond-true _ _ _ e ∙ tested_false (sound h a) _ _ (not_sound h a f))
