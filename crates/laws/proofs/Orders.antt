-- Attributes in any order, and events by their forms.
use Rattle.std.proofs.Common.{◌≡◌, ℕ, ◌+◌, Bool, true, false, cond, not, List, [], ◌∷◌, ◌++◌, length, is_some, Some, None, Ok, Err, Result, Ordering, Less, Equal, Greater, sym, refl, ap, ◌∙◌, ⊎_elim}
use Rattle.std.specs.List.{list_all}
use Rattle.std.proofs.lemmas.Bool.{not-true, eq-eqb, ne_eqb, and_parts, and_from, cond-true, cond-false, cases_eq}
use Rattle.std.specs.Cmp.Lexicographic.{slice_cmp, nat_list_cmp_total}
use Rattle.std.specs.Ordering.{ordering_then, ordering_reverse, nat_cmp}
use Rattle.std.proofs.lemmas.Map.Lookups.{exact_bytes}
use Rattle.wire.specs.Octets.{two_at, four_at}
use Rattle.wire.proofs.Absurd.{impossible}
use Rattle.refusal.specs.declared.Fault.{Fault}
use Rattle.refusal.specs.declared.Fault.TheVariants.{UnknownKind, HeaderForm, MandatoryMissing}
use Rattle.message.specs.declared.event.Event.{Event}
use Rattle.message.specs.Tables.{beside}
use Rattle.std.specs.Option.{option_map}
use Rattle.message.specs.Headers.{bcid_form, bcid_at}
use Rattle.message.specs.Values.{Attribute, fits, name_of, telephone_of, cause_of, adjustment_of, attributes_of, others}
use Rattle.message.specs.Rules.{listed, well_formed, sound}
use Rattle.message.specs.Checks.{tested, event_of}
use Rattle.message.proofs.Checked.{parts}
use Rattle.message.proofs.Typed.{found_fits, others_fit, attributes_again}
use Rattle.forms.specs.declared.encoding.Encoding.TheVariants.{Spool, Packet}
use Rattle.forms.specs.Forms.{form}
use Rattle.forms.specs.Order.{order}
use Rattle.reading.specs.Events.{came, event_at}
use Rattle.reading.specs.Laws.{apart, AnyOrder, FormTells, OrderTells, moved, CheckAlone}
use Rattle.reading.proofs.Gathers.{absent}
use Rattle.reading.proofs.Again.{read_any, form_read}
use Rattle.reading.proofs.Meanings.{from_came}

pub form_tells : FormTells
form_tells e f h =
    let k : came e 0 (0 + length (form e)) [] ≡ came f 0 (0 + length (form f)) [] = sym (form_read Spool e 0 []) ∙ ap (λ x. event_at Spool 0 (x ++ [])) h ∙ form_read Spool f 0 [] in
    cc

-- the order ends with the forms
last_ties : (k t : Ordering) → ordering_then k t ≡ Equal → t ≡ Equal
last_ties Less t h = impossible cc
last_ties Equal t h = h
last_ties Greater t h = impossible cc

unreversed : (r : Ordering) → r ≡ ordering_reverse r → r ≡ Equal
unreversed Less e = impossible cc
unreversed Equal e = refl
unreversed Greater e = impossible cc

lex_itself : (x : List ℕ) → slice_cmp nat_cmp x x ≡ Equal
lex_itself x = unreversed (slice_cmp nat_cmp x x) (nat_list_cmp_total.antisymm x x)

pub order_tells : OrderTells
unfolding order
order_tells = record {
  same = λ e f h. form_tells e f (exact_bytes (form e) (form f) (last_ties (slice_cmp nat_cmp e.header.event_time.0 f.header.event_time.0) (slice_cmp nat_cmp (form e) (form f)) (last_ties (slice_cmp nat_cmp (bcid_form e.header.bcid) (bcid_form f.header.bcid)) _ h)));
  itself = λ e. ap (λ k. ordering_then k (ordering_then (slice_cmp nat_cmp e.header.event_time.0 e.header.event_time.0) (slice_cmp nat_cmp (form e) (form e)))) (lex_itself (bcid_form e.header.bcid))
      ∙ ap (λ k. ordering_then k (slice_cmp nat_cmp (form e) (form e))) (lex_itself e.header.event_time.0) ∙ lex_itself (form e);
}

all_fit : (m : List Attribute) → apart m ≡ true → ((n : ℕ) (v : List ℕ) → beside n m ≡ Some v → fits (n, v) ≡ true) → list_all fits m ≡ true
all_fit [] a h = refl
all_fit ((k, u) ∷ m) a h =
    let p = and_parts (not (is_some (beside k m))) (apart m) a in
    and_from _ _ (h k u (cond-true _ _ _ (eq-eqb k k refl)))
    (all_fit m p.1 (λ n v e. ⊎_elim (λ i. let x : None ≡ Some v = sym (absent (beside k m) (not-true _ p.0)) ∙ ap (λ z. beside z m) (sym i) ∙ e in impossible cc)
    (λ d. h n v (cond-false _ _ _ (ne_eqb n k d) ∙ e)) (cases_eq n k)))

same_attributes : (m l : List Attribute) → ((n : ℕ) → beside n m ≡ beside n l) → attributes_of m ≡ attributes_of l
same_attributes m l s = λ i. record {
  endpoint_name = option_map name_of (s 3 i);
  calling_party_number = option_map telephone_of (s 4 i);
  called_party_number = option_map telephone_of (s 5 i);
  termination_cause = option_map cause_of (s 11 i);
  related_call = option_map (bcid_at 0) (s 13 i);
  charge_number = option_map telephone_of (s 16 i);
  routing_number = option_map telephone_of (s 25 i);
  udp_port = option_map (four_at 0) (s 26 i);
  service_flow = option_map (four_at 0) (s 30 i);
  direction = option_map (two_at 0) (s 37 i);
  time_adjustment = option_map adjustment_of (s 38 i);
  flow_direction = option_map (two_at 0) (s 50 i);
}

pub any_order : AnyOrder
any_order e m p rest s =
    let a = e.attributes in
    let l = others a in
    let r = parts e.header a e.sound in
    let f = all_fit m s.once (λ n v x. found_fits l n v (others_fit a r.attributes) (sym (s.same n) ∙ x)) in
    from_came Packet p _ e p _ rest
    (read_any Packet e m p rest f s.once (s.count ∙ r.count) (same_attributes m l s.same ∙ attributes_again a r.attributes))

-- the offset alone differs
moved_tested : (q : ℕ) (b : Bool) (f : b ≡ true → Event) (p : ℕ) → moved q (tested b (λ ok. Ok (f ok)) (Err (MandatoryMissing p))) ≡ tested b (λ ok. Ok (f ok)) (Err (MandatoryMissing q))
moved_tested q true f p = refl
moved_tested q false f p = refl

moved_formed : (q : ℕ) (b : Bool) (x y : Result Event Fault) (p : ℕ) → moved q x ≡ y → moved q (cond b x (Err (HeaderForm p))) ≡ cond b y (Err (HeaderForm q))
moved_formed q true x y p h = h
moved_formed q false x y p h = refl

moved_listed : (q : ℕ) (b : Bool) (x y : Result Event Fault) (p : ℕ) → moved q x ≡ y → moved q (cond b x (Err (UnknownKind p))) ≡ cond b y (Err (UnknownKind q))
moved_listed q true x y p h = h
moved_listed q false x y p h = refl

pub check_alone : CheckAlone
check_alone p q h a = moved_listed q (listed h.kind) _ _ p (moved_formed q (well_formed h) _ _ p (moved_tested q (sound h a) (event_of h a) p))
