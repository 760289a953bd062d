-- Attributes as values and as bytes: what is written is read again, and what is read is written again.
use Rattle.std.proofs.Common.{◌≡◌, ℕ, zero, suc, ◌-◌, ◌≤◌, Bool, true, false, cond, ◌&&◌, eqb, ltb, leb, List, [], ◌∷◌, ◌++◌, length, take, drop, replicate, is_some, Some, None, Option, sym, refl, ap, ◌∙◌, subst, ⊎_elim, arith, length-append, length-drop}
use lib.ListN.{length-replicate}
use Rattle.std.specs.List.{list_all}
use Rattle.std.proofs.lemmas.List.{take_all, take_at, drop_at, take-append-drop, length-take-le}
use Rattle.std.proofs.lemmas.Bool.{eq-eqb, ne_eqb, eqb-true, leb-true, le-leb, ltb-true, lt-ltb, and_parts, and_from, cond-true, cond-false, cases_eq}
use Rattle.wire.specs.Octets.{Octets, two, four, two_at, four_at, part_of}
use Rattle.wire.proofs.Absurd.{impossible}
use Rattle.wire.proofs.Chains.{join}
use Rattle.wire.proofs.Numbers.{two_long, four_long, two_small, four_small, two_of, four_of, two_back, four_back}
use Rattle.message.specs.declared.header.Bcid.{Bcid}
use Rattle.message.specs.declared.attributes.EndpointName.{EndpointName}
use Rattle.message.specs.declared.attributes.TerminationCause.{TerminationCause}
use Rattle.message.specs.declared.attributes.Attributes.{Attributes}
use Rattle.message.specs.Tables.{beside, held}
use Rattle.std.specs.Option.{option_map}
use Rattle.message.specs.Headers.{bcid_form, bcid_at, bcid_typed}
use Rattle.message.specs.Values.{Attribute, widths, fits, zeros, name_form, name_of, name_typed, telephone_of, telephone_typed, cause_form, cause_of, cause_typed, adjustment_of, adjustment_typed, value, attributes_of, attributes_typed, put_before, present, others, kept}
use Rattle.message.proofs.Wires.{bcid_parts, bcid_long, bcid_at_typed, bcid_formed, bcid_back}
use Rattle.message.proofs.Listings.{Table, widths_fall, beside_present}

-- options
pub opt_round : {A : Type 0} (enc : A → List ℕ) (dec : List ℕ → A) (o : Option (List ℕ)) → ((v : List ℕ) → o ≡ Some v → enc (dec v) ≡ v) → option_map enc (option_map dec o) ≡ o
opt_round enc dec None h = refl
opt_round enc dec (Some v) h = ap Some (h v refl)

opt_back : {A : Type 0} (enc : A → List ℕ) (dec : List ℕ → A) (p : A → Bool) (o : Option A) → held p o ≡ true → ((x : A) → p x ≡ true → dec (enc x) ≡ x) → option_map dec (option_map enc o) ≡ o
opt_back enc dec p None t h = refl
opt_back enc dec p (Some x) t h = ap Some (h x t)

held_of : {A : Type 0} (dec : List ℕ → A) (p : A → Bool) (o : Option (List ℕ)) → ((v : List ℕ) → o ≡ Some v → p (dec v) ≡ true) → held p (option_map dec o) ≡ true
held_of dec p None h = refl
held_of dec p (Some v) h = h v refl

before_fits : {A : Type 0} (n : ℕ) (enc : A → List ℕ) (p : A → Bool) (o : Option A) (l : List Attribute) → held p o ≡ true → ((x : A) → p x ≡ true → fits (n, enc x) ≡ true) → list_all fits l ≡ true → list_all fits (put_before n (option_map enc o) l) ≡ true
before_fits n enc p None l t h k = k
before_fits n enc p (Some x) l t h k = and_from _ _ (h x t) k

opt_cond : {A B : Type 0} (f : A → B) (b : Bool) (x y : Option A) → option_map f (cond b x y) ≡ cond b (option_map f x) (option_map f y)
opt_cond f true x y = refl
opt_cond f false x y = refl

some_twice : {A : Type 0} (enc : A → List ℕ) (dec : List ℕ → A) (o : Option (List ℕ)) → is_some (option_map enc (option_map dec o)) ≡ is_some o
some_twice enc dec None = refl
some_twice enc dec (Some v) = refl

-- widths
pub between : (a b k : ℕ) → leb a k && leb k b ≡ true → (a ≤ k) × (k ≤ b)
between a b k e = let p = and_parts (leb a k) (leb k b) e in (leb-true a k p.0, leb-true k b p.1)

pub exactly : (a k : ℕ) → leb a k && leb k a ≡ true → k ≡ a
exactly a k e = let p = between a a k e in let x = p.0 in let y = p.1 in omega arith

wide : (a k : ℕ) → k ≡ a → leb a k && leb k a ≡ true
wide a k e = and_from _ _ (le-leb a k (omega arith)) (le-leb k a (omega arith))

pub found_fits : (l : List Attribute) (m : ℕ) (v : List ℕ) → list_all fits l ≡ true → beside m l ≡ Some v → fits (m, v) ≡ true
found_fits [] m v f e = impossible cc
found_fits ((n, u) ∷ l) m v f e =
    let q = and_parts (fits (n, u)) (list_all fits l) f in
    ⊎_elim (λ i. let k : Some u ≡ Some v = sym (cond-true _ _ _ (eq-eqb m n i)) ∙ e in let j : u ≡ v = cc in (λ t. fits (i t, sym j t)) ∙ q.0)
    (λ d. found_fits l m v q.1 (sym (cond-false _ _ _ (ne_eqb m n d)) ∙ e)) (cases_eq m n)

-- names
pub zeros_replicate : (n : ℕ) → zeros (replicate n 0) ≡ true
zeros_replicate zero = refl
zeros_replicate (suc n) = zeros_replicate n

pub zeros_are : (bs : List ℕ) → zeros bs ≡ true → bs ≡ replicate (length bs) 0
zeros_are [] h = refl
zeros_are (b ∷ bs) h =
    let p = and_parts (eqb b 0) (zeros bs) h in
    λ i. eqb-true b 0 p.0 i ∷ zeros_are bs p.1 i

name_of_typed : (v : List ℕ) → leb 1 (length v) && leb (length v) 32 ≡ true → name_typed (name_of v) ≡ true
unfolding name_typed
name_of_typed v e =
    let p = between 1 32 (length v) e in
    let x = p.1 in
    let z : List ℕ = replicate (32 - length v) 0 in
    let n : length (v ++ z) ≡ 32 = omega (arith, length-append v z, length-replicate {A = ℕ} (32 - length v) 0) in
    and_from _ _ (and_from _ _ e (eq-eqb _ _ n)) (ap zeros (drop_at v z (length v) refl) ∙ zeros_replicate (32 - length v))

pub record NameTyped (x : EndpointName) : Type 0 where
  pub least : 1 ≤ x.«length»
  pub most : x.«length» ≤ 32
  pub long : length x.text ≡ 32
  pub clean : zeros (drop x.«length» x.text) ≡ true

pub name_parts : (x : EndpointName) → name_typed x ≡ true → NameTyped x
unfolding name_typed
name_parts x e =
    let p3 = and_parts _ (zeros (drop x.«length» x.text)) e in
    let p2 = and_parts _ (eqb (length x.text) 32) p3.0 in
    let p1 = between 1 32 x.«length» p2.0 in
    record { least = p1.0; most = p1.1; long = eqb-true _ _ p2.1; clean = p3.1 }

name_long : (x : EndpointName) → NameTyped x → length (name_form x) ≡ x.«length»
name_long x t = let a = t.most in let b = t.long in let h : x.«length» ≤ length x.text = omega arith in length-take-le _ _ h

name_again : (x : EndpointName) → name_typed x ≡ true → name_of (name_form x) ≡ x
name_again x e =
    let t = name_parts x e in
    let n = name_long x t in
    let l : length (drop x.«length» x.text) ≡ 32 - x.«length» = length-drop x.«length» x.text ∙ ap (λ k. k - x.«length») t.long in
    let d : replicate (32 - length (name_form x)) 0 ≡ drop x.«length» x.text = ap (λ k. replicate (32 - k) 0) n ∙ ap (λ k. replicate k 0) (sym l) ∙ sym (zeros_are (drop x.«length» x.text) t.clean) in
    λ i. record { «length» = n i; text = (ap (λ z. name_form x ++ z) d ∙ take-append-drop x.«length» x.text) i }

name_fits : (x : EndpointName) → name_typed x ≡ true → fits (3, name_form x) ≡ true
name_fits x e =
    let t = name_parts x e in
    let n = name_long x t in
    let a = t.least in let b = t.most in
    and_from _ _ (le-leb 1 (length (name_form x)) (omega arith)) (le-leb (length (name_form x)) 32 (omega arith))

-- causes
cause_of_typed : (v : List ℕ) → cause_typed (cause_of v) ≡ true
unfolding cause_typed
cause_of_typed v = and_from _ _ (lt-ltb _ _ (two_small 0 v)) (lt-ltb _ _ (four_small 2 v))

cause_fits : (x : TerminationCause) → fits (11, cause_form x) ≡ true
cause_fits x = wide 6 (length (cause_form x)) (simp (length-append, two_long, four_long) refl)

cause_again : (x : TerminationCause) → cause_typed x ≡ true → cause_of (cause_form x) ≡ x
unfolding cause_typed
cause_again x e =
    let s = two x.source_document in
    let k = four x.cause_code in
    let p = and_parts (ltb x.source_document 65536) (ltb x.cause_code 4294967296) e in
    let n : length (s ++ k) ≡ 6 = length-append s k ∙ simp (two_long, four_long) refl in
    let f : s ≡ part_of 0 2 (s ++ k) = sym (take_at s k 2 (two_long _)) in
    let g : k ≡ part_of 2 4 (s ++ k) = sym (ap (take 4) (drop_at s k 2 (two_long _)) ∙ take_all 4 k (omega (arith, four_long x.cause_code))) in
    λ i. record { source_document = two_back (s ++ k) 0 _ (omega arith) (ltb-true _ _ p.0) f i; cause_code = four_back (s ++ k) 2 _ (omega arith) (ltb-true _ _ p.1) g i }

-- numbers
two_again : (n : ℕ) → ltb n 65536 ≡ true → two_at 0 (two n) ≡ n
two_again n e = two_back (two n) 0 n (omega (arith, two_long n)) (ltb-true _ _ e) (sym (take_all 2 (two n) (omega (arith, two_long n))))

four_again : (n : ℕ) → ltb n 4294967296 ≡ true → four_at 0 (four n) ≡ n
four_again n e = four_back (four n) 0 n (omega (arith, four_long n)) (ltb-true _ _ e) (sym (take_all 4 (four n) (omega (arith, four_long n))))

bcid_again : (x : Bcid) → bcid_typed x ≡ true → bcid_at 0 (bcid_form x) ≡ x
bcid_again x e =
    let t = bcid_parts x e in
    let n : length (bcid_form x) ≡ 24 = bcid_long x t in
    bcid_back (bcid_form x) 0 (omega arith) x t (sym (take_all 24 (bcid_form x) (omega arith)))

-- bytes of a width, written again
module _ (v : List ℕ) (o : Octets v) where
  two_formed : length v ≡ 2 → two (two_at 0 v) ≡ v
  two_formed n = two_of v 0 o (omega arith) ∙ take_all 2 v (omega arith)

  four_formed : length v ≡ 4 → four (four_at 0 v) ≡ v
  four_formed n = four_of v 0 o (omega arith) ∙ take_all 4 v (omega arith)

  cause_formed : length v ≡ 6 → cause_form (cause_of v) ≡ v
  cause_formed n = join v 0 2 4 (two_of v 0 o (omega arith)) (four_of v 2 o (omega arith)) ∙ take_all 6 v (omega arith)

  bcid_formed_24 : length v ≡ 24 → bcid_form (bcid_at 0 v) ≡ v
  bcid_formed_24 n = bcid_formed v 0 (omega arith) o ∙ take_all 24 v (omega arith)

name_formed : (v : List ℕ) → name_form (name_of v) ≡ v
name_formed v = take_at v _ (length v) refl

-- what is read has the right widths
pub attributes_of_typed : (l : List Attribute) → list_all fits l ≡ true → attributes_typed (attributes_of l) ≡ true
unfolding attributes_typed
attributes_of_typed l f =
    and_from _ _ (and_from _ _ (and_from _ _ (and_from _ _ (and_from _ _ (and_from _ _ (and_from _ _ (and_from _ _ (and_from _ _ (and_from _ _ (and_from _ _
    (held_of name_of name_typed (beside 3 l) (λ v e. name_of_typed v (found_fits l 3 v f e)))
    (held_of telephone_of telephone_typed (beside 4 l) (λ v e. eq-eqb _ _ (exactly 20 _ (found_fits l 4 v f e)))))
    (held_of telephone_of telephone_typed (beside 5 l) (λ v e. eq-eqb _ _ (exactly 20 _ (found_fits l 5 v f e)))))
    (held_of cause_of cause_typed (beside 11 l) (λ v e. cause_of_typed v)))
    (held_of (bcid_at 0) bcid_typed (beside 13 l) (λ v e. let n = exactly 24 (length v) (found_fits l 13 v f e) in bcid_at_typed v 0 (omega arith))))
    (held_of telephone_of telephone_typed (beside 16 l) (λ v e. eq-eqb _ _ (exactly 20 _ (found_fits l 16 v f e)))))
    (held_of telephone_of telephone_typed (beside 25 l) (λ v e. eq-eqb _ _ (exactly 20 _ (found_fits l 25 v f e)))))
    (held_of (four_at 0) (λ n. ltb n 4294967296) (beside 26 l) (λ v e. lt-ltb _ _ (four_small 0 v))))
    (held_of (four_at 0) (λ n. ltb n 4294967296) (beside 30 l) (λ v e. lt-ltb _ _ (four_small 0 v))))
    (held_of (two_at 0) (λ n. ltb n 65536) (beside 37 l) (λ v e. lt-ltb _ _ (two_small 0 v))))
    (held_of adjustment_of adjustment_typed (beside 38 l) (λ v e. eq-eqb _ _ (exactly 8 _ (found_fits l 38 v f e)))))
    (held_of (two_at 0) (λ n. ltb n 65536) (beside 50 l) (λ v e. lt-ltb _ _ (two_small 0 v)))

-- one by one
pub record AttributesTyped (a : Attributes) : Type 0 where
  pub t3 : held name_typed a.endpoint_name ≡ true
  pub t4 : held telephone_typed a.calling_party_number ≡ true
  pub t5 : held telephone_typed a.called_party_number ≡ true
  pub t11 : held cause_typed a.termination_cause ≡ true
  pub t13 : held bcid_typed a.related_call ≡ true
  pub t16 : held telephone_typed a.charge_number ≡ true
  pub t25 : held telephone_typed a.routing_number ≡ true
  pub t26 : held (λ n. ltb n 4294967296) a.udp_port ≡ true
  pub t30 : held (λ n. ltb n 4294967296) a.service_flow ≡ true
  pub t37 : held (λ n. ltb n 65536) a.direction ≡ true
  pub t38 : held adjustment_typed a.time_adjustment ≡ true
  pub t50 : held (λ n. ltb n 65536) a.flow_direction ≡ true

pub attributes_parts : (a : Attributes) → attributes_typed a ≡ true → AttributesTyped a
unfolding attributes_typed
attributes_parts a e =
    let q11 = and_parts _ (held (λ n. ltb n 65536) a.flow_direction) e in
    let q10 = and_parts _ (held adjustment_typed a.time_adjustment) q11.0 in
    let q9 = and_parts _ (held (λ n. ltb n 65536) a.direction) q10.0 in
    let q8 = and_parts _ (held (λ n. ltb n 4294967296) a.service_flow) q9.0 in
    let q7 = and_parts _ (held (λ n. ltb n 4294967296) a.udp_port) q8.0 in
    let q6 = and_parts _ (held telephone_typed a.routing_number) q7.0 in
    let q5 = and_parts _ (held telephone_typed a.charge_number) q6.0 in
    let q4 = and_parts _ (held bcid_typed a.related_call) q5.0 in
    let q3 = and_parts _ (held cause_typed a.termination_cause) q4.0 in
    let q2 = and_parts _ (held telephone_typed a.called_party_number) q3.0 in
    let q1 = and_parts (held name_typed a.endpoint_name) (held telephone_typed a.calling_party_number) q2.0 in
    record { t3 = q1.0; t4 = q1.1; t5 = q2.1; t11 = q3.1; t13 = q4.1; t16 = q5.1; t25 = q6.1; t26 = q7.1; t30 = q8.1; t37 = q9.1; t38 = q10.1; t50 = q11.1 }

-- what is there has the widths of the table
pub others_fit : (a : Attributes) → attributes_typed a ≡ true → list_all fits (others a) ≡ true
unfolding others
others_fit a e =
    let t = attributes_parts a e in
    before_fits 50 two (λ n. ltb n 65536) a.flow_direction _ t.t50 (λ x p. wide 2 _ (two_long x))
    (before_fits 38 (λ x. x.0) adjustment_typed a.time_adjustment _ t.t38 (λ x p. wide 8 _ (eqb-true _ _ p))
    (before_fits 37 two (λ n. ltb n 65536) a.direction _ t.t37 (λ x p. wide 2 _ (two_long x))
    (before_fits 30 four (λ n. ltb n 4294967296) a.service_flow _ t.t30 (λ x p. wide 4 _ (four_long x))
    (before_fits 26 four (λ n. ltb n 4294967296) a.udp_port _ t.t26 (λ x p. wide 4 _ (four_long x))
    (before_fits 25 (λ x. x.0) telephone_typed a.routing_number _ t.t25 (λ x p. wide 20 _ (eqb-true _ _ p))
    (before_fits 16 (λ x. x.0) telephone_typed a.charge_number _ t.t16 (λ x p. wide 20 _ (eqb-true _ _ p))
    (before_fits 13 bcid_form bcid_typed a.related_call _ t.t13 (λ x p. wide 24 _ (bcid_long x (bcid_parts x p)))
    (before_fits 11 cause_form cause_typed a.termination_cause _ t.t11 (λ x p. cause_fits x)
    (before_fits 5 (λ x. x.0) telephone_typed a.called_party_number _ t.t5 (λ x p. wide 20 _ (eqb-true _ _ p))
    (before_fits 4 (λ x. x.0) telephone_typed a.calling_party_number _ t.t4 (λ x p. wide 20 _ (eqb-true _ _ p))
    (before_fits 3 name_form name_typed a.endpoint_name _ t.t3 name_fits refl)))))))))))

-- attributes, written and read again
pub attributes_again : (a : Attributes) → attributes_typed a ≡ true → attributes_of (others a) ≡ a
unfolding others
attributes_again a e =
    let t = attributes_parts a e in
    let at : (k : ℕ) (w : ℕ × ℕ) → beside k widths ≡ Some w → beside k (present widths (λ n. value n a)) ≡ value k a = λ k w h. beside_present widths (λ n. value n a) k w widths_fall h in
    λ i. record {
      endpoint_name = (ap (option_map name_of) (at 3 (1, 32) refl) ∙ opt_back name_form name_of name_typed _ t.t3 name_again) i;
      calling_party_number = (ap (option_map telephone_of) (at 4 (20, 20) refl) ∙ opt_back (λ x. x.0) telephone_of telephone_typed _ t.t4 (λ x p. refl)) i;
      called_party_number = (ap (option_map telephone_of) (at 5 (20, 20) refl) ∙ opt_back (λ x. x.0) telephone_of telephone_typed _ t.t5 (λ x p. refl)) i;
      termination_cause = (ap (option_map cause_of) (at 11 (6, 6) refl) ∙ opt_back cause_form cause_of cause_typed _ t.t11 cause_again) i;
      related_call = (ap (option_map (bcid_at 0)) (at 13 (24, 24) refl) ∙ opt_back bcid_form (bcid_at 0) bcid_typed _ t.t13 bcid_again) i;
      charge_number = (ap (option_map telephone_of) (at 16 (20, 20) refl) ∙ opt_back (λ x. x.0) telephone_of telephone_typed _ t.t16 (λ x p. refl)) i;
      routing_number = (ap (option_map telephone_of) (at 25 (20, 20) refl) ∙ opt_back (λ x. x.0) telephone_of telephone_typed _ t.t25 (λ x p. refl)) i;
      udp_port = (ap (option_map (four_at 0)) (at 26 (4, 4) refl) ∙ opt_back four (four_at 0) (λ n. ltb n 4294967296) _ t.t26 four_again) i;
      service_flow = (ap (option_map (four_at 0)) (at 30 (4, 4) refl) ∙ opt_back four (four_at 0) (λ n. ltb n 4294967296) _ t.t30 four_again) i;
      direction = (ap (option_map (two_at 0)) (at 37 (2, 2) refl) ∙ opt_back two (two_at 0) (λ n. ltb n 65536) _ t.t37 two_again) i;
      time_adjustment = (ap (option_map adjustment_of) (at 38 (8, 8) refl) ∙ opt_back (λ x. x.0) adjustment_of adjustment_typed _ t.t38 (λ x p. refl)) i;
      flow_direction = (ap (option_map (two_at 0)) (at 50 (2, 2) refl) ∙ opt_back two (two_at 0) (λ n. ltb n 65536) _ t.t50 two_again) i;
    }

-- attributes, read and written again
pub others_of : (l : List Attribute) → list_all fits l ≡ true → ((n : ℕ) (v : List ℕ) → beside n l ≡ Some v → Octets v) → others (attributes_of l) ≡ present widths (λ n. beside n l)
unfolding others
others_of l f o =
    λ i.
    put_before 50 (opt_round two (two_at 0) (beside 50 l) (λ v e. two_formed v (o 50 v e) (exactly 2 _ (found_fits l 50 v f e))) i)
    (put_before 38 (opt_round (λ x. x.0) adjustment_of (beside 38 l) (λ v e. refl) i)
    (put_before 37 (opt_round two (two_at 0) (beside 37 l) (λ v e. two_formed v (o 37 v e) (exactly 2 _ (found_fits l 37 v f e))) i)
    (put_before 30 (opt_round four (four_at 0) (beside 30 l) (λ v e. four_formed v (o 30 v e) (exactly 4 _ (found_fits l 30 v f e))) i)
    (put_before 26 (opt_round four (four_at 0) (beside 26 l) (λ v e. four_formed v (o 26 v e) (exactly 4 _ (found_fits l 26 v f e))) i)
    (put_before 25 (opt_round (λ x. x.0) telephone_of (beside 25 l) (λ v e. refl) i)
    (put_before 16 (opt_round (λ x. x.0) telephone_of (beside 16 l) (λ v e. refl) i)
    (put_before 13 (opt_round bcid_form (bcid_at 0) (beside 13 l) (λ v e. bcid_formed_24 v (o 13 v e) (exactly 24 _ (found_fits l 13 v f e))) i)
    (put_before 11 (opt_round cause_form cause_of (beside 11 l) (λ v e. cause_formed v (o 11 v e) (exactly 6 _ (found_fits l 11 v f e))) i)
    (put_before 5 (opt_round (λ x. x.0) telephone_of (beside 5 l) (λ v e. refl) i)
    (put_before 4 (opt_round (λ x. x.0) telephone_of (beside 4 l) (λ v e. refl) i)
    (put_before 3 (opt_round name_form name_of (beside 3 l) (λ v e. name_formed v) i) [])))))))))))

-- how many are there
abbrev tally : Table → (ℕ → Bool) → ℕ
tally [] g = 0
tally ((n, w) ∷ t) g = cond (g n) (suc (tally t g)) (tally t g)

length_before : (n : ℕ) (o : Option (List ℕ)) (l : List Attribute) → length (put_before n o l) ≡ cond (is_some o) (suc (length l)) (length l)
length_before n None l = refl
length_before n (Some v) l = refl

length_present : (t : Table) (f : ℕ → Option (List ℕ)) → length (present t f) ≡ tally t (λ n. is_some (f n))
length_present [] f = refl
length_present ((n, w) ∷ t) f = length_before n (f n) (present t f) ∙ ap (λ k. cond (is_some (f n)) (suc k) k) (length_present t f)

pub others_count : (l : List Attribute) → length (others (attributes_of l)) ≡ length (present widths (λ n. beside n l))
unfolding others
others_count l =
    let m : Bool → ℕ → ℕ = λ b k. cond b (suc k) k in
    length_present widths (λ n. value n (attributes_of l))
    ∙ (λ i. m (some_twice two (two_at 0) (beside 50 l) i) (m (some_twice (λ x. x.0) adjustment_of (beside 38 l) i) (m (some_twice two (two_at 0) (beside 37 l) i)
    (m (some_twice four (four_at 0) (beside 30 l) i) (m (some_twice four (four_at 0) (beside 26 l) i) (m (some_twice (λ x. x.0) telephone_of (beside 25 l) i)
    (m (some_twice (λ x. x.0) telephone_of (beside 16 l) i) (m (some_twice bcid_form (bcid_at 0) (beside 13 l) i) (m (some_twice cause_form cause_of (beside 11 l) i)
    (m (some_twice (λ x. x.0) telephone_of (beside 5 l) i) (m (some_twice (λ x. x.0) telephone_of (beside 4 l) i) (m (some_twice name_form name_of (beside 3 l) i) 0))))))))))))
    ∙ sym (length_present widths (λ n. beside n l))

-- one more value kept
pub kept_of : (k : ℕ) (v : List ℕ) (l : List Attribute) → kept k v (attributes_of l) ≡ attributes_of ((k, v) ∷ l)
kept_of k v l = λ i. record {
  endpoint_name = sym (opt_cond name_of (eqb 3 k) (Some v) (beside 3 l)) i;
  calling_party_number = sym (opt_cond telephone_of (eqb 4 k) (Some v) (beside 4 l)) i;
  called_party_number = sym (opt_cond telephone_of (eqb 5 k) (Some v) (beside 5 l)) i;
  termination_cause = sym (opt_cond cause_of (eqb 11 k) (Some v) (beside 11 l)) i;
  related_call = sym (opt_cond (bcid_at 0) (eqb 13 k) (Some v) (beside 13 l)) i;
  charge_number = sym (opt_cond telephone_of (eqb 16 k) (Some v) (beside 16 l)) i;
  routing_number = sym (opt_cond telephone_of (eqb 25 k) (Some v) (beside 25 l)) i;
  udp_port = sym (opt_cond (four_at 0) (eqb 26 k) (Some v) (beside 26 l)) i;
  service_flow = sym (opt_cond (four_at 0) (eqb 30 k) (Some v) (beside 30 l)) i;
  direction = sym (opt_cond (two_at 0) (eqb 37 k) (Some v) (beside 37 l)) i;
  time_adjustment = sym (opt_cond adjustment_of (eqb 38 k) (Some v) (beside 38 l)) i;
  flow_direction = sym (opt_cond (two_at 0) (eqb 50 k) (Some v) (beside 50 l)) i;
}

-- what holds of each number of a table
abbrev pub Each : (ℕ → Type 0) → Table → Type 0
Each P [] = Unit {0}
Each P ((n, w) ∷ t) = P n × Each P t

pub each_beside : (P : ℕ → Type 0) (t : Table) (n : ℕ) (w : ℕ × ℕ) → Each P t → beside n t ≡ Some w → P n
each_beside P [] n w h e = impossible cc
each_beside P ((m, u) ∷ t) n w h e =
    ⊎_elim (λ i. subst P (sym i) h.0) (λ d. each_beside P t n w h.1 (sym (cond-false _ _ _ (ne_eqb n m d)) ∙ e)) (cases_eq n m)

-- a number was kept exactly where its value was met
pub kept_met : (l : List Attribute) (n : ℕ) (w : ℕ × ℕ) → beside n widths ≡ Some w → is_some (value n (attributes_of l)) ≡ is_some (beside n l)
kept_met l n w e =
    each_beside (λ k. is_some (value k (attributes_of l)) ≡ is_some (beside k l)) widths n w (
      some_twice two (two_at 0) (beside 50 l),
      (
        some_twice (λ x. x.0) adjustment_of (beside 38 l),
        (
          some_twice two (two_at 0) (beside 37 l),
          (
            some_twice four (four_at 0) (beside 30 l),
            (
              some_twice four (four_at 0) (beside 26 l),
              (
                some_twice (λ x. x.0) telephone_of (beside 25 l),
                (
                  some_twice (λ x. x.0) telephone_of (beside 16 l),
                  (
                    some_twice bcid_form (bcid_at 0) (beside 13 l),
                    (
                      some_twice cause_form cause_of (beside 11 l),
                      (
                        some_twice (λ x. x.0) telephone_of (beside 5 l),
                        (
                          some_twice (λ x. x.0) telephone_of (beside 4 l),
                          (
                            some_twice name_form name_of (beside 3 l),
                            tt,
                          ),
                        ),
                      ),
                    ),
                  ),
                ),
              ),
            ),
          ),
        ),
      ),
    ) e
