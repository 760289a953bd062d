-- Headers and BCIDs in bytes: what is written is read again, and what is read is written again.
use Rattle.std.proofs.Common.{◌≡◌, ℕ, ◌+◌, ◌<◌, ◌≤◌, true, eqb, ltb, List, [], ◌∷◌, ◌++◌, length, get_or, sym, refl, ap, ◌∙◌, mod-eq_of_lt, arith, lit≤, length-append}
use Rattle.std.proofs.lemmas.List.{take_all}
use Rattle.std.proofs.lemmas.Bool.{eq-eqb, eqb-true, ltb-true, lt-ltb, and_parts, and_from}
use Rattle.wire.specs.Octets.{Octets, two, four, byte_at, part_of}
use Rattle.wire.proofs.Chains.{join, parted, part_long}
use Rattle.wire.proofs.Numbers.{two_long, four_long, take_one, two_small, four_small, two_of, four_of, two_back, four_back}
use Rattle.message.specs.declared.header.Bcid.{Bcid}
use Rattle.message.specs.declared.header.Header.{Header}
use Rattle.message.specs.Headers.{bcid_form, bcid_at, bcid_typed, header_form, header_of, header_typed}

pub record BcidTyped (b : Bcid) : Type 0 where
  pub timestamp : b.timestamp < 4294967296
  pub element_id : length b.element_id.0 ≡ 8
  pub time_zone : length b.time_zone.0 ≡ 8
  pub event_counter : b.event_counter.0 < 4294967296

pub bcid_parts : (b : Bcid) → bcid_typed b ≡ true → BcidTyped b
unfolding bcid_typed
bcid_parts b e =
    let p3 = and_parts _ (ltb b.event_counter.0 4294967296) e in
    let p2 = and_parts _ (eqb (length b.time_zone.0) 8) p3.0 in
    let p1 = and_parts (ltb b.timestamp 4294967296) (eqb (length b.element_id.0) 8) p2.0 in
    record { timestamp = ltb-true _ _ p1.0; element_id = eqb-true _ _ p1.1; time_zone = eqb-true _ _ p2.1; event_counter = ltb-true _ _ p3.1 }

pub bcid_long : (b : Bcid) → BcidTyped b → length (bcid_form b) ≡ 24
bcid_long b t =
    let s = t.element_id in let u = t.time_zone in
    simp (length-append, four_long) (omega arith)

-- the BCID at a place
module _ (b : List ℕ) (i : ℕ) (h : i + 24 ≤ length b) where
  pub bcid_at_typed : bcid_typed (bcid_at i b) ≡ true
  unfolding bcid_typed
  bcid_at_typed =
      and_from _ _ (and_from _ _ (and_from _ _ (lt-ltb _ _ (four_small i b)) (eq-eqb _ _ (part_long b (i + 4) 8 (omega arith)))) (eq-eqb _ _ (part_long b (i + 12) 8 (omega arith)))) (lt-ltb _ _ (four_small (i + 20) b))

  bcid_whole : part_of i 4 b ++ part_of (i + 4) 8 b ++ part_of (i + 12) 8 b ++ part_of (i + 20) 4 b ≡ part_of i 24 b
  bcid_whole = join b i 20 4 (join b i 12 8 (join b i 4 8 refl refl) refl) refl

  pub bcid_formed : Octets b → bcid_form (bcid_at i b) ≡ part_of i 24 b
  bcid_formed o =
      (λ j. four_of b i o (omega arith) j ++ part_of (i + 4) 8 b ++ part_of (i + 12) 8 b ++ four_of b (i + 20) o (omega arith) j) ∙ bcid_whole

  pub bcid_back : (x : Bcid) → BcidTyped x → bcid_form x ≡ part_of i 24 b → bcid_at i b ≡ x
  bcid_back x t e =
      let long : (j m : ℕ) → i + j + m ≤ i + 24 → length (part_of (i + j) m b) ≡ m = λ j m k. part_long b (i + j) m (omega arith) in
      let q20 = parted _ (four x.event_counter.0) _ (part_of (i + 20) 4 b) (four_long _ ∙ sym (long 20 4 (omega arith))) (e ∙ sym bcid_whole) in
      let q12 = parted _ x.time_zone.0 _ (part_of (i + 12) 8 b) (t.time_zone ∙ sym (long 12 8 (omega arith))) q20.0 in
      let q4 = parted (four x.timestamp) x.element_id.0 (part_of i 4 b) (part_of (i + 4) 8 b) (t.element_id ∙ sym (long 4 8 (omega arith))) q12.0 in
      let e0 = four_back b i x.timestamp (omega arith) t.timestamp q4.0 in
      let e20 = four_back b (i + 20) x.event_counter.0 (omega arith) t.event_counter q20.1 in
      λ j. record { timestamp = e0 j; element_id = record { 0 = sym q4.1 j }; time_zone = record { 0 = sym q12.1 j }; event_counter = record { 0 = e20 j } }

pub record HeaderTyped (h : Header) : Type 0 where
  pub version_id : h.version_id < 65536
  pub bcid : bcid_typed h.bcid ≡ true
  pub kind : h.kind < 65536
  pub element_type : h.element_type < 65536
  pub element_id : length h.element_id.0 ≡ 8
  pub time_zone : length h.time_zone.0 ≡ 8
  pub sequence_number : h.sequence_number.0 < 4294967296
  pub event_time : length h.event_time.0 ≡ 18
  pub status : h.status < 4294967296
  pub priority : h.priority < 256
  pub attribute_count : h.attribute_count < 65536
  pub event_object : h.event_object < 256

pub header_parts : (h : Header) → header_typed h ≡ true → HeaderTyped h
unfolding header_typed
header_parts h e =
    let q11 = and_parts _ (ltb h.event_object 256) e in
    let q10 = and_parts _ (ltb h.attribute_count 65536) q11.0 in
    let q9 = and_parts _ (ltb h.priority 256) q10.0 in
    let q8 = and_parts _ (ltb h.status 4294967296) q9.0 in
    let q7 = and_parts _ (eqb (length h.event_time.0) 18) q8.0 in
    let q6 = and_parts _ (ltb h.sequence_number.0 4294967296) q7.0 in
    let q5 = and_parts _ (eqb (length h.time_zone.0) 8) q6.0 in
    let q4 = and_parts _ (eqb (length h.element_id.0) 8) q5.0 in
    let q3 = and_parts _ (ltb h.element_type 65536) q4.0 in
    let q2 = and_parts _ (ltb h.kind 65536) q3.0 in
    let q1 = and_parts (ltb h.version_id 65536) (bcid_typed h.bcid) q2.0 in
    record {
      version_id = ltb-true _ _ q1.0;
      bcid = q1.1;
      kind = ltb-true _ _ q2.1;
      element_type = ltb-true _ _ q3.1;
      element_id = eqb-true _ _ q4.1;
      time_zone = eqb-true _ _ q5.1;
      sequence_number = ltb-true _ _ q6.1;
      event_time = eqb-true _ _ q7.1;
      status = ltb-true _ _ q8.1;
      priority = ltb-true _ _ q9.1;
      attribute_count = ltb-true _ _ q10.1;
      event_object = ltb-true _ _ q11.1;
    }

byte_small : (i : ℕ) (b : List ℕ) → byte_at i b < 256
byte_small i b = omega arith

-- 76 bytes
module _ (b : List ℕ) (n : length b ≡ 76) where
  long : (i m : ℕ) → i + m ≤ 76 → length (part_of i m b) ≡ m
  long i m k = part_long b i m (omega arith)

  inside : (i m : ℕ) → i + m ≤ 76 → i + m ≤ length b
  inside i m k = omega arith

  pub header_of_typed : header_typed (header_of b) ≡ true
  unfolding header_typed
  header_of_typed =
      and_from _ _ (and_from _ _ (and_from _ _ (and_from _ _ (and_from _ _ (and_from _ _ (and_from _ _ (and_from _ _ (and_from _ _ (and_from _ _ (and_from _ _
      (lt-ltb _ _ (two_small 0 b)) (bcid_at_typed b 2 (inside 2 24 (lit≤ tt)))) (lt-ltb _ _ (two_small 26 b))) (lt-ltb _ _ (two_small 28 b)))
      (eq-eqb _ _ (long 30 8 (lit≤ tt)))) (eq-eqb _ _ (long 38 8 (lit≤ tt)))) (lt-ltb _ _ (four_small 46 b))) (eq-eqb _ _ (long 50 18 (lit≤ tt))))
      (lt-ltb _ _ (four_small 68 b))) (lt-ltb _ _ (byte_small 72 b))) (lt-ltb _ _ (two_small 73 b))) (lt-ltb _ _ (byte_small 75 b))

  whole :
      part_of 0 2 b ++ part_of 2 24 b ++ part_of 26 2 b ++ part_of 28 2 b ++ part_of 30 8 b ++ part_of 38 8 b
      ++ part_of 46 4 b ++ part_of 50 18 b ++ part_of 68 4 b ++ part_of 72 1 b ++ part_of 73 2 b ++ part_of 75 1 b ≡ b
  whole =
      let p = join b 0 2 24 refl refl in
      let p = join b 0 26 2 p refl in
      let p = join b 0 28 2 p refl in
      let p = join b 0 30 8 p refl in
      let p = join b 0 38 8 p refl in
      let p = join b 0 46 4 p refl in
      let p = join b 0 50 18 p refl in
      let p = join b 0 68 4 p refl in
      let p = join b 0 72 1 p refl in
      let p = join b 0 73 2 p refl in
      let p = join b 0 75 1 p refl in
      let l : length b ≤ 76 = omega arith in
      p ∙ take_all 76 b l

  one_of : Octets b → (i : ℕ) → i + 1 ≤ length b → byte_at i b ∷ [] ≡ part_of i 1 b
  one_of o i k = ap (λ z. z ∷ []) (mod-eq_of_lt (o i)) ∙ sym (take_one b i k)

  pub header_formed : Octets b → header_form (header_of b) ≡ b
  header_formed o =
      let a0 = two_of b 0 o (inside 0 2 (lit≤ tt)) in
      let a2 = bcid_formed b 2 (inside 2 24 (lit≤ tt)) o in
      let a26 = two_of b 26 o (inside 26 2 (lit≤ tt)) in
      let a28 = two_of b 28 o (inside 28 2 (lit≤ tt)) in
      let a46 = four_of b 46 o (inside 46 4 (lit≤ tt)) in
      let a68 = four_of b 68 o (inside 68 4 (lit≤ tt)) in
      let a72 = one_of o 72 (inside 72 1 (lit≤ tt)) in
      let a73 = two_of b 73 o (inside 73 2 (lit≤ tt)) in
      let a75 = one_of o 75 (inside 75 1 (lit≤ tt)) in
      (λ i. a0 i ++ a2 i ++ a26 i ++ a28 i ++ part_of 30 8 b ++ part_of 38 8 b ++ a46 i ++ part_of 50 18 b ++ a68 i ++ a72 i ++ a73 i ++ a75 i) ∙ whole

pub header_long : (h : Header) → header_typed h ≡ true → length (header_form h) ≡ 76
header_long h e =
    let t = header_parts h e in
    let u = bcid_parts h.bcid t.bcid in
    let a = u.element_id in let b = u.time_zone in let c = t.element_id in let d = t.time_zone in let f = t.event_time in
    simp (length-append, two_long, four_long) (omega arith)

one_back : (b : List ℕ) (i x : ℕ) → i + 1 ≤ length b → x < 256 → x ∷ [] ≡ part_of i 1 b → byte_at i b ≡ x
one_back b i x k l e =
    let f : x ≡ get_or b i 0 = ap (λ z. get_or z 0 0) (e ∙ take_one b i k) in
    omega arith

pub header_again : (h : Header) → header_typed h ≡ true → header_of (header_form h) ≡ h
header_again h v =
    let t = header_parts h v in
    let u = bcid_parts h.bcid t.bcid in
    let b = header_form h in
    let n : length b ≡ 76 = header_long h v in
    let in_b : (i m : ℕ) → i + m ≤ 76 → i + m ≤ length b = λ i m k. inside b n i m k in
    let lo : (i m : ℕ) → i + m ≤ 76 → length (part_of i m b) ≡ m = λ i m k. long b n i m k in
    let p75 = parted _ (h.event_object ∷ []) _ (part_of 75 1 b) (sym (lo 75 1 (lit≤ tt))) (sym (whole b n)) in
    let p73 = parted _ (two h.attribute_count) _ (part_of 73 2 b) (two_long _ ∙ sym (lo 73 2 (lit≤ tt))) p75.0 in
    let p72 = parted _ (h.priority ∷ []) _ (part_of 72 1 b) (sym (lo 72 1 (lit≤ tt))) p73.0 in
    let p68 = parted _ (four h.status) _ (part_of 68 4 b) (four_long _ ∙ sym (lo 68 4 (lit≤ tt))) p72.0 in
    let p50 = parted _ h.event_time.0 _ (part_of 50 18 b) (t.event_time ∙ sym (lo 50 18 (lit≤ tt))) p68.0 in
    let p46 = parted _ (four h.sequence_number.0) _ (part_of 46 4 b) (four_long _ ∙ sym (lo 46 4 (lit≤ tt))) p50.0 in
    let p38 = parted _ h.time_zone.0 _ (part_of 38 8 b) (t.time_zone ∙ sym (lo 38 8 (lit≤ tt))) p46.0 in
    let p30 = parted _ h.element_id.0 _ (part_of 30 8 b) (t.element_id ∙ sym (lo 30 8 (lit≤ tt))) p38.0 in
    let p28 = parted _ (two h.element_type) _ (part_of 28 2 b) (two_long _ ∙ sym (lo 28 2 (lit≤ tt))) p30.0 in
    let p26 = parted _ (two h.kind) _ (part_of 26 2 b) (two_long _ ∙ sym (lo 26 2 (lit≤ tt))) p28.0 in
    let p2 = parted (two h.version_id) (bcid_form h.bcid) (part_of 0 2 b) (part_of 2 24 b) (bcid_long h.bcid u ∙ sym (lo 2 24 (lit≤ tt))) p26.0 in
    let e0 = two_back b 0 h.version_id (in_b 0 2 (lit≤ tt)) t.version_id p2.0 in
    let e2 = bcid_back b 2 (in_b 2 24 (lit≤ tt)) h.bcid u p2.1 in
    let e26 = two_back b 26 h.kind (in_b 26 2 (lit≤ tt)) t.kind p26.1 in
    let e28 = two_back b 28 h.element_type (in_b 28 2 (lit≤ tt)) t.element_type p28.1 in
    let e46 = four_back b 46 h.sequence_number.0 (in_b 46 4 (lit≤ tt)) t.sequence_number p46.1 in
    let e68 = four_back b 68 h.status (in_b 68 4 (lit≤ tt)) t.status p68.1 in
    let e72 = one_back b 72 h.priority (in_b 72 1 (lit≤ tt)) t.priority p72.1 in
    let e73 = two_back b 73 h.attribute_count (in_b 73 2 (lit≤ tt)) t.attribute_count p73.1 in
    let e75 = one_back b 75 h.event_object (in_b 75 1 (lit≤ tt)) t.event_object p75.1 in
    λ i. record {
      version_id = e0 i;
      bcid = e2 i;
      kind = e26 i;
      element_type = e28 i;
      element_id = record { 0 = sym p30.1 i };
      time_zone = record { 0 = sym p38.1 i };
      sequence_number = record { 0 = e46 i };
      event_time = record { 0 = sym p50.1 i };
      status = e68 i;
      priority = e72 i;
      attribute_count = e73 i;
      event_object = e75 i;
    }
