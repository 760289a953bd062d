-- A packet of our own is taken up and read again.
use Rattle.std.proofs.Common.{◌≡◌, ℕ, ◌+◌, ◌≤◌, false, eqb, List, [], ◌∷◌, ◌++◌, length, get_or, take, drop, replicate, Ok, Err, sym, refl, ap, ◌∙◌, append_assoc, append-nil, arith, length-append}
use Rattle.std.proofs.lemmas.List.{take_at, drop_at}
use Rattle.std.proofs.lemmas.Bool.{le-ltb, or_from, cond-true, cond-false}
use Rattle.refusal.specs.declared.Fault.TheVariants.{PacketLength, PacketCode}
use Rattle.wire.specs.Octets.{two, two_at}
use Rattle.wire.proofs.Numbers.{two_long, two_back}
use Rattle.digest.proofs.Long.{md5_long}
use Rattle.message.specs.declared.event.Event.{Event}
use Rattle.message.specs.Headers.{bcid_form}
use Rattle.message.proofs.Checked.{parts}
use Rattle.message.proofs.Wires.{header_parts, bcid_parts, bcid_long}
use Rattle.forms.specs.declared.encoding.Encoding.TheVariants.{Packet}
use Rattle.forms.specs.Forms.{encoded}
use Rattle.reading.specs.Walks.{attribute_at}
use Rattle.reading.specs.Tokens.{token_at, pick}
use Rattle.reading.specs.Events.{event_at, steps, from, after, came}
use Rattle.packets.specs.Packets.{taken}
use Rattle.reading.proofs.Again.{form_read}
use Rattle.reading.proofs.Meanings.{from_came}
use Rattle.reading.proofs.Skips.{event_skipped}
use Rattle.reading.proofs.Bounds.{lengths}
use Rattle.writing.specs.Requests.{attributes, opening, authenticator, sealed}
use Rattle.writing.specs.Returns.{Returns}

bcid_24 : (e : Event) → length (bcid_form e.header.bcid) ≡ 24
bcid_24 e =
    let s = parts e.header e.attributes e.sound in
    bcid_long e.header.bcid (bcid_parts e.header.bcid (header_parts e.header s.header).bcid)

-- the attributes, one after another
spread : (address b x : List ℕ) → (4 ∷ 6 ∷ []) ++ address ++ (40 ∷ 6 ∷ 0 ∷ 0 ∷ 0 ∷ 3 ∷ []) ++ (44 ∷ 26 ∷ []) ++ b ++ x ≡ 4 ∷ 6 ∷ (address ++ (40 ∷ 6 ∷ ((0 ∷ 0 ∷ 0 ∷ 3 ∷ []) ++ (44 ∷ 26 ∷ (b ++ x)))))
spread address b x = simp append_assoc refl

module _ (e : Event) (address : List ℕ) (w : length address ≡ 4) where
  attrs_long : length (attributes e address) ≡ 38 + length (encoded Packet e)
  attrs_long =
      let b = bcid_form e.header.bcid in
      let x = encoded Packet e in
      let n = bcid_24 e in
      ap length (spread address b x) ∙ omega (arith, length-append address (40 ∷ 6 ∷ 0 ∷ 0 ∷ 0 ∷ 3 ∷ 44 ∷ 26 ∷ (b ++ x)), length-append b x)

  skip : (p t s n : ℕ) (v rest : List ℕ) → length v ≡ n → s ≡ 2 + n → eqb t 26 ≡ false → event_at Packet p (t ∷ s ∷ (v ++ rest)) ≡ event_at Packet (p + s) rest
  skip p t s n v rest l k d =
      let f : s ≡ 2 + length v = omega arith in
      ap (λ z. event_at Packet p (t ∷ z ∷ (v ++ rest))) f ∙ event_skipped p t v rest d ∙ ap (λ z. event_at Packet (p + z) rest) (sym f)

  first_event : event_at Packet 20 (attributes e address) ≡ came e 58 (58 + length (encoded Packet e)) []
  first_event =
      let b = bcid_form e.header.bcid in
      let x = encoded Packet e in
      ap (event_at Packet 20) (spread address b x)
      ∙ skip 20 4 6 4 address _ w refl refl
      ∙ skip 26 40 6 4 (0 ∷ 0 ∷ 0 ∷ 3 ∷ []) _ refl refl refl
      ∙ skip 32 44 26 24 b x (bcid_24 e) refl refl
      ∙ ap (event_at Packet 58) (sym (append-nil x))
      ∙ form_read Packet e 58 []

  nothing_left : (p : ℕ) → from Packet p [] ≡ ([], Ok tt)
  unfolding steps event_at token_at pick attribute_at
  nothing_left p = refl

  only_event : from Packet 20 (attributes e address) ≡ ((e, 58) ∷ [], Ok tt)
  only_event = from_came Packet 20 (attributes e address) e 58 (58 + length (encoded Packet e)) [] first_event ∙ ap (after e 58) (nothing_left (58 + length (encoded Packet e)))

  module _ (identifier : ℕ) (secret : List ℕ) where
    abbrev attrs : List ℕ
    attrs = attributes e address

    abbrev start : List ℕ
    start = opening identifier attrs

    abbrev code : List ℕ
    code = authenticator identifier attrs secret

    abbrev packet : List ℕ
    packet = sealed identifier attrs secret

    opening_long : length start ≡ 4
    opening_long = length-append (4 ∷ identifier ∷ []) (two (20 + length attrs)) ∙ ap (λ z. 2 + z) (two_long (20 + length attrs))

    front_long : length (start ++ code) ≡ 20
    front_long = length-append start code ∙ (λ i. opening_long i + md5_long (start ++ replicate 16 0 ++ attrs ++ secret) i)

    packet_long : length packet ≡ 20 + length attrs
    packet_long = length-append (start ++ code) attrs ∙ ap (λ z. z + length attrs) front_long

    small : length attrs ≤ 380
    small = let l = (lengths e).packet_most in omega (arith, attrs_long)

    after_front : drop 20 packet ≡ attrs
    after_front = drop_at (start ++ code) attrs 20 front_long

    unrolled : (behind : List ℕ) → packet ++ behind ≡ 4 ∷ identifier ∷ (two (20 + length attrs) ++ (code ++ (attrs ++ behind)))
    unrolled behind =
        append_assoc (start ++ code) attrs behind ∙ append_assoc start code (attrs ++ behind)

    length_read : (behind : List ℕ) → two_at 2 (packet ++ behind) ≡ length packet
    length_read behind =
        let n = 20 + length attrs in
        let rest = code ++ (attrs ++ behind) in
        let all = 4 ∷ identifier ∷ (two n ++ rest) in
        let s = small in
        let long : 2 + 2 ≤ length all = omega (arith, length-append (two n) rest, two_long n) in
        let here : two n ≡ take 2 (drop 2 all) = sym (take_at (two n) rest 2 (two_long n)) in
        ap (two_at 2) (unrolled behind) ∙ two_back all 2 n long (omega arith) here ∙ sym packet_long

    passes : (behind : List ℕ) → length (packet ++ behind) ≤ 4095 → taken (packet ++ behind) ≡ Ok packet
    unfolding taken
    passes behind h =
        let all = packet ++ behind in
        let m = two_at 2 all in
        let r : m ≡ length packet = length_read behind in
        let p = packet_long in
        let l = length-append packet behind in
        let a : 20 ≤ length all = omega arith in
        let b : 20 ≤ m = omega arith in
        let c : m ≤ length all = omega arith in
        let head : get_or all 0 0 ≡ 4 = ap (λ z. get_or z 0 0) (unrolled behind) in
        cond-false _ _ _ (or_from _ _ (le-ltb (length all) 20 a) (le-ltb 4095 (length all) h))
        ∙ cond-true (eqb (get_or all 0 0) 4) _ (Err PacketCode) (ap (λ z. eqb z 4) head)
        ∙ cond-false _ (Err PacketLength) _ (or_from _ _ (le-ltb m 20 b) (le-ltb (length all) m c))
        ∙ ap Ok (take_at packet behind m (sym r))

    pub comes_back : Returns e packet
    comes_back =
        let k = (lengths e).packet_least in
        let n = (lengths e).packet_most in
        let p = packet_long in
        let q = attrs_long in
        record {
          passes = passes;
          events = ap (from Packet 20) after_front ∙ only_event;
          least = omega arith;
          most = omega arith;
        }
