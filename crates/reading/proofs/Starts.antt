-- Where the attributes of a packet begin.
use Rattle.std.proofs.Common.{◌≡◌, ℕ, ◌≤◌, min, ◌⊎◌, List, [], length, drop, sym, refl, ap, ◌∙◌, inl, inr, ⊎_elim, arith}
use Rattle.std.proofs.lemmas.List.{drop_all}
use Rattle.std.proofs.lemmas.Bool.{cases_lt}
use Rattle.forms.specs.declared.encoding.Encoding.{Encoding}
use Rattle.forms.specs.declared.encoding.Encoding.TheVariants.{Spool, Packet}
use Rattle.reading.specs.Walks.{attribute_at}
use Rattle.reading.specs.Tokens.{token_at, pick}
use Rattle.reading.specs.Events.{event_at, steps, from, start, packet_meaning, meaning}

nothing : (p q : ℕ) → from Packet p [] ≡ from Packet q []
unfolding steps event_at token_at pick attribute_at
nothing p q = refl

pub starts : (bytes : List ℕ) (p : ℕ) → (p ≡ 20) ⊎ ((p ≡ length bytes) × (length bytes ≤ 20)) → from Packet p (drop p bytes) ≡ packet_meaning bytes
starts bytes p h =
    ⊎_elim (λ e. ap (λ z. from Packet z (drop z bytes)) e)
    (λ k. let a : length bytes ≤ p = let e = k.0 in omega arith in
    ap (from Packet p) (drop_all p bytes a) ∙ nothing p 20 ∙ ap (from Packet 20) (sym (drop_all 20 bytes k.1))) h

pub start_place : (n p : ℕ) → p ≡ min n 20 → (p ≡ 20) ⊎ ((p ≡ n) × (n ≤ 20))
start_place n p e = ⊎_elim (λ h. inr (omega arith, omega arith)) (λ h. inl (omega arith)) (cases_lt n 20)

-- a delivery, from where its events begin
pub begun : (enc : Encoding) (all bytes : List ℕ) (p : ℕ) → bytes ≡ all → p ≡ min (length all) (start enc) → from enc p (drop p bytes) ≡ meaning enc all
begun Spool all bytes p e h = let z : p ≡ 0 = omega arith in (λ i. from Spool (z i) (drop (z i) (e i)))
begun Packet all bytes p e h = ap (λ b. from Packet p (drop p b)) e ∙ starts all p (start_place (length all) p h)
