-- The attribute at a place of some bytes.
use Rattle.std.proofs.Common.{◌≡◌, ℕ, ◌+◌, ◌-◌, ◌<◌, ◌≤◌, cond, ◌||◌, ltb, List, ◌∷◌, length, get_or, take, drop, Some, None, Ok, Err, Option, Result, sym, refl, ap, ◌∙◌, add_assoc, arith, length-drop}
use Rattle.std.proofs.lemmas.List.{drop_more, drop_all, drop-drop}
use Rattle.std.proofs.lemmas.Bool.{or_from, or_left, or_right, lt-ltb, le-ltb, cond-true, cond-false}
use Rattle.refusal.specs.declared.Fault.TheVariants.{MalformedAttribute}
use Rattle.refusal.specs.declared.Fault.{Fault}
use Rattle.reading.specs.declared.attribute.Attribute.{Attribute}
use Rattle.reading.specs.declared.attribute.Attribute.TheVariants.{CableLabs, Other}
use Rattle.reading.specs.Walks.{ended, wrong, cable, other, sorted, attribute_at, viewed, next_place, Onward, end_of}

module _ (bytes : List ℕ) (at : ℕ) where
  pub at_end : length bytes ≤ at → ended ≡ attribute_at at (drop at bytes)
  unfolding attribute_at
  at_end h = ap (attribute_at at) (sym (drop_all at bytes h))

  pub one_left : at + 1 ≡ length bytes → wrong (MalformedAttribute at) ≡ attribute_at at (drop at bytes)
  unfolding attribute_at
  one_left h =
      let k : at < length bytes = omega arith in
      let l : length bytes ≤ at + 1 = omega arith in
      sym (ap (attribute_at at) (drop_more bytes at 0 k ∙ ap (λ z. get_or bytes at 0 ∷ z) (drop_all (at + 1) bytes l)))

  module _ (h : at + 2 ≤ length bytes) where
    abbrev t : ℕ
    t = get_or bytes at 0

    abbrev s : ℕ
    s = get_or bytes (at + 1) 0

    front : drop at bytes ≡ t ∷ s ∷ drop (at + 2) bytes
    front =
        let k : at < length bytes = omega arith in
        let l : at + 1 < length bytes = omega arith in
        drop_more bytes at 0 k ∙ ap (λ z. t ∷ z) (drop_more bytes (at + 1) 0 l ∙ ap (λ z. s ∷ drop z bytes) (add_assoc at 1 1))

    opened : attribute_at at (drop at bytes) ≡ cond (ltb s 2 || ltb (2 + length (drop (at + 2) bytes)) s) (wrong (MalformedAttribute at)) (sorted at t (take (s - 2) (drop (at + 2) bytes)) (at + s) (drop (s - 2) (drop (at + 2) bytes)))
    unfolding attribute_at
    opened = ap (attribute_at at) front

    pub too_short : s < 2 → wrong (MalformedAttribute at) ≡ attribute_at at (drop at bytes)
    too_short k = sym (opened ∙ cond-true _ _ _ (or_left _ _ (lt-ltb s 2 k)))

    pub too_long : length bytes - at < s → wrong (MalformedAttribute at) ≡ attribute_at at (drop at bytes)
    too_long k =
        let l : 2 + length (drop (at + 2) bytes) < s = omega (arith, length-drop (at + 2) bytes) in
        sym (opened ∙ cond-true _ _ _ (or_right _ _ (lt-ltb _ s l)))

    pub whole : 2 ≤ s → s ≤ length bytes - at → sorted at t (take (at + s - (at + 2)) (drop (at + 2) bytes)) (at + s) (drop (at + s) bytes) ≡ attribute_at at (drop at bytes)
    whole k l =
        let m : s ≤ 2 + length (drop (at + 2) bytes) = omega (arith, length-drop (at + 2) bytes) in
        let e : at + s - (at + 2) ≡ s - 2 = omega arith in
        let f : at + s ≡ at + 2 + (s - 2) = omega arith in
        sym (opened ∙ cond-false _ _ _ (or_from _ _ (le-ltb s 2 k) (le-ltb _ s m))
        ∙ (λ i. sorted at t (take (sym e i) (drop (at + 2) bytes)) (at + s) ((drop-drop (s - 2) (at + 2) bytes ∙ ap (λ z. drop z bytes) (sym f)) i)))

-- what is known of the place behind an attribute
pub same_view : (bytes : List ℕ) (q : ℕ) (a : Attribute) → end_of a ≡ q → viewed (drop (next_place (Ok (Some a))) bytes) (Ok (Some a)) ≡ viewed (drop q bytes) (Ok (Some a))
same_view bytes q (CableLabs n v p k) h = ap (λ z. cable n v.now p k (drop z bytes)) h
same_view bytes q (Other n v p k) h = ap (λ z. other n v.now p k (drop z bytes)) h

pub goes_on : (p n q : ℕ) (a : Attribute) → end_of a ≡ q → p + 2 ≤ q → q ≤ n → Onward p n (Ok (Some a))
goes_on p n q (CableLabs t v a m) h k l = (omega arith, omega arith)
goes_on p n q (Other t v a m) h k l = (omega arith, omega arith)
