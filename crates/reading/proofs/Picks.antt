-- One step of the search for a CableLabs attribute.
use Rattle.std.proofs.Common.{◌≡◌, ℕ, zero, suc, ◌+◌, ◌-◌, ◌<◌, ◌≤◌, List, drop, Some, None, Ok, Option, sym, ap, ◌∙◌, subst, arith, Bor}
use Rattle.wire.proofs.Absurd.{impossible}
use Rattle.refusal.specs.declared.Fault.{Fault}
use Rattle.reading.specs.declared.attribute.Attribute.{Attribute}
use Rattle.reading.specs.declared.attribute.Attribute.TheVariants.{CableLabs, Other}
use Rattle.reading.specs.Walks.{Walked, ended, wrong, cable, other, attribute_at, viewed, next_place, Onward}
use Rattle.reading.specs.Tokens.{Seen, none, broken, token, picked, pick}

opened : (k p : ℕ) (bs : List ℕ) → 0 < k → pick k p bs ≡ picked p (attribute_at p bs) (pick (k - 1))
unfolding pick
opened zero p bs h = let z : ⊥ = omega arith in absurd z
opened (suc k) p bs h = let e : k ≡ suc k - 1 = omega arith in ap (λ m. picked p (attribute_at p bs) (pick m)) e

module _ (bytes : List ℕ) (p k : ℕ) (w : Seen) (h : 0 < k) (g : pick k p (drop p bytes) ≡ w) where
  on : (x : Walked) → x ≡ attribute_at p (drop p bytes) → picked p x (pick (k - 1)) ≡ w
  on x e = ap (λ z. picked p z (pick (k - 1))) e ∙ sym (opened k p (drop p bytes) h) ∙ g

  pub fails : (f : Fault) → wrong f ≡ attribute_at p (drop p bytes) → broken f ≡ w
  fails f e = on (wrong f) e

  pub ends : (o : Option Attribute) (n : ℕ) → o ≡ None → viewed (drop (next_place (Ok o)) bytes) (Ok o) ≡ attribute_at p (drop p bytes) → Onward p n (Ok o) → none n ≡ w
  ends None n i e f = ap none (sym f) ∙ on ended e
  ends (Some a) n i e f = impossible cc

  module _ (o : Option Attribute) (a : Attribute) (i : o ≡ Some a) (e : viewed (drop (next_place (Ok o)) bytes) (Ok o) ≡ attribute_at p (drop p bytes)) where
    seen_as : viewed (drop (next_place (Ok (Some a))) bytes) (Ok (Some a)) ≡ attribute_at p (drop p bytes)
    seen_as = subst (λ x. viewed (drop (next_place (Ok x)) bytes) (Ok x) ≡ attribute_at p (drop p bytes)) i e

    pub finds : (n : ℕ) (v : Bor (List ℕ)) (at q : ℕ) → a ≡ CableLabs n v at q → token at n v.now q (drop q bytes) ≡ w
    finds n v at q j = on (cable n v.now at q (drop q bytes)) (subst (λ x. viewed (drop (next_place (Ok (Some x))) bytes) (Ok (Some x)) ≡ attribute_at p (drop p bytes)) j seen_as)

    pub skips : (n : ℕ) (v : Bor (List ℕ)) (at q : ℕ) → a ≡ Other n v at q → pick (k - 1) q (drop q bytes) ≡ w
    skips n v at q j = on (other n v.now at q (drop q bytes)) (subst (λ x. viewed (drop (next_place (Ok (Some x))) bytes) (Ok (Some x)) ≡ attribute_at p (drop p bytes)) j seen_as)

-- where an attribute ends
pub beyond_cable : (p m : ℕ) (o : Option Attribute) (a : Attribute) (n : ℕ) (v : Bor (List ℕ)) (at q : ℕ) → o ≡ Some a → a ≡ CableLabs n v at q → Onward p m (Ok o) → (p + 2 ≤ q) × (q ≤ m)
beyond_cable p m o a n v at q i j f = subst (λ x. Onward p m (Ok (Some x))) j (subst (λ x. Onward p m (Ok x)) i f)

pub beyond_other : (p m : ℕ) (o : Option Attribute) (a : Attribute) (n : ℕ) (v : Bor (List ℕ)) (at q : ℕ) → o ≡ Some a → a ≡ Other n v at q → Onward p m (Ok o) → (p + 2 ≤ q) × (q ≤ m)
beyond_other p m o a n v at q i j f = subst (λ x. Onward p m (Ok (Some x))) j (subst (λ x. Onward p m (Ok x)) i f)
