-- The attributes of a RADIUS packet: a type, a length that counts both, and a value.
use Rattle.std.specs.Prelude.{◌≡◌, ℕ, ◌+◌, ◌-◌, ◌≤◌, cond, not, ◌||◌, List, [], ◌∷◌, length, take, drop, Some, None, Ok, Err, Option, Result, ◌==◌, nat_lt, slice_index}
use Rattle.wire.specs.Octets.{four_at}
use Rattle.refusal.specs.declared.Fault.{Fault}
use Rattle.refusal.specs.declared.Fault.TheVariants.{MalformedAttribute}
use Rattle.reading.specs.declared.attribute.Attribute.{Attribute}
use Rattle.reading.specs.declared.attribute.Attribute.TheVariants.{CableLabs, Other}

-- What stands at the front of some bytes: nothing, a fault, or an attribute, with its number or type, its value, its place, the place behind it, and the bytes there.
pub data Walked : Type 0 where
  ended : Walked
  wrong : Fault → Walked
  cable : ℕ → List ℕ → ℕ → ℕ → List ℕ → Walked
  other : ℕ → List ℕ → ℕ → ℕ → List ℕ → Walked

-- A CableLabs attribute has vendor 4491, and one vendor attribute, with a length of its own, that fills the rest.
unfoldable pub vendor_in : ℕ → List ℕ → ℕ → List ℕ → Walked
vendor_in p v q rest =
    cond (nat_lt (length v) 4) (wrong (MalformedAttribute p))
    (cond (four_at 0 v == 4491)
    (cond (nat_lt (length v) 6 || not (slice_index v 5 == length v - 4)) (wrong (MalformedAttribute p)) (cable (slice_index v 4) (drop 6 v) p q rest))
    (other 26 v p q rest))

abbrev pub sorted : ℕ → ℕ → List ℕ → ℕ → List ℕ → Walked
sorted p t v q rest = cond (t == 26) (vendor_in p v q rest) (other t v p q rest)

unfoldable pub attribute_at : ℕ → List ℕ → Walked
attribute_at p [] = ended
attribute_at p (t ∷ []) = wrong (MalformedAttribute p)
attribute_at p (t ∷ s ∷ bs) =
    cond (nat_lt s 2 || nat_lt (2 + length bs) s) (wrong (MalformedAttribute p)) (sorted p t (take (s - 2) bs) (p + s) (drop (s - 2) bs))

-- what a call of the program saw, with the bytes behind it
abbrev pub viewed : List ℕ → Result (Option Attribute) Fault → Walked
viewed rest (Ok None) = ended
viewed rest (Ok (Some (CableLabs n v p q))) = cable n v.now p q rest
viewed rest (Ok (Some (Other t v p q))) = other t v.now p q rest
viewed rest (Err f) = wrong f

abbrev pub next_place : Result (Option Attribute) Fault → ℕ
next_place (Ok None) = 0
next_place (Ok (Some (CableLabs n v p q))) = q
next_place (Ok (Some (Other t v p q))) = q
next_place (Err f) = 0

-- an attribute lies within the bytes, and takes two of them at least
abbrev pub Onward : ℕ → ℕ → Result (Option Attribute) Fault → Type 0
Onward p n (Ok None) = p ≡ n
Onward p n (Ok (Some (CableLabs k v a q))) = (p + 2 ≤ q) × (q ≤ n)
Onward p n (Ok (Some (Other t v a q))) = (p + 2 ≤ q) × (q ≤ n)
Onward p n (Err f) = Unit {0}

-- an attribute that a call found
abbrev pub found : Result Attribute Fault → Result (Option Attribute) Fault
found (Ok a) = Ok (Some a)
found (Err f) = Err f

abbrev pub end_of : Attribute → ℕ
end_of (CableLabs n v p q) = q
end_of (Other t v p q) = q

-- where a walk goes on: behind the attribute, or where it was
abbrev pub gone : ℕ → Result (Option Attribute) Fault → ℕ
gone p (Ok None) = p
gone p (Ok (Some a)) = end_of a
gone p (Err f) = p
