-- Tables by number, and tests over lists and options.
use Rattle.std.specs.Prelude.{ℕ, Bool, true, cond, List, [], ◌∷◌, Some, None, Option, ◌==◌}

-- what stands beside a number in a table
abbrev pub beside : {A : Type 0} → ℕ → List (ℕ × A) → Option A
beside n [] = None
beside n ((k, x) ∷ t) = cond (n == k) (Some x) (beside n t)

-- a test of a value, where it is there
abbrev pub held : {A : Type 0} → (A → Bool) → Option A → Bool
held p None = true
held p (Some x) = p x
