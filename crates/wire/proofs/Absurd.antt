-- What follows from a case that cannot be.
use Rattle.std.proofs.Common.{◌≡◌, ℕ, arith}

-- the argument is mostly `cc`, from two constructors that are said to be the same
pub impossible : {A : Type 0} → ◌≡◌ {A = ℕ} 0 1 → A
impossible e = let y : ⊥ = omega arith in absurd y
