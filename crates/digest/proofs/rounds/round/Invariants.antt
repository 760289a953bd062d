use Rattle.std.proofs.Common.{◌≡◌, ℕ, ◌-◌, take, drop}
use Rattle.digest.specs.Rounds.{round}
use Rattle.digest.specs.Operations.{rows, round_from, Computes}
use Rattle.digest.proofs.rounds.round.Given as goal

-- what is left of the round takes the state to what the whole of it takes the first state to
abbrev pub invariant-loop-i : goal.invariant-loop-i
invariant-loop-i g l =
    (fn : ℕ → ℕ → ℕ → ℕ) → Computes (goal.F-post g l.f) fn
    → round fn (take (l.i-end - l.i) (drop l.i rows)) l.block l.state ≡ round fn (round_from l.first) l.block l.initial.state
