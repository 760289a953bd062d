-- What the memory of a buffer holds.
use Rattle.std.specs.Prelude.{◌≡◌, ℕ, ◌-◌, ◌≤◌, List, ◌++◌, length, take, drop, replicate}
use Rattle.std.proofs.Common.{length-take-le, take-append-drop, sym, arith}

-- n bytes of N, and zeros behind them
pub record Filled (N n : ℕ) (bytes : List ℕ) : Type 0 where
  pub within : n ≤ N
  pub size : length bytes ≡ N
  pub zeros : drop n bytes ≡ replicate (N - n) 0

pub counted : (N n : ℕ) (bytes : List ℕ) → Filled N n bytes → length (take n bytes) ≡ n
counted N n bytes h = length-take-le n bytes (omega (arith, h.within, h.size))

-- so the bytes alone give the memory back
pub refilled : (N n : ℕ) (bytes : List ℕ) → Filled N n bytes → take n bytes ++ replicate (N - length (take n bytes)) 0 ≡ bytes
refilled N n bytes h = rw (counted N n bytes h, sym h.zeros) (take-append-drop n bytes)
