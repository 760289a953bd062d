-- Zeros behind a name.
use Rattle.std.proofs.Common.{◌≡◌, ℕ, zero, suc, ◌-◌, List, ◌++◌, length, drop, replicate, sym, ap, ◌∙◌}
use native.Mathlib.Nat.{sub-zero, zero-sub, suc-sub-suc}
use Rattle.message.specs.declared.attributes.EndpointName.{EndpointName}
use Rattle.message.specs.Values.{name_of}

abbrev zeros_of : ℕ → List ℕ
zeros_of n = replicate n 0

drop_zeros : (n m : ℕ) → drop n (zeros_of m) ≡ zeros_of (m - n)
drop_zeros zero m = ap (zeros_of) (sym (sub-zero m))
drop_zeros (suc n) zero = ap (zeros_of) (sym (zero-sub (suc n)))
drop_zeros (suc n) (suc m) = drop_zeros n m ∙ ap (zeros_of) (sym (suc-sub-suc m n))

pub name_laid : (v w : List ℕ) (k : ℕ) → w ≡ v → k ≡ length v → ◌≡◌ {A = EndpointName} record { «length» = length v; text = w ++ drop k (zeros_of 32) } (name_of v)
name_laid v w k e f = λ i. record { «length» = length v; text = e i ++ (ap (λ z. drop z (zeros_of 32)) f ∙ drop_zeros (length v) 32) i }
