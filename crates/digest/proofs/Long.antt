-- A digest has sixteen bytes.
use Rattle.std.proofs.Common.{◌≡◌, ℕ, List, length, refl}
use Rattle.digest.specs.declared.state.State.{State}
use Rattle.digest.specs.Words.{low_first}
use Rattle.digest.specs.Padding.{padded}
use Rattle.digest.specs.Md5.{start, absorbed, written, md5}

written_long : (w : State) → length (written w) ≡ 16
unfolding low_first
written_long w = refl

pub md5_long : (m : List ℕ) → length (md5 m) ≡ 16
unfolding md5
md5_long m = written_long (absorbed (padded m) start)
