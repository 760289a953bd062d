use Rattle.std.proofs.Common.{◌≡◌, ◌*◌, length, take}
use Rattle.std.specs.List.{flat_map}
use Rattle.digest.specs.Words.{low_first}
use Rattle.digest.proofs.state.State.to_bytes.Given as goal

abbrev pub invariant-loop-word : goal.invariant-loop-word
invariant-loop-word l =
    (length l.bytes ≡ 4 * l.word-index) × (l.bytes ≡ flat_map (low_first 4) (take l.word-index l.word-items))
