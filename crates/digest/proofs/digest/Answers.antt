use Rattle.std.proofs.Common.{ap, ◌∙◌}
use Rattle.std.specs.List.{fold}
use Rattle.digest.specs.Rounds.{mixed}
use Rattle.digest.proofs.Joins.{digest_is}
use Rattle.digest.proofs.digest.Goals as goal

pub returns : goal.returns
returns c =
    c.to_bytes.ensures
    ∙ digest_is c.args.message.now _ _ _ _ _ _ c.as_chunks.ensures.front c.as_chunks.ensures.back (c.as_bytes.ensures.value ∙ c.pad-tail.ensures)
    c.as_chunks-2.ensures.front
    (c.absorb.ensures ∙ ap (λ v. fold (λ w block. mixed block w) v c.as_chunks.result.0.now) c.first.ensures) c.absorb-2.ensures
