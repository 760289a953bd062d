use Rattle.std.proofs.Common.{rules, refl, ◌+◌, ◌*◌, ◌%◌, ap, ◌∙◌}
use Rattle.digest.specs.Rounds.{F, G, H, I, round, mixed, four_rounds, round_1, round_2, round_3, round_4}
use Rattle.digest.specs.Operations.{rows, index_of}
use Rattle.digest.specs.declared.state.State.{State}
use Rattle.digest.proofs.Steps.{picks}
use Rattle.digest.proofs.rounds.mix.Goals as goal

pub round-w-requires : goal.round-w-requires
unfolding index_of rows round_1 round_2 round_3 round_4
round-w-requires c = search (rules, picks 0 (λ i. i) refl)

pub round-w-requires-2 : goal.round-w-requires-2
unfolding index_of rows round_1 round_2 round_3 round_4
round-w-requires-2 c = search (rules, picks 16 (λ i. (5 * i + 1) % 16) refl)

pub round-w-requires-3 : goal.round-w-requires-3
unfolding index_of rows round_1 round_2 round_3 round_4
round-w-requires-3 c = search (rules, picks 32 (λ i. (3 * i + 5) % 16) refl)

pub round-w-requires-4 : goal.round-w-requires-4
unfolding index_of rows round_1 round_2 round_3 round_4
round-w-requires-4 c = search (rules, picks 48 (λ i. 7 * i % 16) refl)

pub returns : goal.returns
unfolding mixed four_rounds rows round_1 round_2 round_3 round_4
returns c =
    let m = c.args.block.now in
    let w1 = c.round-w.ensures F (λ x y z r p. search rules) in
    let w2 = c.round-w-2.ensures G (λ x y z r p. search rules) ∙ ap (λ (w : State). round G round_2 m w) w1 in
    let w3 = c.round-w-3.ensures H (λ x y z r p. search rules) ∙ ap (λ (w : State). round H round_3 m w) w2 in
    let w4 = c.round-w-4.ensures I (λ x y z r p. search rules) ∙ ap (λ (w : State). round I round_4 m w) w3 in
    rw (w4) refl
