use Rattle.std.proofs.Common.{◌+◌, ◌<◌, arith}
use Rattle.digest.specs.Rounds.{round}
use Rattle.digest.specs.Operations.{round_from}
use Rattle.digest.proofs.Steps.{index_below, again, ends}
use Rattle.digest.proofs.rounds.round.Goals as goal

pub word_at-requires : goal.word_at-requires
word_at-requires g c =
    let i = c.loop-i.i in
    let h : i < 64 = omega arith in
    rw (c.requires.picks i c.index.result c.loop-i.auto.i c.loop-i-test.true c.index.ensures) (index_below i h)

pub loop-i-preserved : goal.loop-i-preserved
loop-i-preserved g c = λ fn is.
    let w = c.loop-i.state in
    let i = c.loop-i.i in
    let h : i < 64 = omega arith in
    again fn c.args.block.now w (round fn (round_from c.args.first) c.args.block.now c.args.state) i (c.args.first + 16) _ _ _ _ _ _ c.loop-i-test.true h (is w.b w.c w.d c.f.result c.f.ensures)
    (c.requires.picks i c.index.result c.loop-i.auto.i c.loop-i-test.true c.index.ensures) c.word_at.ensures c.sine.ensures c.shift.ensures.value
    c.shift.ensures.within.0 c.shift.ensures.within.1 c.rotate_left.ensures (c.loop-i.invariant fn is)

pub returns : goal.returns
returns g c = λ fn is.
    ends fn c.args.block.now c.loop-i.state (round fn (round_from c.args.first) c.args.block.now c.args.state) c.loop-i.i (c.args.first + 16)
    c.loop-i-test.false (c.loop-i.invariant fn is)
