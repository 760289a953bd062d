use Rattle.std.proofs.Common.{◌≡◌, ◌+◌, ◌-◌, ◌%◌, ◌<◌, ◌++◌, length, ap, ◌∙◌, arith}
use Rattle.digest.proofs.Fills.{laid}
use Rattle.digest.proofs.padding.pad.Goals as goal

pub returns : goal.returns
returns c =
    let m = c.args.rest.now in
    let k = c.zeros_end.result - (length m + 1) in
    let few : k < 64 = omega arith in
    let right : (length m + 1 + k) % 64 ≡ 56 = omega arith in
    laid m k c.args.len few right (c.push.ensures.bytes ∙ ap (λ z. z ++ m) c.new-tail.ensures) c.push-2.ensures.bytes c.push-3.ensures.bytes c.push-4.ensures.bytes c.bits.ensures
