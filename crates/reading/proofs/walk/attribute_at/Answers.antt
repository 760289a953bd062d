use Rattle.std.proofs.Common.{◌≡◌, ◌+◌, ◌-◌, ◌≤◌, length, get_or, drop, sym, ◌∙◌, ⊎_elim, arith}
use Rattle.std.proofs.lemmas.Result.{err_from_is_err_and}
use Rattle.std.proofs.lemmas.Bool.{eq-eqb, ne_eqb, cond-true, cond-false}
use Rattle.reading.proofs.Walked.{at_end, one_left, too_short, too_long, whole, same_view, goes_on}
use Rattle.reading.proofs.walk.attribute_at.Goals as goal

pub returns-then-left-eq0 : goal.returns-then-left-eq0
returns-then-left-eq0 c =
    let h : length c.args.from.bytes.now ≤ c.args.from.place = omega arith in
    record { read = at_end c.args.from.bytes.now c.args.from.place h; onward = omega arith }

pub returns-then-left-lt2 : goal.returns-then-left-lt2
returns-then-left-lt2 c =
    let h : c.args.from.place + 1 ≡ length c.args.from.bytes.now = omega arith in
    record { read = one_left c.args.from.bytes.now c.args.from.place h; onward = tt }

pub returns-then-size-lt2 : goal.returns-then-size-lt2
returns-then-size-lt2 c =
    let b = c.args.from.bytes.now in
    let p = c.args.from.place in
    let h : p + 2 ≤ length b = omega arith in
    record { read = ⊎_elim (λ k. too_short b p h k) (λ k. too_long b p h k.1) c.then-size-lt2.either; onward = tt }

pub returns-in_err-vendor-clause-read : goal.returns-in_err-vendor-clause-read
returns-in_err-vendor-clause-read c =
    let b = c.args.from.bytes.now in
    let p = c.args.from.place in
    let s = get_or b (p + 1) 0 in
    let h : p + 2 ≤ length b = omega arith in
    let k : 2 ≤ s = omega arith in
    let l : s ≤ length b - p = omega arith in
    let r = err_from_is_err_and c.from_residual.result c.from_residual.ensures.1 in
    rw (r.1, r.2) (c.in_err-vendor.ensures.read (drop (p + s) b) ∙ sym (cond-true _ _ _ (eq-eqb _ _ c.if-bytes-at-eq26.true)) ∙ whole b p h k l)

pub returns-then-bytes-at-eq26 : goal.returns-then-bytes-at-eq26
returns-then-bytes-at-eq26 c =
    let b = c.args.from.bytes.now in
    let p = c.args.from.place in
    let s = get_or b (p + 1) 0 in
    let h : p + 2 ≤ length b = omega arith in
    let k : 2 ≤ s = omega arith in
    let l : s ≤ length b - p = omega arith in
    let a = c.in_ok-vendor.field-0 in
    let e = c.in_ok-vendor.ensures in
    record {
      read = same_view b (p + s) a e.next ∙ e.read (drop (p + s) b) ∙ sym (cond-true _ _ _ (eq-eqb _ _ c.if-bytes-at-eq26.true)) ∙ whole b p h k l;
      onward = goes_on p (length b) (p + s) a e.next (omega arith) (omega arith);
    }

pub returns : goal.returns
returns c =
    let b = c.args.from.bytes.now in
    let p = c.args.from.place in
    let s = get_or b (p + 1) 0 in
    let h : p + 2 ≤ length b = omega arith in
    let k : 2 ≤ s = omega arith in
    let l : s ≤ length b - p = omega arith in
    record {
      read = sym (cond-false _ _ _ (ne_eqb _ _ c.if-bytes-at-eq26.false)) ∙ whole b p h k l;
      onward = (omega arith, omega arith);
    }
