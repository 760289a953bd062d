use Rattle.std.proofs.Common.{suc, ◌-◌, length, drop, refl, arith, length-drop}
use Rattle.std.proofs.lemmas.Result.{err_from_is_err_and}
use Rattle.reading.proofs.Picks.{fails, ends, finds, skips, beyond_cable, beyond_other}
use Rattle.reading.specs.Tokens.{token_at}
use Rattle.reading.proofs.packet.VendorAttributesFraming.token.Goals as goal

pub loop-attribute-init : goal.loop-attribute-init
unfolding token_at
loop-attribute-init c =
    let b = c.args.from.bytes.now in
    let p = c.args.from.place in
    (omega arith, c.args.from.within, (suc (length (drop p b)), omega (arith, length-drop p b), refl))

pub returns-in_err-attribute : goal.returns-in_err-attribute
unfolding token_at
returns-in_err-attribute c =
    let i = c.loop-attribute.invariant in
    let x = i.1 in
    let y = i.2.1 in
    let r = err_from_is_err_and c.from_residual.result c.from_residual.ensures.1 in
    rw (r.1, r.2) record { read = fails c.args.from.bytes.now c.loop-attribute.place i.2.0 _ (omega arith) i.2.2 _ c.in_err-attribute.ensures.read; further = tt }

pub returns-in-CableLabs : goal.returns-in-CableLabs
unfolding token_at
returns-in-CableLabs c =
    let i = c.loop-attribute.invariant in
    let x = i.1 in
    let y = i.2.1 in
    let z = i.0 in
    let t = c.in-CableLabs in
    let o = beyond_cable c.loop-attribute.place (length c.args.from.bytes.now) c.in_ok-attribute.field-0 c.in-Some.attribute t.number t.value t.at t.next c.in-Some.is t.is c.in_ok-attribute.ensures.onward in
    let o0 = o.0 in
    record {
      read = finds c.args.from.bytes.now c.loop-attribute.place i.2.0 _ (omega arith) i.2.2 c.in_ok-attribute.field-0 c.in-Some.attribute c.in-Some.is c.in_ok-attribute.ensures.read t.number t.value t.at t.next t.is;
      further = (omega arith, o.1);
    }

pub loop-attribute-smaller : goal.loop-attribute-smaller
unfolding token_at
loop-attribute-smaller c =
    let t = c.in-Other in
    let o = beyond_other c.loop-attribute.place (length c.args.from.bytes.now) c.in_ok-attribute.field-0 c.in-Some.attribute t.kind t.value t.at t.next c.in-Some.is t.is c.in_ok-attribute.ensures.onward in
    let o0 = o.0 in let o1 = o.1 in
    omega arith

pub loop-attribute-preserved : goal.loop-attribute-preserved
unfolding token_at
loop-attribute-preserved c =
    let i = c.loop-attribute.invariant in
    let x = i.1 in
    let y = i.2.1 in
    let z = i.0 in
    let t = c.in-Other in
    let o = beyond_other c.loop-attribute.place (length c.args.from.bytes.now) c.in_ok-attribute.field-0 c.in-Some.attribute t.kind t.value t.at t.next c.in-Some.is t.is c.in_ok-attribute.ensures.onward in
    let o0 = o.0 in let o1 = o.1 in (
      omega arith,
      o1,
      (
        i.2.0 - 1,
        omega arith,
        skips c.args.from.bytes.now c.loop-attribute.place i.2.0 _ (omega arith) i.2.2 c.in_ok-attribute.field-0 c.in-Some.attribute c.in-Some.is c.in_ok-attribute.ensures.read t.kind t.value t.at t.next t.is,
      ),
    )

pub returns : goal.returns
unfolding token_at
returns c =
    let i = c.loop-attribute.invariant in
    let x = i.1 in
    let y = i.2.1 in
    record {
      read = ends c.args.from.bytes.now c.loop-attribute.place i.2.0 _ (omega arith) i.2.2 c.in_ok-attribute.field-0 _ c.in_default.is c.in_ok-attribute.ensures.read c.in_ok-attribute.ensures.onward;
      further = c.args.from.within;
    }
