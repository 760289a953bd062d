use Rattle.std.proofs.Common.{sym, ap, ◌∙◌}
use Rattle.std.proofs.lemmas.Result.{err_from_is_err_and}
use Rattle.message.specs.Headers.{header_of, header_typed}
use Rattle.message.proofs.Wires.{header_of_typed}
use Rattle.reading.proofs.Admitted.{no_number, no_header, no_width, a_header, one_number, other_number}
use Rattle.reading.proofs.admission.read_header.Goals as goal

pub returns-in_err-kind-clause-read : goal.returns-in_err-kind-clause-read
returns-in_err-kind-clause-read c =
    let t = c.args.token.now in
    let e = c.in_err-kind.ensures in
    let r = err_from_is_err_and c.from_residual.result c.from_residual.ensures.1 in
    rw (r.1, r.2, e.1) (no_number t.at t.number t.body.now e.0)

pub returns-in_default : goal.returns-in_default
returns-in_default c =
    let t = c.args.token.now in
    let e = c.in_ok-kind.ensures in
    record { read = no_header t.at t.number t.body.now e.1 (other_number c.in_ok-kind.field-0 t.number e.0 c.in_default.not-Header); typed = tt }

pub returns-then-token-width : goal.returns-then-token-width
returns-then-token-width c =
    let t = c.args.token.now in
    let e = c.in_ok-kind.ensures in
    record { read = no_width t.at t.number t.body.now e.1 (one_number c.in_ok-kind.field-0 t.number e.0 c.in-Header.is) (λ w. c.if-token-width.true (w ∙ sym c.width.ensures)); typed = tt }

pub returns : goal.returns
returns c =
    let t = c.args.token.now in
    let e = c.in_ok-kind.ensures in
    let h = c.from_bytes.ensures ∙ ap header_of c.whole.ensures in
    let w = c.if-token-width.false ∙ c.width.ensures in
    record {
      read = a_header t.at t.number t.body.now e.1 (one_number c.in_ok-kind.field-0 t.number e.0 c.in-Header.is) c.from_bytes.result h w;
      typed = ap header_typed h ∙ header_of_typed t.body.now w;
    }
