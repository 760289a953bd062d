use Rattle.std.proofs.Common.{◌≡◌, true, false, sym, ap, ◌∙◌, subst}
use Rattle.std.proofs.lemmas.Result.{err_from_is_err_and}
use Rattle.message.specs.Kinds.{number_of}
use Rattle.message.specs.Values.{fits}
use Rattle.reading.specs.Events.{value_in}
use Rattle.reading.specs.Readings.{last_number, met_in, or_empty}
use Rattle.reading.proofs.Admitted.{is_unknown, is_header, is_unfit, is_repeated, is_fine, one_number, other_number, nothing_fits}
use Rattle.reading.proofs.admission.admit.Goals as goal

pub returns-in_err-kind-clause-read : goal.returns-in_err-kind-clause-read
returns-in_err-kind-clause-read g c =
    let t = c.args.token.now in
    let e = c.in_err-kind.ensures in
    let r = err_from_is_err_and c.from_residual.result c.from_residual.ensures.1 in
    rw (r.1, r.2, e.1) (is_unknown g.F.Framing.encoding t.at t.number t.body.now _ e.0)

pub returns-in-Header-clause-read : goal.returns-in-Header-clause-read
returns-in-Header-clause-read g c =
    let t = c.args.token.now in
    let e = c.in_ok-kind.ensures in
    is_header g.F.Framing.encoding t.at t.number t.body.now _ e.1 (one_number c.in_ok-kind.kind t.number e.0 c.in-Header.is)

pub returns-in_default-value : goal.returns-in_default-value
returns-in_default-value g c =
    let t = c.args.token.now in
    let k = c.in_ok-kind.kind in
    let e = c.in_ok-kind.ensures in
    let v = ap or_empty (sym c.in_default-value.is) ∙ c.value.ensures in
    let f = ap (λ x. fits (number_of k, x)) (sym v) ∙ nothing_fits k in
    record {
      read = is_unfit g.F.Framing.encoding t.at t.number t.body.now _ e.1 (other_number k t.number e.0 c.in_default.not-Header) (subst (λ n. fits (n, value_in g.F.Framing.encoding n t.body.now) ≡ false) e.0 f);
      kind = tt;
      fits = tt;
    }

pub returns-then-not-allows : goal.returns-then-not-allows
returns-then-not-allows g c =
    let t = c.args.token.now in
    let k = c.in_ok-kind.kind in
    let e = c.in_ok-kind.ensures in
    let v = ap or_empty (sym c.in-Some.is) ∙ c.value.ensures in
    let f = ap (λ x. fits (number_of k, x)) (sym v) ∙ sym c.allows.ensures ∙ c.if-not-allows.true in
    record {
      read = is_unfit g.F.Framing.encoding t.at t.number t.body.now _ e.1 (other_number k t.number e.0 c.in_default.not-Header) (subst (λ n. fits (n, value_in g.F.Framing.encoding n t.body.now) ≡ false) e.0 f);
      kind = tt;
      fits = tt;
    }

pub returns-then-is_met : goal.returns-then-is_met
returns-then-is_met g c =
    let t = c.args.token.now in
    let k = c.in_ok-kind.kind in
    let e = c.in_ok-kind.ensures in
    let v = ap or_empty (sym c.in-Some.is) ∙ c.value.ensures in
    let f = ap (λ x. fits (number_of k, x)) (sym v) ∙ sym c.allows.ensures ∙ c.if-not-allows.false in
    let m = sym c.is_met.ensures ∙ c.if-is_met.true in
    record {
      read = is_repeated g.F.Framing.encoding t.at t.number t.body.now _ e.1 (other_number k t.number e.0 c.in_default.not-Header) (subst (λ n. fits (n, value_in g.F.Framing.encoding n t.body.now) ≡ true) e.0 f)
          (subst (λ n. met_in g.F.Framing.encoding n (last_number c.args.last) c.args.attributes.now ≡ true) e.0 m);
      kind = tt;
      fits = tt;
    }

pub returns : goal.returns
returns g c =
    let t = c.args.token.now in
    let k = c.in_ok-kind.kind in
    let e = c.in_ok-kind.ensures in
    let v = ap or_empty (sym c.in-Some.is) ∙ c.value.ensures in
    let w = sym c.allows.ensures ∙ c.if-not-allows.false in
    let f = ap (λ x. fits (number_of k, x)) (sym v) ∙ w in
    let m = sym c.is_met.ensures ∙ c.if-is_met.false in
    record {
      read = is_fine g.F.Framing.encoding t.at t.number t.body.now _ e.1 (other_number k t.number e.0 c.in_default.not-Header) c.in-Some.value.now (v ∙ ap (λ n. value_in g.F.Framing.encoding n t.body.now) e.0)
          (subst (λ n. fits (n, value_in g.F.Framing.encoding n t.body.now) ≡ true) e.0 f) (subst (λ n. met_in g.F.Framing.encoding n (last_number c.args.last) c.args.attributes.now ≡ false) e.0 m);
      kind = e.0;
      fits = w;
    }
