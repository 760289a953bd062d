use Rattle.std.proofs.Common.{rules, tests, ◌≡◌, sym, ap, ◌∙◌, Some}
use Rattle.std.proofs.lemmas.Iterator.{YieldsList-from_slice}
use Rattle.std.proofs.lemmas.Iterator.Search.{position_from_yields_List}
use Rattle.std.proofs.lemmas.List.{take_rest}
use Rattle.std.specs.List.{position}
use Rattle.fields.specs.Texts.{digits}
use Rattle.fields.proofs.Runs.{no_space, digits_from, all_spaces}
use Rattle.fields.proofs.texts.is_spaced.Goals as goal

pub returns-in-Some : goal.returns-in-Some
returns-in-Some c =
    let e : c.position.result ≡ position no_space c.args.bytes.now = position_from_yields_List no_space _ _ c.position.result c.position.ensures.ran (YieldsList-from_slice c.args.bytes.now cc) (λ x b q k. search (rules, tests)) in
    let at : position no_space c.args.bytes.now ≡ Some c.in-Some.start = cc in
    c.is_digits.ensures ∙ ap digits (take_rest c.args.bytes.now c.in-Some.start) ∙ sym (digits_from c.args.bytes.now c.in-Some.start at)

pub returns-in-None : goal.returns-in-None
returns-in-None c =
    let e : c.position.result ≡ position no_space c.args.bytes.now = position_from_yields_List no_space _ _ c.position.result c.position.ensures.ran (YieldsList-from_slice c.args.bytes.now cc) (λ x b q k. search (rules, tests)) in
    sym (all_spaces c.args.bytes.now cc)
