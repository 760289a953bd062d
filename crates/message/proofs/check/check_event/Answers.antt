use Rattle.std.proofs.Common.{◌≡◌, true, false, Err, sym, ap, ◌∙◌, rules}
use Rattle.std.proofs.lemmas.Result.{err_from_is_err_and}
use Rattle.message.specs.Rules.{listed, well_formed, complete}
use Rattle.message.proofs.Checked.{make_sound, checked_event, incomplete}
use Rattle.message.proofs.check.check_event.Goals as goal

pub returns-in_err-has_mandatory : goal.returns-in_err-has_mandatory
returns-in_err-has_mandatory c =
    let p = err_from_is_err_and c.from_residual.result c.from_residual.ensures.1 in
    let l : listed c.args.header.kind ≡ true = search rules in
    let w : well_formed c.args.header ≡ true = search rules in
    let e = c.in_err-has_mandatory.ensures in
    let f : complete c.args.header.kind c.args.attributes ≡ false = search rules in
    rw (p.1, p.2) (ap Err e.1 ∙ incomplete c.args.at c.args.header c.args.attributes l w f)

pub invariant_of-result : goal.invariant_of-result
invariant_of-result c =
    let l : listed c.args.header.kind ≡ true = search rules in
    let w : well_formed c.args.header ≡ true = search rules in
    let f : complete c.args.header.kind c.args.attributes ≡ true = search rules in
    record {
      sound = make_sound c.args.header c.args.attributes record
          { header = c.requires.header; attributes = c.requires.attributes; count = c.requires.count; kind = l; formed = w; full = f };
    }

pub returns : goal.returns
returns c = sym (checked_event c.args.at c.args.header c.args.attributes _)
