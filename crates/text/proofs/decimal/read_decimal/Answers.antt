use Rattle.std.proofs.Common.{refl, sym, ◌∙◌}
use Rattle.text.proofs.DecimalLaws.{padded_reads_none, no_text, same_text, no_text_reads_none, parsed_as, none_as}
use Rattle.text.proofs.decimal.read_decimal.Goals as goal

pub returns-then-is_padded : goal.returns-then-is_padded
returns-then-is_padded c =
    let p = none_as c.args.text.now _ refl (padded_reads_none c.args.text.now (sym c.if-is_padded.ensures)) in
    record { reads = p.0; value = p.1 }

pub returns-in_err-ok : goal.returns-in_err-ok
returns-in_err-ok c =
    let none = no_text c.args.text.now c.from_utf8.result _ c.from_utf8.ensures.cases (sym c.ok.ensures.value ∙ c.in_err-ok.was) in
    let p = none_as c.args.text.now c.from_residual.result c.from_residual.ensures (no_text_reads_none c.args.text.now none) in
    record { reads = p.0; value = p.1 }

pub returns : goal.returns
returns c =
    let same = same_text c.args.text.now c.from_utf8.result _ c.in_ok-ok.field-0 c.from_utf8.ensures.cases (sym c.ok.ensures.value ∙ c.in_ok-ok.was) in
    let p = parsed_as c.args.text.now c.in_ok-ok.field-0.now c.parse.result c.ok-2.result (sym c.if-is_padded.ensures) same c.parse.ensures.value.0 c.ok-2.ensures.value in
    record { reads = p.0; value = p.1 }
