use Rattle.std.proofs.Common.{drop, not, ap, ◌∙◌, rules, tests}
use Rattle.std.proofs.lemmas.Iterator.{YieldsList-from_slice}
use Rattle.std.proofs.lemmas.Iterator.Search.{position_from_yields_List}
use Rattle.std.proofs.lemmas.List.{take_rest}
use Rattle.text.specs.Words.{is_blank}
use Rattle.text.proofs.WordLaws.{place, blanks_passed}
use Rattle.text.proofs.word.skip_blanks.Goals as goal

pub returns : goal.returns
returns c =
    let found = position_from_yields_List (λ b. not (is_blank b)) _ _ c.position-start.result c.position-start.ensures.ran (YieldsList-from_slice c.args.text.now cc) (λ x b q k. search (rules, tests)) in
    let start = place (λ b. not (is_blank b)) c.args.text.now _ _ found c.unwrap_or.ensures in
    take_rest c.args.text.now c.unwrap_or.result ∙ ap (λ i. drop i c.args.text.now) start ∙ blanks_passed c.args.text.now
