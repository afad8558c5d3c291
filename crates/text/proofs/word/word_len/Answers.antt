use Rattle.std.proofs.Common.{take, drop, not, ap, ◌∙◌, rules, tests}
use Rattle.std.proofs.lemmas.List.Sums.{prefix_len-le-length}
use Rattle.std.proofs.lemmas.Iterator.{YieldsList-from_slice}
use Rattle.std.proofs.lemmas.Iterator.Search.{position_from_yields_List}
use Rattle.text.specs.Words.{is_blank}
use Rattle.text.proofs.WordLaws.{place, word_taken, word_passed}
use Rattle.text.proofs.word.word_len.Goals as goal

pub returns : goal.returns
returns c =
    let found = position_from_yields_List is_blank _ _ c.position-end.result c.position-end.ensures.ran (YieldsList-from_slice c.args.text.now cc) (λ x b q k. search (rules, tests)) in
    let end = place is_blank c.args.text.now _ _ found c.unwrap_or.ensures in
    record {
      within = rw end (prefix_len-le-length (λ b. not (is_blank b)) c.args.text.now);
      word = ap (λ i. take i c.args.text.now) end ∙ word_taken c.args.text.now;
      rest = ap (λ i. drop i c.args.text.now) end ∙ word_passed c.args.text.now;
    }
