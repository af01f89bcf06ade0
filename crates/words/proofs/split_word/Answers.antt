use Rattle.std.proofs.Common.{◌≡◌, drop, ◌∙◌, rules, tests}
use Rattle.std.specs.List.{prefix_len}
use Rattle.std.proofs.lemmas.Iterator.{YieldsList-from_slice}
use Rattle.std.proofs.lemmas.Iterator.Consumers.{count_from_yields_List}
use Rattle.std.proofs.lemmas.Iterator.Search.{YieldsList-from_take_while}
use Rattle.std.proofs.lemmas.List.{take_rest}
use Rattle.std.proofs.lemmas.List.Folds.{length-prefix_len}
use Rattle.words.specs.Words.{blank, solid}
use Rattle.words.proofs.split_word.Goals as goal

pub returns : goal.returns
returns c =
    let line = c.args.line.now in
    let start : c.count-blanks.result ≡ prefix_len blank line =
    count_from_yields_List c.take_while.result _ c.count-blanks.ensures.ran (YieldsList-from_take_while _ blank (YieldsList-from_slice line (cc)) c.take_while.ensures.closure c.take_while.ensures.done (λ x b q k. search (rules, tests))) ∙ length-prefix_len blank line
    in
    let rest = drop c.count-blanks.result line in
    let part = take_rest line c.count-blanks.result in
    let long : c.count-len.result ≡ prefix_len solid rest =
    count_from_yields_List c.take_while-2.result _ c.count-len.ensures.ran (YieldsList-from_take_while _ solid (YieldsList-from_slice rest (cc)) c.take_while-2.ensures.closure c.take_while-2.ensures.done (λ x b q k. search (rules, tests))) ∙ length-prefix_len solid rest
    in
    record { word = cc; rest = cc }
