use Rattle.std.proofs.Common.{true, ◌∙◌, inl, arith}
use Rattle.std.proofs.lemmas.Iterator.Consumers.{count_from_yields_List, YieldsList-from_first}
use Rattle.words.specs.Iterating.{words_left}
use Rattle.words.specs.Words.{words_of}
use Rattle.words.proofs.Cuts.{begun-le-length, length-words_of}
use Rattle.words.proofs.count_words.Goals as goal

pub count-requires-clause-fits : goal.count-requires-clause-fits
count-requires-clause-fits c = inl (rw c.new.ensures (omega (arith, length-words_of c.args.line.now, begun-le-length true c.args.line.now)))

pub returns : goal.returns
returns c = count_from_yields_List c.new.result _ c.count.ensures.ran (YieldsList-from_first (λ w. w.now) words_left (words_of c.args.line.now) c.new.ensures) ∙ length-words_of c.args.line.now
