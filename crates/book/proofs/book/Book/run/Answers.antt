use Rattle.std.proofs.Common.{◌<◌, length, ◌∙◌, arith}
use Rattle.std.proofs.lemmas.List.{length-set}
use Rattle.book.proofs.Histories as lives
use Rattle.book.proofs.Running.{ran-more, rest_more}
use Rattle.book.proofs.book.Book.run.Goals as goal

pub loop-i-preserved : goal.loop-i-preserved
loop-i-preserved g c =
    let calls = c.args.calls.now in
    let i = c.loop-i.i in
    let h : i < length calls = omega (arith, c.loop-i-test.true, c.min-count.ensures) in
    let room : i < length c.loop-i.answers = omega (arith, c.loop-i-test.true, c.min-count.ensures, c.loop-i.invariant.0) in (
      length-set c.loop-i.answers i c.apply.result ∙ c.loop-i.invariant.0,
      ran-more g.R.Resource c.args.self.now calls c.loop-i.answers i c.loop-i.self c.apply.new.self c.index-calls-i.result c.apply.result h room c.index-calls-i.is c.loop-i.invariant.1 c.apply.ensures.does,
      rest_more c.loop-i.answers c.args.answers.now i c.apply.result c.loop-i.invariant.2,
    )

pub returns-clause-law : goal.returns-clause-law
returns-clause-law g c = lives.law g.R.Resource g.S.Resource
