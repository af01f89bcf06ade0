use Rattle.std.proofs.Common.{◌≡◌, ◌+◌, ◌-◌, take, drop, ap, ◌∙◌, arith}
use Rattle.auction.specs.Places.{places_of}
use Rattle.auction.proofs.Rosters.{length-places}
use Rattle.book.specs.State.{view}
use Rattle.book.proofs.Lowering.{lower-more}
use Rattle.book.proofs.book.Book.lowered.Goals as goal

pub loop-member-preserved : goal.loop-member-preserved
loop-member-preserved g c =
    let b = view g.R.Resource c.args.self.now in
    let m = c.loop-member.member in
    let next : m + 1 - 1 ≡ m = omega arith in
    let both = lower-more b (length-places c.args.self.now.members) (places_of c.loop-member.members) m c.bears.result.fund.0 c.bears.result.assessment.0 (length-places c.loop-member.members) (omega arith) (omega arith) c.bears.ensures.fund c.bears.ensures.assessment c.loop-member.invariant.0 c.loop-member.invariant.1 in
    rw next (ap (take m) c.lower.ensures ∙ both.0, ap (drop m) c.lower.ensures ∙ both.1)
