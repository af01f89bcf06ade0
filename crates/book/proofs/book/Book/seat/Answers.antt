use Rattle.share.proofs.Answered.{unless-ok}
use Rattle.book.specs.Refusals.{out_of_phase}
use Rattle.book.specs.State.{view, stake_of}
use Rattle.book.specs.declared.phase.Phase.TheVariants.{Charging}
use Rattle.book.proofs.Seating.{seat-asked}
use Rattle.book.proofs.book.Book.seat.Goals as goal

pub returns-in-Some : goal.returns-in-Some
returns-in-Some g c =
    let b = view g.R.Resource c.args.self.now in
    let charging = (unless-ok (out_of_phase b Charging) tt tt c.in_ok-in_phase.ensures).0 in
    seat-asked b c.args.seat (stake_of c.in-Some.pool.now) c.seat_of-in-Some.result charging c.in-Some.ensures.0 c.in-Some.ensures.1 c.seat_of-in-Some.ensures.capacity c.seat_of-in-Some.ensures.standing
