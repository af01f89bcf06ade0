use Rattle.std.proofs.Common.{arith}
use Rattle.std.proofs.lemmas.List.{length-set}
use Rattle.std.proofs.lemmas.Result.{err_from_is_err_and}
use Rattle.share.proofs.Answered.{unless-err}
use Rattle.lot.proofs.Entries.{room-left, next-taken}
use Rattle.lot.proofs.bids.Bids.enter.Goals as goal

pub returns-in_err-admits-clause-answer : goal.returns-in_err-admits-clause-answer
returns-in_err-admits-clause-answer c =
    let e = c.in_err-admits.ensures in
    let p = err_from_is_err_and c.from_residual.result c.from_residual.ensures.1 in
    rw (p.1, p.2) (unless-err _ _ tt _ e)

pub invariant_of-self : goal.invariant_of-self
invariant_of-self c =
    let e = c.in_ok-admits.ensures in
    let lot = c.args.self.now in
    let b = c.args.bid in
    record { few = omega (arith, room-left lot b e); long = simp length-set lot.long; taken = next-taken lot b e }
