use Rattle.std.proofs.Common.{sym}
use Rattle.lot.proofs.Filled.{taken-at, taken-by_none}
use Rattle.lot.proofs.bids.Bids.first_takes.Goals as goal

pub returns-in-Some : goal.returns-in-Some
returns-in-Some c = taken-at c.args.price c.args.self.now c.in-Some.place (sym c.in-Some.ensures)

pub returns-in_default : goal.returns-in_default
returns-in_default c = taken-by_none c.args.price c.args.self.now (sym c.in_default.ensures)
