use Rattle.std.proofs.Common.{arith}
use Rattle.book.proofs.Pools.{pools-bounds}
use Rattle.book.proofs.seats.Pools.standing.Goals as goal

pub overflow_add-result : goal.overflow_add-result
overflow_add-result c = omega (arith, pools-bounds c.args.self.now)

pub overflow_add-result-2 : goal.overflow_add-result-2
overflow_add-result-2 c = omega (arith, pools-bounds c.args.self.now)

pub returns-clause-bound : goal.returns-clause-bound
returns-clause-bound c = omega (arith, pools-bounds c.args.self.now)
