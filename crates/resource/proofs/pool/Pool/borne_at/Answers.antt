use Rattle.std.proofs.Common.{ap, arith}
use Rattle.share.specs.Rule.{total}
use Rattle.resource.specs.Totals.{pool-total, pool-covered}
use Rattle.resource.proofs.pool.Pool.borne_at.Goals as goal

pub share-requires-clause-bounded : goal.share-requires-clause-bounded
share-requires-clause-bounded c = let p = c.args.self.now in omega (arith, pool-covered p, pool-total p)

pub share-requires-clause-summed : goal.share-requires-clause-summed
share-requires-clause-summed c = omega (arith, ap total c.payers-payers.ensures, pool-total c.args.self.now)
