use Rattle.resource.proofs.Weights.{pool-law}
use Rattle.resource.proofs.pool.Pool.bears.Goals as goal

pub returns-in_err-place-clause-law : goal.returns-in_err-place-clause-law
returns-in_err-place-clause-law c = pool-law c.args.self.now

pub returns-clause-law : goal.returns-clause-law
returns-clause-law c = pool-law c.args.self.now
