use Rattle.book.proofs.Bounds as bounds
use Rattle.book.proofs.laws.limits_law.Goals as goal

pub returns : goal.returns
returns g c = bounds.limits-law g.R.Resource
