use Rattle.book.proofs.Bounds as bounds
use Rattle.book.proofs.laws.filling_law.Goals as goal

pub returns : goal.returns
returns g c = bounds.filling-law g.R.Resource
