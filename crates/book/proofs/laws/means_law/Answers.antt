use Rattle.book.proofs.Bounds as bounds
use Rattle.book.proofs.laws.means_law.Goals as goal

pub returns : goal.returns
returns g c = bounds.means-law g.R.Resource
