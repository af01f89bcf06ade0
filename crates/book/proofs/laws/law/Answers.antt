use Rattle.book.proofs.Histories as lives
use Rattle.book.proofs.laws.law.Goals as goal

pub returns : goal.returns
returns g c = lives.law g.R.Resource g.S.Resource
