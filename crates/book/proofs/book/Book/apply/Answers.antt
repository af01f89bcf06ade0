use Rattle.book.specs.Lived.{lived}
use Rattle.book.proofs.Histories as lives
use Rattle.book.proofs.book.Book.apply.Goals as goal

pub returns-clause-lives : goal.returns-clause-lives
returns-clause-lives g c = λ first h life. lived _ _ _ _ h life c.make.ensures

pub returns-clause-law : goal.returns-clause-law
returns-clause-law g c = lives.law g.R.Resource g.S.Resource
