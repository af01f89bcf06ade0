use Rattle.std.proofs.Common.{rules}
use Rattle.book.specs.Lived.{new}
use Rattle.book.proofs.book.Book.new.Goals as goal

pub returns-clause-lives : goal.returns-clause-lives
returns-clause-lives g c = new _ (search rules)
