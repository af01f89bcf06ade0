use Rattle.book.proofs.answers.AnswerDisplay.fmt.Goals as goal

pub returns-in-Released-clause-writes : goal.returns-in-Released-clause-writes
returns-in-Released-clause-writes g c = rw c.in-Released.is (rw c.in-Released.is at c.write-in-Released.ensures.writes)
