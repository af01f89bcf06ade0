use Rattle.std.proofs.Common.{◌≡◌, length, take, drop}
use Rattle.book.specs.Lived.{Ran}
use Rattle.book.proofs.book.Book.run.Given as goal

abbrev pub invariant-loop-i : goal.invariant-loop-i
invariant-loop-i g l = (length l.answers ≡ length l.initial.answers) × (Ran g.R.Resource l.initial.self (take l.i l.calls) (take l.i l.answers) l.self) × (drop l.i l.answers ≡ drop l.i l.initial.answers)
