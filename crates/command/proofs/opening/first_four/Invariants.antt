use Rattle.std.proofs.Common.{◌≡◌, ◌-◌, ◌≤◌, [], length}
use Rattle.command.proofs.Filling.{filling}
use Rattle.command.proofs.opening.first_four.Given as goal

-- what is held and the lots to come have the same first four as all the lots
abbrev pub invariant-loop : goal.invariant-loop
invariant-loop l = (length l.held.items ≤ 4) × (filling (l.lots - l.counter) l.held.items l.rest ≡ filling l.lots [] l.line)
