use Rattle.std.proofs.Common.{◌≡◌, ◌≤◌, drop}
use Rattle.words.proofs.Reading.{reading}
use Rattle.words.proofs.natural.Given as goal

-- the number so far is within the limit, and with the bytes to come it gives what the whole word does
abbrev pub invariant-loop-b : goal.invariant-loop-b
invariant-loop-b l = (l.n ≤ l.most) × (reading l.most l.n (drop l.b-index l.word) ≡ reading l.most 0 l.word)
