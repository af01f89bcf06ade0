-- What is free in a book. Assumes nothing.
use Rattle.std.specs.Prelude.{ℕ, ◌+◌, ◌-◌, sum_by}
use Rattle.auction.specs.Roster.{place, fund_of, assessment_of, numbers}
use Rattle.book.specs.Standing.{fund_bears, assessment_bears}
use Rattle.book.specs.State.{State}

-- what is free of a member: its fund and its assessment, each less what it bears
abbrev pub free_of : State → ℕ → ℕ
free_of b m = (fund_of (place b.roster m) - fund_bears b m) + (assessment_of (place b.roster m) - assessment_bears b m)

-- what is free now: of all members, and the house's capacity less its standing
abbrev pub free : State → ℕ
free b = sum_by (free_of b) (numbers b.roster) + (b.capacity - b.standing)
