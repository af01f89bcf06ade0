-- The members of a book by their numbers, and what each has. Assumes nothing.
use Rattle.std.specs.Prelude.{ℕ, ◌-◌, ◌≤◌, List, map, length, Some, None, Option, slice_index_or}
use Rattle.std.specs.List.{range_with_len}
use Rattle.auction.specs.declared.member.Member.{Member}
use Rattle.auction.specs.declared.place.Place.{Place}

-- the greatest member number
abbrev pub most_members : ℕ
most_members = 32

-- what stands at a number, counted from 1
abbrev pub place : List (Option Member) → ℕ → Option Member
place r m = slice_index_or r (m - 1) None

-- who stands at a place
abbrev pub held : Place → Option Member
held p = p.0

-- a fund, 0 where no member is
abbrev pub fund_of : Option Member → ℕ
fund_of None = 0
fund_of (Some x) = x.fund.0

-- the fund of who stands at a place
abbrev pub fund_in : Place → ℕ
fund_in p = fund_of (held p)

-- an assessment, 0 where no member is
abbrev pub assessment_of : Option Member → ℕ
assessment_of None = 0
assessment_of (Some x) = x.assessment.0

-- all funds in number order
abbrev pub funds : List (Option Member) → List ℕ
funds r = map fund_of r

-- the numbers of a roster's places
abbrev pub numbers : List (Option Member) → List ℕ
numbers r = range_with_len 1 (length r)

-- the most that a fund or an assessment may be
abbrev pub most_amount : ℕ
most_amount = 100000000

-- no fund and no assessment is above its limit
abbrev pub Funded : List (Option Member) → Type 0
Funded r = (k : ℕ) → (fund_of (slice_index_or r k None) ≤ most_amount) × (assessment_of (slice_index_or r k None) ≤ most_amount)
