-- Enrolling, topping up and releasing members: when each is declined, and the roster afterwards. Assumes nothing.
use Rattle.std.specs.Prelude.{ℕ, ◌+◌, ◌-◌, Bool, not, ◌||◌, List, [], ◌∷◌, is_some, Some, None, Ok, Err, Option, Result, nat_lt, slice_set}
use Rattle.share.specs.Refusals.{if_so, in_range}
use Rattle.share.specs.declared.refusal.Refusal.TheVariants.{OutOfRange, NotEnrolled, AlreadyEnrolled, OutsideLimits}
use Rattle.auction.specs.Roster.{most_members, most_amount, place, fund_of, assessment_of}
use Rattle.auction.specs.declared.member.Member.{Member}

-- whether a member number is outside 1 to 32
abbrev pub no_member : ℕ → Bool
no_member m = not (in_range m most_members)

-- whether no member is enrolled at a number
abbrev pub absent : List (Option Member) → ℕ → Bool
absent r m = not (is_some (place r m))

-- whether a fund or an assessment is above its limit
abbrev pub too_much : ℕ → ℕ → Bool
too_much f a = nat_lt most_amount f || nat_lt most_amount a

-- a member with these amounts, and one that is topped up by them
abbrev pub member_with : ℕ → ℕ → Option Member
member_with f a = Some (record { fund = record { 0 = f }; assessment = record { 0 = a } })

abbrev pub topped_up : Option Member → ℕ → ℕ → Option Member
topped_up x f a = member_with (fund_of x + f) (assessment_of x + a)

-- the roster with another entry at a number
abbrev pub put : List (Option Member) → ℕ → Option Member → List (Option Member)
put r m x = slice_set r (m - 1) x

-- a member with its fund and its assessment lowered
abbrev pub less : Option Member → ℕ → ℕ → Option Member
less None f a = None
less (Some x) f a = member_with (x.fund.0 - f) (x.assessment.0 - a)

-- an answer with a member as what stands at its number
abbrev pub as_member : {E : Type 0} → Result Member E → Result (Option Member) E
as_member (Ok x) = Ok (Some x)
as_member (Err e) = Err e

-- the tests of enrolling a member with a fund and an assessment, in the order of their numbers
abbrev pub enrol_tests : List (Option Member) → ℕ → ℕ → ℕ → List ℕ
enrol_tests r m f a = if_so (no_member m) OutOfRange ∷ if_so (is_some (place r m)) AlreadyEnrolled ∷ if_so (too_much f a) OutsideLimits ∷ []

-- the tests of a call or a question about a member that has to be enrolled
abbrev pub member_tests : List (Option Member) → ℕ → List ℕ
member_tests r m = if_so (no_member m) OutOfRange ∷ if_so (absent r m) NotEnrolled ∷ []

-- the tests of topping a member up; its totals afterwards have the same limits
abbrev pub top_up_tests : List (Option Member) → ℕ → ℕ → ℕ → List ℕ
top_up_tests r m f a =
    if_so (no_member m) OutOfRange ∷ if_so (absent r m) NotEnrolled ∷
    if_so (too_much f a || too_much (fund_of (place r m) + f) (assessment_of (place r m) + a)) OutsideLimits ∷ []
