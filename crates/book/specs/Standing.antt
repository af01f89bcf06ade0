-- The seven seats: how a loss stands in them, and what members bear. Assumes nothing.
use Rattle.std.specs.Prelude.{◌≡◌, ℕ, ◌+◌, ◌-◌, min, Bool, true, false, not, ◌||◌, List, [], ◌∷◌, map, Option, MatchOption, ◌==◌, slice_index, slice_index_or}
use Rattle.std.specs.Borrow.{Bor}
use Rattle.share.specs.Refusals.{in_range}
use Rattle.share.specs.Rule.{total, share_of}
use Rattle.resource.specs.Pools.{Stake, fresh}
use Rattle.resource.specs.declared.pool.Pool.{Pool}
use Rattle.auction.specs.Enrolling.{less}
use Rattle.auction.specs.Lots.{Listing}
use Rattle.auction.specs.Roster.{place, numbers}
use Rattle.auction.specs.Weights.{Weights}
use Rattle.auction.specs.declared.member.Member.{Member}
use Rattle.book.specs.State.{Stakes, State, stake_of}
use Rattle.book.specs.declared.phase.Phase.TheVariants.{Charging}

-- each seat in order stands at the lesser of its capacity and what is left
abbrev pub stand : List ℕ → ℕ → List ℕ
stand [] n = []
stand (c ∷ cs) n = min c n ∷ stand cs (n - c)

-- the capacities of the seven seats, by the weights of the pools and the house's capacity
abbrev pub capacities_of : Weights → ℕ → List ℕ
capacities_of ws c =
    total ws.first ∷ total ws.second ∷ total ws.third ∷ c ∷ total ws.fifth ∷ total ws.sixth ∷ total ws.seventh ∷ []

-- a pool of a seat with these weights, where the seats' standings are these
abbrev pub stake_under : List ℕ → List ℕ → ℕ → Stake
stake_under ws ts s = record { payers = ws; standing = slice_index ts (s - 1) }

-- the six pools, where the seats' standings are these
abbrev pub stakes_under : Weights → List ℕ → Stakes
stakes_under ws ts = record {
  first = stake_under ws.first ts 1;
  second = stake_under ws.second ts 2;
  third = stake_under ws.third ts 3;
  fifth = stake_under ws.fifth ts 5;
  sixth = stake_under ws.sixth ts 6;
  seventh = stake_under ws.seventh ts 7;
}

-- the six pools with these weights, where nothing stands
abbrev pub fresh_stakes : Weights → Stakes
fresh_stakes ws = record {
  first = fresh ws.first;
  second = fresh ws.second;
  third = fresh ws.third;
  fifth = fresh ws.fifth;
  sixth = fresh ws.sixth;
  seventh = fresh ws.seventh;
}

-- a book in Charging over a house of a capacity, whose pools have these weights: the net loss n stands in the seats in order
abbrev pub at_loss : List (Option Member) → List Listing → Weights → ℕ → ℕ → State
at_loss r ls ws c n = record {
  phase = Charging;
  roster = r;
  lots = ls;
  stakes = stakes_under ws (stand (capacities_of ws c) n);
  capacity = c;
  standing = slice_index (stand (capacities_of ws c) n) 3;
  loss = n;
}

-- the weights of the six pools
abbrev pub weights_in : Stakes → Weights
weights_in p = record {
  first = p.first.payers;
  second = p.second.payers;
  third = p.third.payers;
  fifth = p.fifth.payers;
  sixth = p.sixth.payers;
  seventh = p.seventh.payers;
}

-- the capacities of the seven seats of a book; outside Charging every seat but the fourth has 0
abbrev pub capacities : State → List ℕ
capacities b = capacities_of (weights_in b.stakes) b.capacity

-- the standings of the seven seats
abbrev pub standings : State → List ℕ
standings b =
    b.stakes.first.standing ∷ b.stakes.second.standing ∷ b.stakes.third.standing ∷ b.standing ∷
    b.stakes.fifth.standing ∷ b.stakes.sixth.standing ∷ b.stakes.seventh.standing ∷ []

-- the capacity and the standing of a seat, counted from 1
abbrev pub capacity_in : State → ℕ → ℕ
capacity_in b s = slice_index (capacities b) (s - 1)

abbrev pub standing_in : State → ℕ → ℕ
standing_in b s = slice_index (standings b) (s - 1)

-- where no payers are
abbrev pub nobody : Stake
nobody = fresh []

-- the pools in the order of the seats: none in the fourth
abbrev pub by_seat : Stakes → List Stake
by_seat p = p.first ∷ p.second ∷ p.third ∷ nobody ∷ p.fifth ∷ p.sixth ∷ p.seventh ∷ []

-- the pool in a seat, counted from 1
abbrev pub stake_in : Stakes → ℕ → Stake
stake_in p s = slice_index_or (by_seat p) (s - 1) nobody

abbrev pub pool_in : State → ℕ → Stake
pool_in b s = stake_in b.stakes s

-- whether a seat has no pool: it is the fourth, or there is no such seat
abbrev pub no_pool : ℕ → Bool
no_pool s = not (in_range s 7) || s == 4

-- a pool of the code is the one in a seat; there is none exactly where the seat has none
abbrev pub InSeat : Stakes → ℕ → Option (Bor Pool) → Type 0
InSeat p s r = MatchOption r (no_pool s ≡ true) (λ x. (no_pool s ≡ false) × (stake_of x.now ≡ stake_in p s))

-- a member's weight in a seat
abbrev pub weight_in : State → ℕ → ℕ → ℕ
weight_in b s m = slice_index (pool_in b s).payers (m - 1)

-- what a member bears in a seat: its share of the pool's standing
abbrev pub borne_by : Stakes → ℕ → ℕ → ℕ
borne_by p s m = share_of (stake_in p s).standing (stake_in p s).payers (m - 1)

abbrev pub bears_in : State → ℕ → ℕ → ℕ
bears_in b s m = borne_by b.stakes s m

-- what a member's fund bears: in seats 1 to 3
abbrev pub fund_bears : State → ℕ → ℕ
fund_bears b m = bears_in b 1 m + (bears_in b 2 m + bears_in b 3 m)

-- what its assessment bears: in seats 5 to 7
abbrev pub assessment_bears : State → ℕ → ℕ
assessment_bears b m = bears_in b 5 m + (bears_in b 6 m + bears_in b 7 m)

-- the members, each fund and assessment lowered by what it bears
abbrev pub lowered_roster : State → List (Option Member)
lowered_roster b = map (λ m. less (place b.roster m) (fund_bears b m) (assessment_bears b m)) (numbers b.roster)
