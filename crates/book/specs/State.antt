-- A book as the rules see it: numbers, members, lots and pools. Assumes nothing.
use Rattle.std.specs.Prelude.{ℕ, ◌+◌, ◌-◌, min, List, [], replicate, None, Option}
use Rattle.share.specs.Rule.{share_of}
use Rattle.resource.specs.Pools.{Stake, capacity_of, fresh, payers_of, standing_of}
use Rattle.resource.specs.declared.pool.Pool.{Pool}
use Rattle.resource.specs.declared.resource.Resource.{Ghosts}
use Rattle.auction.specs.Auctions.{listings_of}
use Rattle.auction.specs.Lots.{Listing}
use Rattle.auction.specs.Places.{places_of}
use Rattle.auction.specs.Roster.{most_members}
use Rattle.auction.specs.declared.member.Member.{Member}
use Rattle.book.specs.declared.book.Book.{Book}
use Rattle.book.specs.declared.phase.Phase.{Phase}
use Rattle.book.specs.declared.phase.Phase.TheVariants.{Resting}
use Rattle.book.specs.declared.seats.Pools.{Pools}
use Rattle.book.specs.declared.seats.Seats.{Seats}

-- the six pools by seat, each by its weights and its standing
pub record Stakes : Type 0 where
  pub first : Stake
  pub second : Stake
  pub third : Stake
  pub fifth : Stake
  pub sixth : Stake
  pub seventh : Stake

-- a book: 32 places for members, the lots and the six pools of an auction, the house's capacity and standing, and the net loss
pub record State : Type 0 where
  pub phase : Phase
  pub roster : List (Option Member)
  pub lots : List Listing
  pub stakes : Stakes
  pub capacity : ℕ
  pub standing : ℕ
  pub loss : ℕ

-- a pool by its weights and its standing
abbrev pub stake_of : Pool → Stake
stake_of p = record { payers = payers_of p; standing = standing_of p }

-- the six pools of the code
abbrev pub stakes_of : Seats → Stakes
stakes_of s = record {
  first = stake_of s.funds.first;
  second = stake_of s.funds.second;
  third = stake_of s.funds.third;
  fifth = stake_of s.assessments.first;
  sixth = stake_of s.assessments.second;
  seventh = stake_of s.assessments.third;
}

-- a pool that stands for what it can of an amount
abbrev pub poured : Pool → ℕ → Stake
poured p n = record { payers = payers_of p; standing = min (capacity_of p) n }

-- what three pools can stand for, what they stand for, and what a member bears in them
abbrev pub pools_capacity : Pools → ℕ
pools_capacity p = capacity_of p.first + (capacity_of p.second + capacity_of p.third)

abbrev pub pools_standing : Pools → ℕ
pools_standing p = standing_of p.first + (standing_of p.second + standing_of p.third)

abbrev pub pools_borne : Pools → ℕ → ℕ
pools_borne p m =
    share_of (standing_of p.first) (payers_of p.first) (m - 1)
    + (share_of (standing_of p.second) (payers_of p.second) (m - 1)
    + share_of (standing_of p.third) (payers_of p.third) (m - 1))

-- a book of the code, the house by the meaning of its resource
abbrev pub view : {R : Type 0} → Ghosts R → Book R → State
view g b = record {
  phase = b.phase;
  roster = places_of b.members;
  lots = listings_of b.auction;
  stakes = stakes_of b.seats;
  capacity = g.capacity b.house;
  standing = g.standing b.house;
  loss = b.loss.0;
}

-- a pool in which nobody has a weight
abbrev pub idle : Stake
idle = fresh (replicate most_members 0)

-- the pools outside Charging
abbrev pub all_idle : Stakes
all_idle = record { first = idle; second = idle; third = idle; fifth = idle; sixth = idle; seventh = idle }

-- a book outside Charging, over a house of a capacity: nothing stands
abbrev pub still : Phase → List (Option Member) → List Listing → ℕ → State
still p r ls c = record { phase = p; roster = r; lots = ls; stakes = all_idle; capacity = c; standing = 0; loss = 0 }

-- a book as it is made over a house of a capacity: nobody is enrolled
abbrev pub made : ℕ → State
made c = still Resting (replicate most_members None) [] c
