-- What a pool is. Assumes nothing.
use Rattle.std.specs.Prelude.{◌≡◌, ℕ, ◌-◌, ◌*◌, ◌<◌, ◌≤◌, cond, ◌||◌, List, length, Ok, Err, Result, nat_lt, slice_index}
use Rattle.share.specs.Laws.{Within}
use Rattle.share.specs.Rule.{total, share_of, shares_of, lowered}
use Rattle.share.specs.declared.units.Dollars.{Dollars}
use Rattle.resource.specs.Payers.{first_weights}
use Rattle.resource.specs.declared.pool.Pool.{Pool}

-- the payers' weights, in payer order
abbrev pub payers_of : Pool → List ℕ
payers_of p = first_weights p.count p.weights

-- the sum of the weights
abbrev pub capacity_of : Pool → ℕ
capacity_of p = total (payers_of p)

-- how much stands for a loss
abbrev pub standing_of : Pool → ℕ
standing_of p = p.standing.0

-- what each payer bears: its share of the standing
abbrev pub borne : Pool → List ℕ
borne p = shares_of (standing_of p) (payers_of p)

-- the number of the refusal of a payer's number, counted from 1, in a pool of so many payers: 2 where there is no such payer, else 0
abbrev pub payer_refusal : ℕ → ℕ → ℕ
payer_refusal count n = cond (nat_lt n 1 || nat_lt count n) 2 0

-- an answer in dollars as a number
abbrev pub dollars_in : {E : Type 0} → Result Dollars E → Result ℕ E
dollars_in (Ok d) = Ok d.0
dollars_in (Err e) = Err e

-- a pool by its weights and its standing
pub record Stake : Type 0 where
  pub payers : List ℕ
  pub standing : ℕ

-- a pool over weights as it is made: nothing stands
abbrev pub fresh : List ℕ → Stake
fresh ws = record { payers = ws; standing = 0 }

-- a pool that was made, if it was, by its weights and its standing
abbrev pub as_made : {E : Type 0} → Result Pool E → Result Stake E
as_made (Ok p) = Ok (record { payers = payers_of p; standing = standing_of p })
as_made (Err e) = Err e

-- what the payers of a pool with weights ws bear where t stands
pub record PoolLaw (t : ℕ) (ws : List ℕ) : Type 0 where
  -- together all that stands
  pub in_full : total (shares_of t ws) ≡ t
  -- none more than its weight
  pub within : (i : ℕ) → i < length ws → share_of t ws i ≤ slice_index ws i
  -- each its proportion t × weight ÷ capacity, less than a dollar more or less
  pub near : (i : ℕ) → i < length ws → 0 < total ws → Within (share_of t ws i * total ws) (t * slice_index ws i) (total ws)
  -- nothing where there is no capacity
  pub none : (i : ℕ) → total ws ≡ 0 → share_of t ws i ≡ 0
  -- a write-off lowers each weight by what its payer bore, and leaves the rest of the capacity
  pub written_off : total (lowered t ws) ≡ total ws - t
