-- The payers of a pool, by their weights. Assumes nothing.
use Rattle.std.specs.Prelude.{ℕ, ◌≤◌, Bool, cond, ◌||◌, List, map, length, take, nat_lt, slice_index, EachIndex}
use Rattle.std.specs.List.{list_any}
use Rattle.share.specs.declared.units.Dollars.{Dollars}

-- the number that an amount is
abbrev pub worth : Dollars → ℕ
worth d = d.0

-- the weights as numbers
abbrev pub weights_of : List Dollars → List ℕ
weights_of ws = map worth ws

-- the first n of an array of weights, as numbers
abbrev pub first_weights : ℕ → List Dollars → List ℕ
first_weights n ws = weights_of (take n ws)

-- the greatest weight of a payer
abbrev pub most_weight : ℕ
most_weight = 100000000

-- no weight is above the greatest
abbrev pub Light : List ℕ → Type 0
Light ws = EachIndex ws (λ k. slice_index ws k ≤ most_weight)

-- whether some weight is above the greatest
abbrev pub heavy : List ℕ → Bool
heavy ws = list_any (nat_lt most_weight) ws

-- the number of the refusal of a pool over weights: 5 unless it has 1 to 32 payers and no weight is above the greatest, else 0
abbrev pub pool_refusal : List ℕ → ℕ
pool_refusal ws = cond (nat_lt (length ws) 1 || (nat_lt 32 (length ws) || heavy ws)) 5 0
