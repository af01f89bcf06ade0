-- The share rule: an amount is divided over weights in their order. Assumes nothing.
use Rattle.std.specs.Prelude.{ℕ, ◌+◌, ◌-◌, ◌*◌, ◌/◌, List, map, length, take, sum, slice_index}
use Rattle.std.specs.List.{range_with_len}

-- no amount and no sum of weights is above this, so that their product fits 64 bits
abbrev pub limit : ℕ
limit = 3200000000

-- the sum of the weights
abbrev pub total : List ℕ → ℕ
total ws = sum ws

-- what the first i weights get together: amount × their sum ÷ the sum of all, rounded down; `n / 0` is 0
abbrev pub upto : ℕ → List ℕ → ℕ → ℕ
upto amount ws i = amount * total (take i ws) / total ws

-- what the weight at i gets: what the first i + 1 get together less what the first i do
abbrev pub share_of : ℕ → List ℕ → ℕ → ℕ
share_of amount ws i = upto amount ws (i + 1) - upto amount ws i

-- what each weight gets, in their order
abbrev pub shares_of : ℕ → List ℕ → List ℕ
shares_of amount ws = map (share_of amount ws) (range_with_len 0 (length ws))

-- what is left of the weight at i once its share of an amount is taken from it
abbrev pub left_of : ℕ → List ℕ → ℕ → ℕ
left_of amount ws i = slice_index ws i - share_of amount ws i

-- what is left of each weight
abbrev pub lowered : ℕ → List ℕ → List ℕ
lowered amount ws = map (left_of amount ws) (range_with_len 0 (length ws))
