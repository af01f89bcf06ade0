-- What the share rule keeps to, over any amount and any weights. Assumes nothing.
use Rattle.std.specs.Prelude.{◌≡◌, ℕ, ◌+◌, ◌-◌, ◌*◌, ◌<◌, ◌≤◌, List, length, slice_index}
use Rattle.share.specs.Rule.{total, share_of, shares_of, lowered}

-- two numbers differ by less than a third
abbrev pub Within : ℕ → ℕ → ℕ → Type 0
Within x y c = (x < y + c) × (y < x + c)

-- the laws of the share rule
pub record ShareLaw : Type 0 where
  -- the shares add up to the amount, unless all the weights are 0
  pub adds_up : (amount : ℕ) (ws : List ℕ) → 0 < total ws → total (shares_of amount ws) ≡ amount
  -- a share is less than 1 from amount × weight ÷ the sum of the weights
  pub near : (amount : ℕ) (ws : List ℕ) (i : ℕ) → i < length ws → 0 < total ws → Within (share_of amount ws i * total ws) (amount * slice_index ws i) (total ws)
  -- a share is within its weight, where the amount is within the sum of the weights
  pub within : (amount : ℕ) (ws : List ℕ) (i : ℕ) → i < length ws → amount ≤ total ws → share_of amount ws i ≤ slice_index ws i
  -- every share is 0 where all the weights are
  pub none : (amount : ℕ) (ws : List ℕ) (i : ℕ) → total ws ≡ 0 → share_of amount ws i ≡ 0
  -- where the amount is within the sum of the weights, the shares add up to it, and what is left of the weights to the rest
  pub adds_up_within : (amount : ℕ) (ws : List ℕ) → amount ≤ total ws → total (shares_of amount ws) ≡ amount
  pub lowers : (amount : ℕ) (ws : List ℕ) → amount ≤ total ws → total (lowered amount ws) ≡ total ws - amount
