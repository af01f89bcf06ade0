-- What the weights of a member keep to. Assumes nothing.
use Rattle.std.specs.Prelude.{◌≡◌, ℕ, ◌+◌, ◌<◌, ◌≤◌, true, false, cond, List, Some, Option}
use Rattle.share.specs.Rule.{total}
use Rattle.lot.specs.Price.{lot_price}
use Rattle.lot.specs.declared.bid.Price.{Price}
use Rattle.auction.specs.Classes.{senior_in, subordinate_in, unsold_in}
use Rattle.auction.specs.Counting.{silent}
use Rattle.auction.specs.Lots.{Listing}
use Rattle.auction.specs.Weights.{lot_weights, lot_amounts, over_lots, first_weight, second_weight, third_weight}
use Rattle.auction.specs.declared.member.Member.{Member}

-- a member's weights in the three seats of an amount, added up
abbrev pub all_weights : List (Option Member) → List Listing → ℕ → ℕ → ℕ
all_weights r ls m amount = first_weight r ls m amount + (second_weight r ls m amount + third_weight r ls m amount)

-- the lot amounts of an amount in the failed lots, added up
abbrev pub in_failed_lots : List Listing → ℕ → ℕ
in_failed_lots ls amount = over_lots unsold_in ls (lot_amounts ls amount)

-- what of a member's amount is in no seat: its lot amounts in failed lots, unless it is Non-bidding
abbrev pub in_no_seat : List (Option Member) → List Listing → ℕ → ℕ → ℕ
in_no_seat r ls m amount = cond (silent r m ls) 0 (in_failed_lots ls amount)

-- the laws of the weights
pub record WeightLaw : Type 0 where
  -- in a sold lot the senior and the subordinate part of a lot amount are all of it
  pub sold : (r : List (Option Member)) (m : ℕ) (l : Listing) (p : Price) (amount : ℕ) → lot_price l.bids ≡ Some p → senior_in r m l amount + subordinate_in r m l amount ≡ amount
  -- the lot amounts add up to the amount
  pub lots : (ls : List Listing) (amount : ℕ) → 0 < total (lot_weights ls) → total (lot_amounts ls amount) ≡ amount
  -- a Non-bidding member's weights add up to its whole amount
  pub non_bidding : (r : List (Option Member)) (ls : List Listing) (m amount : ℕ) → silent r m ls ≡ true → all_weights r ls m amount ≡ amount
  -- any other's to the amount less what is in failed lots
  pub bidding : (r : List (Option Member)) (ls : List Listing) (m amount : ℕ) → 0 < total (lot_weights ls) → silent r m ls ≡ false → all_weights r ls m amount + in_failed_lots ls amount ≡ amount
  -- never to more than the amount
  pub at_most : (r : List (Option Member)) (ls : List Listing) (m amount : ℕ) → all_weights r ls m amount ≤ amount
