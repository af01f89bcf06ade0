-- The weights of members in the six pools. Assumes nothing.
use Rattle.std.specs.Prelude.{ℕ, ◌+◌, cond, List, [], ◌∷◌, map, Option}
use Rattle.share.specs.Rule.{shares_of}
use Rattle.auction.specs.Classes.{senior_in, subordinate_in}
use Rattle.auction.specs.Counting.{silent}
use Rattle.auction.specs.Lots.{Listing}
use Rattle.auction.specs.Roster.{place, fund_of, assessment_of, numbers}
use Rattle.auction.specs.declared.member.Member.{Member}

-- the weights of the lots in lot order
abbrev pub lot_weights : List Listing → List ℕ
lot_weights ls = map (λ l. l.terms.weight) ls

-- the lot amounts of an amount: its shares over the lot weights
abbrev pub lot_amounts : List Listing → ℕ → List ℕ
lot_amounts ls amount = shares_of amount (lot_weights ls)

-- a part of each lot amount, added up over the lots
abbrev pub over_lots : (Listing → ℕ → ℕ) → List Listing → List ℕ → ℕ
over_lots part [] amounts = 0
over_lots part (l ∷ ls) [] = 0
over_lots part (l ∷ ls) (a ∷ amounts) = part l a + over_lots part ls amounts

-- a member's weight in the first seat of an amount: all of it where the member is Non-bidding
abbrev pub first_weight : List (Option Member) → List Listing → ℕ → ℕ → ℕ
first_weight r ls m amount = cond (silent r m ls) amount 0

-- in the second: the subordinate parts of the lot amounts of any other
abbrev pub second_weight : List (Option Member) → List Listing → ℕ → ℕ → ℕ
second_weight r ls m amount = cond (silent r m ls) 0 (over_lots (subordinate_in r m) ls (lot_amounts ls amount))

-- in the third: the senior parts
abbrev pub third_weight : List (Option Member) → List Listing → ℕ → ℕ → ℕ
third_weight r ls m amount = cond (silent r m ls) 0 (over_lots (senior_in r m) ls (lot_amounts ls amount))

-- the weights of a pool over all member numbers: an absent member's amount is 0
abbrev pub each_weight : (ℕ → ℕ → ℕ) → (Option Member → ℕ) → List (Option Member) → List ℕ
each_weight weight amount r = map (λ m. weight m (amount (place r m))) (numbers r)

-- the weights of the six pools, by seat
pub record Weights : Type 0 where
  pub first : List ℕ
  pub second : List ℕ
  pub third : List ℕ
  pub fifth : List ℕ
  pub sixth : List ℕ
  pub seventh : List ℕ

-- the weights that fill the pools: seats 1, 2 and 3 of the funds, seats 5, 6 and 7 of the assessments
abbrev pub fill : List (Option Member) → List Listing → Weights
fill r ls = record {
  first = each_weight (first_weight r ls) fund_of r;
  second = each_weight (second_weight r ls) fund_of r;
  third = each_weight (third_weight r ls) fund_of r;
  fifth = each_weight (first_weight r ls) assessment_of r;
  sixth = each_weight (second_weight r ls) assessment_of r;
  seventh = each_weight (third_weight r ls) assessment_of r;
}
