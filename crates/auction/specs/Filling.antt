-- What each member brings to the pools, as the code holds it. Assumes nothing.
use Rattle.std.specs.Prelude.{ℕ, List, map, Option}
use Rattle.share.specs.declared.units.Dollars.{Dollars}
use Rattle.auction.specs.Brought.{amount_in, weights_over}
use Rattle.auction.specs.Lots.{Listing}
use Rattle.auction.specs.Roster.{place, fund_of, assessment_of}
use Rattle.auction.specs.Weights.{Weights, first_weight, second_weight, third_weight}
use Rattle.auction.specs.declared.filling.Brought.{Brought}
use Rattle.auction.specs.declared.filling.Filling.{Filling}
use Rattle.auction.specs.declared.filling.Money.{Money}
use Rattle.auction.specs.declared.filling.Tier.{Tier}
use Rattle.auction.specs.declared.filling.Tiers.{Tiers}
use Rattle.auction.specs.declared.member.Member.{Member}

-- an amount of a member by the seats that it fills
abbrev pub tiers_of : List (Option Member) → List Listing → ℕ → ℕ → Tiers
tiers_of r ls m amount = record {
  first = record { 0 = first_weight r ls m amount };
  second = record { 0 = second_weight r ls m amount };
  third = record { 0 = third_weight r ls m amount };
}

-- what a member brings: its fund and its assessment
abbrev pub brought_of : List (Option Member) → List Listing → ℕ → Brought
brought_of r ls m = record { fund = tiers_of r ls m (fund_of (place r m)); assessment = tiers_of r ls m (assessment_of (place r m)) }

-- the rows of a filling
abbrev pub rows_of : Filling → List Brought
rows_of f = f.rows

-- what each member brings to one pool
abbrev pub column_of : Money → Tier → Filling → List ℕ
column_of m t f = map (amount_in m t) (rows_of f)

-- amounts as numbers
abbrev pub numbers_of : List Dollars → List ℕ
numbers_of ds = map (λ d. d.0) ds

-- the weights of the six pools
abbrev pub weights_by : Filling → Weights
weights_by f = weights_over (rows_of f)
