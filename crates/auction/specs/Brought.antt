-- The parts of what members bring, as the code holds it. Assumes nothing.
use Rattle.std.specs.Prelude.{ℕ, ◌≤◌, List, map, slice_index}
use Rattle.auction.specs.Roster.{most_amount}
use Rattle.auction.specs.Weights.{Weights}
use Rattle.auction.specs.declared.filling.Brought.{Brought}
use Rattle.auction.specs.declared.filling.Money.{Money}
use Rattle.auction.specs.declared.filling.Money.TheVariants.{Fund, Assessment}
use Rattle.auction.specs.declared.filling.Tier.{Tier}
use Rattle.auction.specs.declared.filling.Tier.TheVariants.{First, Second, Third}
use Rattle.auction.specs.declared.filling.Tiers.{Tiers}

-- what of an amount is in a tier
abbrev pub in_tier : Tier → Tiers → ℕ
in_tier First t = t.first.0
in_tier Second t = t.second.0
in_tier Third t = t.third.0

-- what of a member's money is in a tier
abbrev pub amount_in : Money → Tier → Brought → ℕ
amount_in Fund t b = in_tier t b.fund
amount_in Assessment t b = in_tier t b.assessment

-- the weights of the six pools, by what each member brings
abbrev pub weights_over : List Brought → Weights
weights_over bs = record {
  first = map (amount_in Fund First) bs;
  second = map (amount_in Fund Second) bs;
  third = map (amount_in Fund Third) bs;
  fifth = map (amount_in Assessment First) bs;
  sixth = map (amount_in Assessment Second) bs;
  seventh = map (amount_in Assessment Third) bs;
}

-- no member brings more to a pool than a fund or an assessment may be
abbrev pub WithinLimits : Weights → Type 0
WithinLimits ws = (k : ℕ) →
    (slice_index ws.first k ≤ most_amount) × (slice_index ws.second k ≤ most_amount) × (slice_index ws.third k ≤ most_amount) ×
    (slice_index ws.fifth k ≤ most_amount) × (slice_index ws.sixth k ≤ most_amount) × (slice_index ws.seventh k ≤ most_amount)
