-- Worked figures about the definitions, by computation. Assumes nothing.
use Rattle.std.specs.Prelude.{◌≡◌, ℕ, List, [], ◌∷◌, pos, negsuc, Some, None}
use Rattle.share.specs.Rule.{shares_of}
use Rattle.lot.specs.Allocation.{allocations}
use Rattle.lot.specs.Average.{worth_down_to, best_price}
use Rattle.lot.specs.Class.{class_of, senior_part}
use Rattle.lot.specs.Entering.{refusal}
use Rattle.lot.specs.Price.{lot_price}
use Rattle.lot.specs.declared.bid.Bid.{Bid}
use Rattle.lot.specs.declared.bid.Kind.TheVariants.{Standard, AllOrNothing}
use Rattle.lot.specs.declared.bid.Price.{Price}
use Rattle.lot.specs.declared.bid.Whose.TheVariants.{One}
use Rattle.lot.specs.declared.class.Class.{Class}
use Rattle.lot.specs.declared.class.Class.TheVariants.{Senior, Split, Subordinate, Excused, NonBidding}

-- a price of so many dollars, and of so many dollars below 0, counted from −1
abbrev pub dollars : ℕ → Price
dollars n = record { 0 = pos n }

abbrev pub minus : ℕ → Price
minus n = record { 0 = negsuc n }

-- a Standard bid and an All or Nothing bid of member 1
abbrev pub std : ℕ → Price → Bid
std n p = record { member = 1; kind = Standard; size = record { 0 = n }; price = p }

abbrev pub aon : Price → Bid
aon p = record { member = 1; kind = AllOrNothing; size = record { 0 = 10000 }; price = p }

-- −12,000,000
abbrev pub low : Price
low = minus 11999999

-- ten Standard bids, two of them at the price that sells the lot
abbrev pub tying : List Bid
tying =
    std 2000 (dollars 100000) ∷ std 3000 (dollars 0) ∷ std 2500 (minus 9999999) ∷ std 3000 low ∷ std 3000 low ∷
    std 3000 (minus 12999999) ∷ std 3500 (minus 14999999) ∷ std 5000 (minus 15499999) ∷ std 4000 (minus 15999999) ∷ std 2000 (minus 16499999) ∷ []

-- nine bids, one of them All or Nothing, below two Standard bids that do not sell the lot
abbrev pub taken_whole : List Bid
taken_whole =
    std 2000 (dollars 100000) ∷ std 3000 (dollars 0) ∷ aon (minus 2999999) ∷ std 2500 (minus 9999999) ∷ std 4000 (minus 14999999) ∷
    std 5000 (minus 15499999) ∷ std 4000 (minus 15999999) ∷ std 2000 (minus 16499999) ∷ std 2000 (minus 214999999) ∷ []

-- one part at −10 and four at −11
abbrev pub small_bids : List Bid
small_bids = std 1 (minus 9) ∷ std 4 (minus 10) ∷ []

-- the class and the senior part of 10 with a PRI of 4,000,000 at the price −12,000,000
abbrev pub Earns : Price → Class → ℕ → Type 0
Earns bp class part = (class_of low 4000000 5000 (Some bp) ≡ class) × (senior_part low 4000000 5000 (Some bp) 10 ≡ part)

-- the figures
pub record Figures : Type 0 where
  pub four : shares_of 4 (2 ∷ 3 ∷ 2 ∷ []) ≡ 1 ∷ 1 ∷ 2 ∷ []
  pub three : shares_of 3 (2 ∷ 3 ∷ 2 ∷ []) ≡ 0 ∷ 2 ∷ 1 ∷ []
  pub thirds : shares_of 10000 (1 ∷ 1 ∷ 1 ∷ []) ≡ 3333 ∷ 3333 ∷ 3334 ∷ []
  pub rest_shared : (lot_price tying ≡ Some low) × (allocations tying ≡ 2000 ∷ 3000 ∷ 2500 ∷ 1250 ∷ 1250 ∷ 0 ∷ 0 ∷ 0 ∷ 0 ∷ 0 ∷ [])
  pub all_to_one : (lot_price taken_whole ≡ Some (minus 2999999)) × (allocations taken_whole ≡ 0 ∷ 0 ∷ 10000 ∷ 0 ∷ 0 ∷ 0 ∷ 0 ∷ 0 ∷ 0 ∷ [])
  pub too_few : lot_price (std 9999 (dollars 3) ∷ []) ≡ None
  pub enough : lot_price (std 9999 (dollars 3) ∷ std 1 (dollars 2) ∷ []) ≡ Some (dollars 2)
  pub equal_prices : allocations (std 10000 (dollars 3) ∷ aon (dollars 3) ∷ []) ≡ 0 ∷ 10000 ∷ []
  pub best_parts : worth_down_to (One 1) 3 small_bids (minus 10) ≡ negsuc 31
  pub rounded_down : best_price 1 3 small_bids ≡ Some (minus 10)
  pub no_requirement : best_price 1 0 (std 1 (dollars 5) ∷ []) ≡ Some (dollars 5)
  pub above_senior : Earns (minus 13999998) Senior 10
  pub at_senior : Earns (minus 13999999) Split 10
  pub between : Earns (minus 14999999) Split 7
  pub at_subordinate : Earns (minus 17999999) Split 0
  pub below_subordinate : Earns (minus 18000000) Subordinate 0
  pub excused : class_of low 4000000 0 None ≡ Excused
  pub non_bidding : class_of low 4000000 1 None ≡ NonBidding
  pub second_one : refusal (aon (dollars 3) ∷ []) (aon (dollars 4)) ≡ 8
