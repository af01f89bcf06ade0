-- Bids by their places on the ladder of prices. Assumes nothing.
use Rattle.lot.specs.Allocation.{above, tied}
use Rattle.lot.specs.declared.bid.Bid.{Bid}
use Rattle.lot.specs.declared.bid.Price.{Price}
use Rattle.lot.specs.declared.bid.Whose.TheVariants.{Everyone}
use Rattle.lot.specs.declared.bids.rung.Rung.{Rung}

-- what a Standard bid has above a price and what it has at it
abbrev pub rung : Price → Bid → Rung
rung p b = record { above = record { 0 = above Everyone p b }; tied = record { 0 = tied Everyone p b } }
