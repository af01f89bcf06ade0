use Rattle.std.proofs.Common.{◌≡◌, map, take}
use Rattle.auction.specs.Lots.{listing_of, price_in}
use Rattle.auction.specs.declared.lots.Lot.{Lot}
use Rattle.auction.proofs.auction.Auction.prices.Given as goal

abbrev pub invariant-loop-lot : goal.invariant-loop-lot
invariant-loop-lot l = l.prices.items ≡ map (λ (lot : Lot). price_in (listing_of lot)) (take l.lot-index l.lot-items)
