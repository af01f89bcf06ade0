use Rattle.std.proofs.Common.{◌≡◌, map, take}
use Rattle.auction.specs.Earning.{earned_of}
use Rattle.auction.specs.Lots.{listing_of}
use Rattle.auction.specs.Places.{places_of}
use Rattle.auction.specs.declared.lots.Lot.{Lot}
use Rattle.auction.proofs.auction.Auction.earned.Given as goal

abbrev pub invariant-loop-lot : goal.invariant-loop-lot
invariant-loop-lot l = l.earned.items ≡ map (λ (lot : Lot). earned_of (places_of l.members) l.member (listing_of lot)) (take l.lot-index l.lot-items)
