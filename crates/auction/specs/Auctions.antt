-- The lots of an auction of the code. Assumes nothing.
use Rattle.std.specs.Prelude.{List, map, take, Some, None, Ok, Err, Option, Result}
use Rattle.std.specs.Borrow.{Bor}
use Rattle.auction.specs.Lots.{Listing, listing_of, unlisted}
use Rattle.auction.specs.declared.auction.Auction.{Auction}
use Rattle.auction.specs.declared.lots.Lot.{Lot}

-- its lots in lot order
abbrev pub listings_of : Auction → List Listing
listings_of a = map listing_of (take a.count a.lots)

-- an auction that was made, if it was, by its lots
abbrev pub as_listings : {E : Type 0} → Result Auction E → Result (List Listing) E
as_listings (Ok a) = Ok (listings_of a)
as_listings (Err e) = Err e

-- a lot that is there, or a lot without bids where there is none
abbrev pub listed : Option (Bor Lot) → Listing
listed None = unlisted
listed (Some l) = listing_of l.now
