use Rattle.std.proofs.Common.{◌≡◌, map, ◌∙◌, ap₂}
use Rattle.auction.specs.Auctions.{listings_of}
use Rattle.auction.specs.Filling.{brought_of, rows_of}
use Rattle.auction.specs.Places.{places_of}
use Rattle.auction.specs.Roster.{numbers}
use Rattle.auction.proofs.Fillings.{weights-filled}
use Rattle.auction.proofs.auction.Auction.outcome.Goals as goal

pub returns-clause-weights : goal.returns-clause-weights
returns-clause-weights c =
    let r = places_of c.args.members.now in
    let ls = listings_of c.args.self.now in
    let rows : rows_of c.filling.result ≡ map (brought_of r ls) (numbers r) =
    c.filling.ensures ∙ ap₂ (λ members auction. map (brought_of (places_of members) (listings_of auction)) (numbers (places_of members))) c.new-cleared.ensures.members c.new-cleared.ensures.auction in
    weights-filled r ls (rows_of c.filling.result) rows
