use Rattle.std.proofs.Common.{ap, ◌∙◌}
use Rattle.auction.specs.Auctions.{listings_of}
use Rattle.auction.specs.Earning.{some_silent}
use Rattle.auction.specs.Places.{places_of}
use Rattle.auction.proofs.Tallies.{silent-earned}
use Rattle.auction.proofs.auction.Auction.is_silent.Goals as goal

pub returns : goal.returns
returns c =
    c.is_silent.ensures
    ∙ ap some_silent (c.deref.ensures.0 ∙ c.earned-earned.ensures)
    ∙ silent-earned (places_of c.args.members.now) c.args.member (listings_of c.args.self.now)
