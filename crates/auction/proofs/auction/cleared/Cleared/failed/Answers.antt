use Rattle.std.proofs.Common.{◌≡◌, ap, ◌∙◌, rules}
use Rattle.std.proofs.iter.runs.Made.{chains}
use Rattle.auction.specs.Auctions.{listings_of}
use Rattle.auction.specs.Lots.{unsold}
use Rattle.auction.proofs.Tallies.{unsold-lots}
use Rattle.auction.proofs.auction.cleared.Cleared.failed.Goals as goal

pub returns : goal.returns
returns c =
    let counted : c.count.result ≡ unsold c.deref.result.now = search (rules, chains) in
    counted ∙ ap unsold (c.deref.ensures.0 ∙ c.args.self.now.priced) ∙ unsold-lots (listings_of c.args.self.now.auction.now)
