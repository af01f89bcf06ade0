use Rattle.auction.specs.Lots.{price_in}
use Rattle.auction.proofs.Tallies.{lot-all}
use Rattle.auction.proofs.auction.Auction.prices.Goals as goal

pub returns : goal.returns
returns c = lot-all price_in c.args.self.now c.lots-lot-items.result.now c.lots-lot-items.ensures c.loop-lot.prices.items c.loop-lot.lot-index c.loop-lot-test.false c.loop-lot.invariant
