use Rattle.std.proofs.Common.{◌≡◌, sym, subst, rules}
use Rattle.lot.specs.Lots.{entries_of}
use Rattle.lot.specs.Price.{lot_price, PriceLaw}
use Rattle.lot.proofs.Prices.{price_law}
use Rattle.lot.proofs.bids.Bids.price.Goals as goal

pub returns-clause-law : goal.returns-clause-law
returns-clause-law c =
    let bs = entries_of c.args.self.now in
    let value : c.map.result ≡ lot_price bs = search rules in
    subst (PriceLaw bs) (sym value) (price_law bs)
