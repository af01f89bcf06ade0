use Rattle.std.proofs.Common.{map, get_or, take, set, refl, ap, ◌∙◌, arith}
use Rattle.auction.specs.Lots.{listing_of, unlisted, lot_at, excusing}
use Rattle.share.specs.Rule.{total}
use Rattle.auction.proofs.Listings.{lot-in, lots-set, same-weights, same_length}
use Rattle.auction.proofs.auction.Auction.excuse.Goals as goal

pub returns-then-i-self : goal.returns-then-i-self
returns-then-i-self c =
    let self = c.args.self.now in
    let i = c.index-i.result in
    let m = c.args.member in
    lots-set self.lots c.excuse_from.new.lots self.count i (excusing m (get_or (map listing_of self.lots) i unlisted)) c.excuse_from.ensures
    ∙ ap (λ l. set (map listing_of (take self.count self.lots)) i (excusing m l)) (lot-in self.lots self.count c.args.lot i c.index-i.ensures c.if-i-self.true)
    ∙ ap (λ k. set (map listing_of (take self.count self.lots)) k (excusing m (lot_at (map listing_of (take self.count self.lots)) c.args.lot))) c.index-i.ensures

pub invariant_of-self : goal.invariant_of-self
invariant_of-self c =
    let self = c.args.self.now in
    let i = c.index-i.result in
    let y = excusing c.args.member (get_or (map listing_of self.lots) i unlisted) in
    let same = ap total (same-weights self.lots c.excuse_from.new.lots self.count i y c.if-i-self.true c.excuse_from.ensures refl) in
    record {
      rooms = same_length self.lots c.excuse_from.new.lots i y c.excuse_from.ensures ∙ self.rooms;
      few = self.few;
      shared = omega (arith, same, self.shared);
    }
