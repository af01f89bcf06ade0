use Rattle.std.proofs.Common.{◌+◌, map, length, get_or, take, set, sym, ap, ◌∙◌, arith}
use Rattle.share.specs.Refusals.{unless, left_by, first_nonzero}
use Rattle.share.specs.Rule.{total}
use Rattle.auction.specs.Lots.{listing_of, unlisted, lot_at, bid_tests, entering, with_lot}
use Rattle.auction.proofs.Listings.{length-first, lot-in, lots-set, somewhere, set-left, there, same-weights, same_length, same-terms}
use Rattle.auction.proofs.auction.Auction.enter.Goals as goal

pub returns : goal.returns
returns c =
    let self = c.args.self.now in
    let l = c.args.lot in
    let b = c.args.bid in
    let i = c.index-i.result in
    let ls = map listing_of (take self.count self.lots) in
    let many = length-first self.lots self.count (omega (arith, self.rooms, self.few)) in
    let same = sym (somewhere ls l b (there ls self.count l many c.if-lot-lt1.false (omega (arith, c.index-i.ensures, c.if-i-self.false)))) in
    let here = lot-in self.lots self.count l i c.index-i.ensures c.if-i-self.false in
    record {
      answer = c.enter_in.ensures.answer ∙ ap (λ x. unless (first_nonzero (bid_tests x b)) (length x.bids + 1)) here ∙ ap (λ n. unless n (length (lot_at ls l).bids + 1)) same;
      after = lots-set self.lots c.enter_in.new.lots self.count i _ c.enter_in.ensures.after
          ∙ ap (λ x. set ls i (left_by (first_nonzero (bid_tests x b)) x (entering b x))) here
          ∙ ap (λ k. set ls k (left_by (first_nonzero (bid_tests (lot_at ls l) b)) (lot_at ls l) (entering b (lot_at ls l)))) c.index-i.ensures
          ∙ set-left (first_nonzero (bid_tests (lot_at ls l) b)) ls l (entering b)
          ∙ ap (λ n. left_by n ls (with_lot (entering b) l ls)) same;
    }

pub invariant_of-self : goal.invariant_of-self
invariant_of-self c =
    let self = c.args.self.now in
    let i = c.index-i.result in
    let b = c.args.bid in
    let l = get_or (map listing_of self.lots) i unlisted in
    let n = first_nonzero (bid_tests l b) in
    let y = left_by n l (entering b l) in
    let same = ap total (same-weights self.lots c.enter_in.new.lots self.count i y c.if-i-self.false c.enter_in.ensures.after (same-terms n l b)) in
    record {
      rooms = same_length self.lots c.enter_in.new.lots i y c.enter_in.ensures.after ∙ self.rooms;
      few = self.few;
      shared = omega (arith, same, self.shared);
    }
