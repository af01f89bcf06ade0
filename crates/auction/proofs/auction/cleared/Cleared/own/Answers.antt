use Rattle.std.proofs.Common.{◌≡◌, get_or, None, sym, ap, ◌∙◌, ap₂}
use Rattle.std.proofs.lemmas.List.{get_or-map}
use Rattle.auction.specs.Auctions.{listings_of}
use Rattle.auction.specs.Classes.{senior_at, subordinate_at}
use Rattle.auction.specs.Lots.{Listing, listing_of, price_in, unlisted}
use Rattle.auction.specs.Weights.{lot_amounts}
use Rattle.auction.proofs.Earnings.{own-amount}
use Rattle.auction.proofs.Listings.{inside-lots}
use Rattle.auction.proofs.auction.cleared.Cleared.own.Goals as goal

pub returns : goal.returns
returns c =
    let self = c.args.self.now in
    let lots = c.lots-lots.result.now in
    let same = c.lots-lots.ensures in
    let ls = listings_of self.auction.now in
    let i = c.args.i in
    let e = c.args.earned in
    let amount = c.args.amount.0 in
    let inside = inside-lots self.auction.now lots same i c.requires.within in
    let price : get_or c.deref.result.now i None ≡ price_in (get_or ls i unlisted) = ap (λ ps. get_or ps i None) (c.deref.ensures.0 ∙ self.priced) ∙ get_or-map price_in ls i unlisted None c.requires.within in
    let lot : listing_of c.index-lots-i.result ≡ get_or ls i unlisted = ap listing_of c.index-lots-i.is ∙ sym (get_or-map listing_of lots i c.index-lots-i.result unlisted inside) ∙ ap (λ xs. get_or xs i unlisted) same in
    let own : c.share-own.result ≡ get_or (lot_amounts ls amount) i 0 = c.share-own.ensures.value ∙ own-amount self.auction.now lots same amount i inside in
    let lots_price = price_in (get_or ls i unlisted) in
    let lots_amount = get_or (lot_amounts ls amount) i 0 in
    record {
      senior = c.tranches.ensures.senior ∙ ap₂ (λ p n. senior_at p (listing_of c.index-lots-i.result).terms.pri e.requirement.0 e.bp n) price own ∙ ap (λ (l : Listing). senior_at lots_price l.terms.pri e.requirement.0 e.bp lots_amount) lot;
      subordinate = c.tranches.ensures.subordinate ∙ ap₂ (λ p n. subordinate_at p (listing_of c.index-lots-i.result).terms.pri e.requirement.0 e.bp n) price own ∙ ap (λ (l : Listing). subordinate_at lots_price l.terms.pri e.requirement.0 e.bp lots_amount) lot;
    }
