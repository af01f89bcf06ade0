use Rattle.std.proofs.Common.{◌<◌, length, get_or, take, sym, ap, ◌∙◌, rules}
use Rattle.std.proofs.lemmas.List.{length-set}
use Rattle.std.proofs.lemmas.List.Folds.{list_any_at}
use Rattle.std.proofs.lemmas.Result.{err_from_is_err_and}
use Rattle.share.specs.Refusals.{number}
use Rattle.auction.specs.Lots.{listing_of, opened}
use Rattle.auction.specs.Offers.{bad_lot, some_bad, bad_offer}
use Rattle.auction.proofs.Opening.{opened-more, good_more, made-good, unmade, bad-refused}
use Rattle.auction.proofs.auction.Auction.open.Goals as goal

pub returns-in_err-lots : goal.returns-in_err-lots
returns-in_err-lots c =
    let o = c.args.offer.now in
    let ts = take c.from-count.result o.terms in
    let i = c.loop-i.i in
    let p = err_from_is_err_and c.from_residual.result c.from_residual.ensures.1 in
    rw (p.1, p.2) (unmade (bad_lot (get_or ts i _)) (bad_offer o) (number c.in_err-lots.field-0.0) (opened (get_or ts i _)) _
    (λ bad. bad-refused o (ap (λ n. some_bad (take n o.terms)) (sym c.from-count.ensures) ∙ list_any_at bad_lot ts i _ c.loop-i-test.true bad)) c.in_err-lots.ensures)

pub loop-i-preserved : goal.loop-i-preserved
loop-i-preserved c =
    let o = c.args.offer.now in
    let ts = take c.from-count.result o.terms in
    let i = c.loop-i.i in
    let lot = c.in_ok-lots.field-0 in
    let inside : i < length c.loop-i.lots = search rules in
    let made = made-good (bad_lot (get_or ts i _)) (listing_of lot) (opened (get_or ts i _)) c.in_ok-lots.ensures in
    record {
      four = length-set c.loop-i.lots i lot ∙ c.loop-i.invariant.four;
      same = opened-more c.loop-i.lots ts i lot _ inside c.loop-i-test.true made.1 c.loop-i.invariant.same;
      good = good_more ts i _ c.loop-i-test.true c.loop-i.invariant.good made.0;
    }
