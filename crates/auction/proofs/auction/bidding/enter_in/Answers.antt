use Rattle.std.proofs.Common.{map, set, sym, ap, ◌∙◌}
use Rattle.std.proofs.lemmas.List.{get_or-map, map-set}
use Rattle.share.specs.Refusals.{left_by, first_nonzero}
use Rattle.auction.specs.Lots.{listing_of, unlisted, bid_tests, entering}
use Rattle.auction.proofs.auction.bidding.enter_in.Goals as goal

pub returns-clause-after : goal.returns-clause-after
returns-clause-after c =
    let lots = c.args.lots.now in
    let i = c.args.i in
    let b = c.args.bid in
    let here = sym (get_or-map listing_of lots i c.index-lots-i.result unlisted c.requires) in
    map-set listing_of lots i _ ∙ ap (λ l. set (map listing_of lots) i l) (c.enter.ensures.after ∙ ap (λ l. left_by (first_nonzero (bid_tests l b)) l (entering b l)) here)
