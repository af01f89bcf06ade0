use Rattle.std.proofs.Common.{map, set, sym, ap, ◌∙◌}
use Rattle.std.proofs.lemmas.List.{get_or-map, map-set}
use Rattle.auction.specs.Lots.{listing_of, unlisted, excusing}
use Rattle.auction.proofs.auction.bidding.excuse_from.Goals as goal

pub returns : goal.returns
returns c =
    let lots = c.args.lots.now in
    let i = c.args.i in
    let here = sym (get_or-map listing_of lots i c.index-lots-i.result unlisted c.requires) in
    map-set listing_of lots i _ ∙ ap (λ l. set (map listing_of lots) i l) (c.excuse.ensures ∙ ap (excusing c.args.member) here)
