use Rattle.std.proofs.Common.{ap, ◌∙◌, w64, rules, tests}
use Rattle.std.proofs.lemmas.Int.{to_z-of_z}
use Rattle.std.proofs.lemmas.Iterator.{YieldsList-from_slice, YieldsList-from_map}
use Rattle.lot.specs.Average.{worth_above, all_worth_above}
use Rattle.lot.proofs.Signed.{fits_along, sum_is}
use Rattle.lot.proofs.Worths.{worth-fits}
use Rattle.lot.proofs.bids.Bids.worth_above.Goals as goal

pub sum-requires-clause-fits : goal.sum-requires-clause-fits
sum-requires-clause-fits c =
    let bs = c.entries.result.now in
    let worth = worth_above c.args.whose c.args.price in
    fits_along {s = c.map.result} worth bs
    (YieldsList-from_map _ worth (YieldsList-from_slice bs cc) c.map.ensures.closure (λ x r q k. search (rules, tests)))
    (worth-fits c.args.whose c.args.price c.args.self.now bs c.entries.ensures)

pub returns : goal.returns
returns c =
    let bs = c.entries.result.now in
    let worth = worth_above c.args.whose c.args.price in
    to_z-of_z w64 _ (record { sfits = c.sum.type_inv })
    ∙ sum_is {s = c.map.result} worth bs
    (YieldsList-from_map _ worth (YieldsList-from_slice bs cc) c.map.ensures.closure (λ x r q k. search (rules, tests)))
    _ c.sum.ensures.ran
    ∙ ap (all_worth_above c.args.whose c.args.price) c.entries.ensures
