use Rattle.std.proofs.Common.{rules, tests, arith}
use Rattle.std.proofs.lemmas.Iterator.{YieldsList-from_slice, YieldsList-from_map}
use Rattle.std.proofs.lemmas.Iterator.Consumers.{fits_by_from_yields_list}
use Rattle.lot.specs.Bids.{asked}
use Rattle.lot.proofs.Taken.{all_asked-small}
use Rattle.lot.proofs.bids.Bids.asked.Goals as goal

pub sum-requires-clause-fits : goal.sum-requires-clause-fits
sum-requires-clause-fits c =
    let few = all_asked-small c.args.whose c.args.level c.args.self.now in
    fits_by_from_yields_list _ _ c.map.result _
    (YieldsList-from_map _ (asked c.args.whose c.args.level) (YieldsList-from_slice c.entries.result.now cc) c.map.ensures.closure (λ x r q k. search (rules, tests)))
    (rw c.entries.ensures (omega arith))
