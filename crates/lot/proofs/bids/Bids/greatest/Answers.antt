use Rattle.std.proofs.Common.{ap, ◌∙◌, rules, tests}
use Rattle.std.proofs.lemmas.Iterator.{YieldsList-from_slice, YieldsList-from_map}
use Rattle.std.proofs.lemmas.Iterator.Consumers.{reduce_from_yields_List, YieldsList-at, YieldsList-from_filter}
use Rattle.lot.specs.Price.{greatest}
use Rattle.lot.proofs.Greatest.{greatest-is}
use Rattle.lot.proofs.bids.Bids.greatest.Goals as goal

pub returns : goal.returns
returns g c = λ passes says.
    let bs = c.entries.result.now in
    reduce_from_yields_List _ c.map.result _ c.max.ensures.ran
    (YieldsList-from_map _ (λ b. b.price) (YieldsList-at c.map.ensures.source (YieldsList-from_filter _ passes (YieldsList-from_slice bs cc) c.filter.ensures.closure (λ x r q k. let told = says x.now r in search (rules, tests)))) c.map.ensures.closure (λ x r q k. search (rules, tests)))
    ∙ greatest-is passes bs
    ∙ ap (greatest passes) c.entries.ensures
