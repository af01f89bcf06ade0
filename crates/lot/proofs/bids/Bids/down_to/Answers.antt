use Rattle.std.proofs.Common.{◌≡◌, ◌+◌, ◌-◌, ◌<◌, ◌≤◌, map, length, take, get_or, ap, ◌∙◌, subst, ap₂, arith}
use Rattle.std.proofs.lemmas.List.{length-set, take_all}
use Rattle.share.specs.Rule.{share_of}
use Rattle.lot.specs.Allotments.{numbers}
use Rattle.lot.specs.Lots.{entries_of}
use Rattle.lot.specs.declared.bids.rung.Rung.{Rung}
use Rattle.lot.proofs.Filled.{no_rung, filled, filled_more, filled_is, length-filled, rungs-light, rungs-small, length-rungs}
use Rattle.lot.proofs.bids.Bids.down_to.Goals as goal

pub share-own-requires-clause-summed : goal.share-own-requires-clause-summed
share-own-requires-clause-summed c =
    let light = rungs-light c.args.price c.args.self.now in
    rw c.rungs-rungs.ensures (omega arith)

pub overflow_add-parts : goal.overflow_add-parts
overflow_add-parts c =
    let rs = take c.args.self.now.count c.rungs-rungs.result in
    let small = rungs-small c.args.price c.args.self.now rs c.rungs-rungs.ensures c.loop-i.i c.loop-i-test.true in
    omega arith

pub loop-i-preserved : goal.loop-i-preserved
loop-i-preserved c =
    let lot = c.args.self.now in
    let rs = take lot.count c.rungs-rungs.result in
    let rest = c.saturating_sub-rest.result in
    let i = c.loop-i.i in
    let own : c.share-own.result ≡ share_of rest (map (λ (r : Rung). r.tied.0) rs) i =
    c.share-own.ensures.value ∙ ap (λ a. share_of a (map (λ (r : Rung). r.tied.0) rs) i) c.from.ensures in
    let long = length-rungs c.args.price lot rs c.rungs-rungs.ensures in
    let inside : i < length c.loop-i.parts = omega (arith, lot.few, c.loop-i-test.true) in (
      simp length-set c.loop-i.invariant.0,
      filled_more rest rs c.loop-i.parts i _ inside c.loop-i-test.true c.loop-i.invariant.1 (ap (λ n. (get_or rs i no_rung).above.0 + n) own),
    )

pub returns : goal.returns
returns c =
    let lot = c.args.self.now in
    let rs = take lot.count c.rungs-rungs.result in
    let rest = c.saturating_sub-rest.result in
    let long = length-rungs c.args.price lot rs c.rungs-rungs.ensures in
    let end : c.loop-i.i ≡ lot.count = omega arith in
    let short : length (filled rest rs) ≤ lot.count = rw (length-filled rest rs) (omega arith) in
    let rest-is = c.saturating_sub-rest.ensures ∙ ap (λ n. 10000 - n) c.asked.ensures in
    subst (λ n. numbers (take n c.loop-i.parts) ≡ take n (filled rest rs)) end c.loop-i.invariant.1
    ∙ take_all lot.count (filled rest rs) short
    ∙ ap₂ filled rest-is c.rungs-rungs.ensures
    ∙ filled_is c.args.price 10000 (entries_of lot)
