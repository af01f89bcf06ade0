use Rattle.std.proofs.Common.{◌≡◌, ℕ, List, take, sym, ap, ◌∙◌, subst}
use Rattle.share.specs.declared.units.Parts.{Parts}
use Rattle.lot.specs.Allocation.{allotted, allotted_by, allocations, AllocationLaw}
use Rattle.lot.specs.Allotments.{numbers}
use Rattle.lot.specs.Lots.{entries_of}
use Rattle.lot.proofs.Allotting.{allocation-law}
use Rattle.lot.proofs.Filled.{nothing-at}
use Rattle.lot.proofs.Taken.{entries-whole}
use Rattle.lot.proofs.bids.Bids.allocations.Goals as goal
use Rattle.lot.proofs.bids.Bids.allocations.Goals.{in-None, in-Some+in-Standard, in-Some+in-AllOrNothing}

pub returns : goal.returns
returns c =
    let lot = c.args.self.now in
    let bs = entries_of lot in
    let given : List Parts → List ℕ = λ ps. numbers (take lot.count ps) in
    let each : numbers (take lot.count c.match-clearing.parts) ≡ allocations bs = elim c.match-clearing.branch [
      | in-None w ↦ ap given w.parts-is ∙ nothing-at lot ∙ ap (λ k. allotted k bs) w.in-None.ensures.value
      | in-Some+in-Standard w ↦ ap given w.parts-is ∙ w.down_to.ensures ∙ ap (λ k. allotted_by k w.in-Some.cleared.price bs) (sym w.in-Standard.is) ∙ ap (λ k. allotted k bs) w.in-Some.ensures.value
      | in-Some+in-AllOrNothing w ↦ ap given w.parts-is ∙ w.first_takes.ensures ∙ ap (λ k. allotted_by k w.in-Some.cleared.price bs) (sym w.in-AllOrNothing.is) ∙ ap (λ k. allotted k bs) w.in-Some.ensures.value
    ] in
    let value = c.first.ensures ∙ each in
    record { value = value; law = subst (AllocationLaw bs) (sym value) (allocation-law bs (entries-whole lot)) }
