use Rattle.std.proofs.Common.{◌≡◌, ◌≤◌, ◌+◌, [], ◌∷◌, ◌++◌, length, length-append, sym, ap, ◌∙◌, arith, rules}
use Rattle.std.proofs.lemmas.Result.{err_from_is_err_and}
use Rattle.arrayvec.specs.ArrayVec.{ArrayVec}
use Rattle.auction.specs.declared.terms.Terms.{Terms}
use Rattle.command.proofs.Filling.{Follows, fills-fault, fills-on, full, pushed}
use Rattle.command.proofs.opening.first_four.Goals as goal
use Rattle.command.proofs.opening.first_four.Goals.{then-not-is_full, else-not-is_full}

pub returns-in_err-lot : goal.returns-in_err-lot
returns-in_err-lot c =
    let p = err_from_is_err_and c.from_residual.result c.from_residual.ensures.1 in
    let stop = fills-fault c.args.lots c.loop.counter c.loop.held.items c.loop.rest.now c.in_err-lot.field-0.0 c.loop-test.true c.in_err-lot.ensures in
    rw (p.1, p.2) (sym stop ∙ c.loop.invariant.1)

pub loop-preserved : goal.loop-preserved
loop-preserved c =
    let held = c.loop.held.items in
    let lot = c.in_ok-lot.lot in
    let next : (length c.if-not-is_full.held.items ≤ 4) × Follows held lot c.if-not-is_full.held.items = elim c.if-not-is_full.branch [
      | then-not-is_full w ↦
          let is : c.if-not-is_full.held.items ≡ held ++ lot ∷ [] = ap (λ (v : ArrayVec Terms). v.items) w.held-is ∙ w.push.ensures.items in
          let room : length held + 1 ≤ 4 = grind (arith, rules) in
          rw is (omega (arith, length-append held (lot ∷ []), room), pushed held lot)
      | else-not-is_full w ↦
          let is : c.if-not-is_full.held.items ≡ held = ap (λ (v : ArrayVec Terms). v.items) w.held-is in
          let four : length held ≡ 4 = grind (arith, rules) in
          rw is (c.loop.invariant.0, full held lot (omega (arith, four)))
    ] in
    let on = fills-on c.args.lots c.loop.counter held c.if-not-is_full.held.items c.loop.rest.now c.in_ok-lot.behind.now lot c.loop-test.true c.in_ok-lot.ensures.0 c.in_ok-lot.ensures.1 next.1 in
    (next.0, sym on ∙ c.loop.invariant.1)
