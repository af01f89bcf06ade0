use Rattle.std.proofs.Common.{◌<◌, ◌≤◌, map, length, refl, sym, ap, ◌∙◌, arith}
use Rattle.std.proofs.lemmas.List.{length-set, length-take-le, take_all}
use Rattle.lot.specs.Rungs.{rung}
use Rattle.lot.proofs.Arrays.{front}
use Rattle.lot.proofs.Filled.{rungs-more, length-entries}
use Rattle.lot.proofs.Taken.{entries-few}
use Rattle.lot.proofs.bids.Bids.rungs.Goals as goal

pub loop-i-init : goal.loop-i-init
loop-i-init c =
    let few : length c.entries-bids.result.now ≤ 64 = rw c.entries-bids.ensures (entries-few c.args.self.now) in
    (length-take-le _ _ few, refl)

pub loop-i-preserved : goal.loop-i-preserved
loop-i-preserved c =
    let room : c.loop-i.i < length c.loop-i.rung-items = omega (arith, c.loop-i-test.true, c.loop-i.auto.rung-items) in
    let inside : c.loop-i.i < length c.entries-bids.result.now = omega (arith, c.loop-i.invariant.0, room) in (
      simp length-set c.loop-i.invariant.0,
      rungs-more c.args.price c.entries-bids.result.now c.loop-i.rung-items c.loop-i.i _ room inside c.loop-i.invariant.1 (cc),
    )

pub returns : goal.returns
returns c =
    let lot = c.args.self.now in
    let bids = c.entries-bids.result.now in
    let items = c.loop-i.rung-items in
    let end : length items ≤ c.loop-i.i = omega (arith, c.loop-i-test.false, c.loop-i.auto.rung-items) in
    let long = c.loop-i.invariant.0 ∙ ap length c.entries-bids.ensures ∙ length-entries lot in
    front items _ lot.count long
    ∙ sym (take_all c.loop-i.i items end)
    ∙ c.loop-i.invariant.1
    ∙ ap (map (rung c.args.price)) (take_all c.loop-i.i bids (omega (arith, end, c.loop-i.invariant.0)) ∙ c.entries-bids.ensures)
