use Rattle.std.proofs.Common.{drop, sym, ap, subst, arith}
use Rattle.std.proofs.lemmas.List.{length-append, length-drop}
use Rattle.share.specs.Rule.{total}
use Rattle.share.proofs.Shares.{within-weight, lowers}
use Rattle.resource.specs.Payers.{Light}
use Rattle.resource.specs.Pools.{payers_of, standing_of}
use Rattle.resource.specs.Totals.{pool-covered}
use Rattle.resource.proofs.Weights.{length-taken, length-payers, weight-ahead, weights-behind, lowered-more, lowered-all, lowered-light}
use Rattle.resource.proofs.pool.acts.PoolResource.write_off.Goals as goal

pub overflow_sub-weight : goal.overflow_sub-weight
overflow_sub-weight c =
    let p = c.args.self.now in
    let read = weight-ahead c.loop-place.weight-items (payers_of p) c.loop-place.place (omega arith) c.loop-place.invariant.as_before in
    omega (arith, within-weight (standing_of p) (payers_of p) c.loop-place.place (omega (arith, length-taken p, length-payers p)) (pool-covered p))

pub loop-place-preserved : goal.loop-place-preserved
loop-place-preserved c =
    let p = c.args.self.now in
    let i = c.loop-place.place in
    let read = weight-ahead c.loop-place.weight-items (payers_of p) i (omega arith) c.loop-place.invariant.as_before in
    record {
      lowered_so_far = lowered-more c.loop-place.weight-items _ _ i (omega arith) (omega (arith, c.borne_at.ensures)) c.loop-place.invariant.lowered_so_far;
      as_before = weights-behind c.loop-place.weight-items (payers_of p) i _ c.loop-place.invariant.as_before;
    }

pub invariant_of-self : goal.invariant_of-self
invariant_of-self c =
    let p = c.args.self.now in
    let long = length-taken p in
    let each = lowered-all p c.loop-place.weight-items (drop p.count p.weights) c.loop-place.place (omega arith) (omega arith) c.loop-place.invariant.lowered_so_far in
    record {
      some = p.some;
      few = p.few;
      whole = simp (length-append, length-drop) (omega (arith, p.few, p.whole));
      light = subst Light (sym each) (lowered-light (standing_of p) (payers_of p) p.light);
      summed = omega (arith, p.summed, ap total each, lowers (standing_of p) (payers_of p) (pool-covered p));
      covered = omega arith;
    }

pub returns-clause-each : goal.returns-clause-each
returns-clause-each c =
    let p = c.args.self.now in
    let long = length-taken p in
    lowered-all p c.loop-place.weight-items (drop p.count p.weights) c.loop-place.place (omega arith) (omega arith) c.loop-place.invariant.lowered_so_far
