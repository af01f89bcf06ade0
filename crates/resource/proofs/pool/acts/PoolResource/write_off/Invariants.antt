use Rattle.std.proofs.Common.{◌≡◌, map, take, drop}
use Rattle.std.specs.List.{range_with_len}
use Rattle.share.specs.Rule.{left_of}
use Rattle.resource.specs.Payers.{weights_of}
use Rattle.resource.specs.Pools.{payers_of, standing_of}
use Rattle.resource.proofs.pool.acts.PoolResource.write_off.Given as goal

abbrev pub invariant-loop-place : goal.invariant-loop-place
invariant-loop-place l = record {
  lowered_so_far : take l.place (weights_of l.weight-items) ≡ map (left_of (standing_of l.fn.self) (payers_of l.fn.self)) (range_with_len 0 l.place);
  as_before : drop l.place (weights_of l.weight-items) ≡ drop l.place (payers_of l.fn.self);
}
