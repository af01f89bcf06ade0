use Rattle.std.proofs.Common.{◌≡◌, map, length, take}
use Rattle.lot.specs.Rungs.{rung}
use Rattle.lot.proofs.bids.Bids.rungs.Given as goal

abbrev pub invariant-loop-i : goal.invariant-loop-i
invariant-loop-i l = (length l.rung-items ≡ length l.bids) × (take l.i l.rung-items ≡ map (rung l.price) (take l.i l.bids))
