use Rattle.std.proofs.Common.{◌≡◌, length, take}
use Rattle.lot.specs.Allotments.{numbers}
use Rattle.lot.proofs.Filled.{filled}
use Rattle.lot.proofs.bids.Bids.down_to.Given as goal

abbrev pub invariant-loop-i : goal.invariant-loop-i
invariant-loop-i l = (length l.parts ≡ 64) × (numbers (take l.i l.parts) ≡ take l.i (filled l.rest l.rungs))
