use Rattle.std.proofs.Common.{refl}
use Rattle.auction.proofs.Funds.{funded-none}
use Rattle.auction.proofs.roster.Roster.new.Goals as goal

pub invariant_of-result : goal.invariant_of-result
invariant_of-result c = record { whole = refl; funded = funded-none 32 }
