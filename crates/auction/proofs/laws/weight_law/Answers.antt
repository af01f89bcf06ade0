use Rattle.auction.proofs.Parts as parts
use Rattle.auction.proofs.laws.weight_law.Goals as goal

pub returns : goal.returns
returns c = parts.weight-law
