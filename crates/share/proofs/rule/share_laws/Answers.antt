use Rattle.share.proofs.Shares as shares
use Rattle.share.proofs.rule.share_laws.Goals as goal

pub returns : goal.returns
returns c = shares.share-law
