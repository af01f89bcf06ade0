-- The bids that a lot holds. Assumes nothing.
use Rattle.std.specs.Prelude.{List, take}
use Rattle.lot.specs.declared.bid.Bid.{Bid}
use Rattle.lot.specs.declared.bids.Bids.{Bids}

-- the bids of a lot, in entry order
abbrev pub entries_of : Bids → List Bid
entries_of b = take b.count b.entries
