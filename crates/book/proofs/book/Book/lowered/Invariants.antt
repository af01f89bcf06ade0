use Rattle.std.proofs.Common.{◌≡◌, ◌-◌, take, drop}
use Rattle.auction.specs.Places.{places_of}
use Rattle.book.specs.Standing.{lowered_roster}
use Rattle.book.specs.State.{view}
use Rattle.book.proofs.book.Book.lowered.Given as goal

abbrev pub invariant-loop-member : goal.invariant-loop-member
invariant-loop-member g l =
    (take (l.member - 1) (places_of l.members) ≡ take (l.member - 1) (lowered_roster (view g.R.Resource l.self))) × (drop (l.member - 1) (places_of l.members) ≡ drop (l.member - 1) (places_of l.self.members))
