-- What counts for a member in a lot, and who is Non-bidding. Assumes nothing.
use Rattle.std.specs.Prelude.{ℕ, Bool, false, not, ◌&&◌, ◌||◌, List, [], ◌∷◌, is_some, Option, ◌==◌}
use Rattle.lot.specs.Average.{best_price}
use Rattle.lot.specs.declared.bid.Price.{Price}
use Rattle.auction.specs.Lots.{Listing}
use Rattle.auction.specs.Requirements.{requirement_of}
use Rattle.auction.specs.declared.member.Member.{Member}

-- a member's BP in a lot, by its requirement there
abbrev pub bp_of : List (Option Member) → Listing → ℕ → Option Price
bp_of r l m = best_price m (requirement_of r l m) l.bids

-- whether a member is Non-bidding by one lot: nothing counts, and its requirement is not 0
abbrev pub silent_in : List (Option Member) → ℕ → Listing → Bool
silent_in r m l = not (is_some (bp_of r l m)) && not (requirement_of r l m == 0)

-- whether a member is Non-bidding: it is so in all lots where it is by one, failed or not
abbrev pub silent : List (Option Member) → ℕ → List Listing → Bool
silent r m [] = false
silent r m (l ∷ ls) = silent_in r m l || silent r m ls
