-- The class of a member in a lot of an auction, and the parts of a lot amount. Assumes nothing.
use Rattle.std.specs.Prelude.{ℕ, ◌-◌, cond, List, Some, None, Option}
use Rattle.lot.specs.Class.{class_of, senior_part}
use Rattle.lot.specs.Price.{lot_price}
use Rattle.lot.specs.declared.bid.Price.{Price}
use Rattle.lot.specs.declared.class.Class.{Class}
use Rattle.lot.specs.declared.class.Class.TheVariants.{NonBidding}
use Rattle.auction.specs.Counting.{bp_of, silent}
use Rattle.auction.specs.Lots.{Listing, lot_at}
use Rattle.auction.specs.Requirements.{requirement_of}
use Rattle.auction.specs.declared.member.Member.{Member}

-- the class where the lot has a price; none in a failed lot
abbrev pub class_at : Option Price → ℕ → ℕ → Option Price → Option Class
class_at None pri requirement bp = None
class_at (Some p) pri requirement bp = Some (class_of p pri requirement bp)

-- a member's class in a lot of a number: Non-bidding in every lot if by one; any other has none in a failed lot
abbrev pub class_in : List (Option Member) → List Listing → ℕ → ℕ → Option Class
class_in r ls m l =
    cond (silent r m ls) (Some NonBidding) (class_at (lot_price (lot_at ls l).bids) (lot_at ls l).terms.pri (requirement_of r (lot_at ls l) m) (bp_of r (lot_at ls l) m))

-- BP where the lot has a price, none where it failed
abbrev pub where_sold : Option Price → Option Price → Option Price
where_sold None bp = None
where_sold (Some p) bp = bp

-- a member's BP in a lot of a number, as it is told
abbrev pub average_in : List (Option Member) → List Listing → ℕ → ℕ → Option Price
average_in r ls m l = where_sold (lot_price (lot_at ls l).bids) (bp_of r (lot_at ls l) m)

-- the senior part of a lot amount at a price; nothing in a failed lot
abbrev pub senior_at : Option Price → ℕ → ℕ → Option Price → ℕ → ℕ
senior_at None pri requirement bp amount = 0
senior_at (Some p) pri requirement bp amount = senior_part p pri requirement bp amount

-- the subordinate part: the rest; nothing in a failed lot
abbrev pub subordinate_at : Option Price → ℕ → ℕ → Option Price → ℕ → ℕ
subordinate_at None pri requirement bp amount = 0
subordinate_at (Some p) pri requirement bp amount = amount - senior_part p pri requirement bp amount

-- what is in a failed lot: all of the lot amount; nothing in a sold one
abbrev pub unsold_at : Option Price → ℕ → ℕ
unsold_at None amount = amount
unsold_at (Some p) amount = 0

-- the three for a member in a lot
abbrev pub senior_in : List (Option Member) → ℕ → Listing → ℕ → ℕ
senior_in r m l amount = senior_at (lot_price l.bids) l.terms.pri (requirement_of r l m) (bp_of r l m) amount

abbrev pub subordinate_in : List (Option Member) → ℕ → Listing → ℕ → ℕ
subordinate_in r m l amount = subordinate_at (lot_price l.bids) l.terms.pri (requirement_of r l m) (bp_of r l m) amount

abbrev pub unsold_in : Listing → ℕ → ℕ
unsold_in l amount = unsold_at (lot_price l.bids) amount
