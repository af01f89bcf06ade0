-- Lots of an auction: what one is opened with, and what becomes of it. Assumes nothing.
use Rattle.std.specs.Prelude.{ℕ, ◌-◌, Bool, true, false, not, List, [], ◌∷◌, ◌++◌, length, replicate, is_some, Ok, Err, count_by, Option, Result, ◌==◌, slice_index_or, slice_set}
use Rattle.share.specs.Refusals.{in_range, if_so}
use Rattle.share.specs.declared.refusal.Refusal.TheVariants.{OutOfRange, ExcusedByCall}
use Rattle.lot.specs.Lots.{entries_of}
use Rattle.lot.specs.Entering.{refusal}
use Rattle.lot.specs.Price.{lot_price}
use Rattle.lot.specs.Ranges.{pri_of}
use Rattle.lot.specs.declared.bid.Bid.{Bid}
use Rattle.lot.specs.declared.bid.Price.{Price}
use Rattle.auction.specs.Roster.{most_members}
use Rattle.auction.specs.declared.lots.Lot.{Lot}
use Rattle.auction.specs.declared.terms.Terms.{Terms}

-- a lot as the rules see it: its terms, for each member number whether a call excused it, and its bids in entry order
pub record Listing : Type 0 where
  pub terms : Terms
  pub excused : List Bool
  pub bids : List Bid

-- the listing of a lot
abbrev pub listing_of : Lot → Listing
listing_of l = record { terms = record { weight = l.weight; requirement = l.requirement; pri = pri_of l.pri }; excused = l.excused; bids = entries_of l.bids }

-- a lot that was made, if it was, by its listing
abbrev pub as_listed : {E : Type 0} → Result Lot E → Result Listing E
as_listed (Ok l) = Ok (listing_of l)
as_listed (Err e) = Err e

-- a lot's weight
abbrev pub weight_in : Lot → ℕ
weight_in l = l.weight

-- a lot as it is opened: nobody is excused, and no bid is there
abbrev pub opened : Terms → Listing
opened t = record { terms = t; excused = replicate most_members false; bids = [] }

-- where there is no lot
abbrev pub unlisted : Listing
unlisted = opened (record { weight = 0; requirement = 0; pri = 0 })

-- the lot of a number, counted from 1
abbrev pub lot_at : List Listing → ℕ → Listing
lot_at ls l = slice_index_or ls (l - 1) unlisted

-- whether a lot number is outside those of the auction
abbrev pub no_lot : List Listing → ℕ → Bool
no_lot ls l = not (in_range l (length ls))

-- a lot's price
abbrev pub price_in : Listing → Option Price
price_in l = lot_price l.bids

-- whether a lot fails: it has no price
abbrev pub fails : Listing → Bool
fails l = not (is_some (price_in l))

-- how many lots fail
abbrev pub failed : List Listing → ℕ
failed ls = count_by fails ls

-- whether all of them do
abbrev pub all_fail : List Listing → Bool
all_fail ls = failed ls == length ls

-- how many prices are none
abbrev pub unsold : List (Option Price) → ℕ
unsold ps = count_by (λ p. not (is_some p)) ps

-- whether a call excused a member from a lot
abbrev pub excused_by_call : Listing → ℕ → Bool
excused_by_call l m = slice_index_or l.excused (m - 1) false

-- the tests of a bid that comes to a lot: whether the lot would take it, then whether a call excused its member
abbrev pub bid_tests : Listing → Bid → List ℕ
bid_tests l b = refusal l.bids b ∷ if_so (excused_by_call l b.member) ExcusedByCall ∷ []

-- the tests of a bid for the lot of a number: first, whether there is such a lot
abbrev pub lot_tests : List Listing → ℕ → Bid → List ℕ
lot_tests ls l b = if_so (no_lot ls l) OutOfRange ∷ bid_tests (lot_at ls l) b

-- a lot with other flags
abbrev pub flagged : List Bool → Listing → Listing
flagged flags l = record { terms = l.terms; excused = flags; bids = l.bids }

-- a lot from which a member is excused; its bids remain
abbrev pub excusing : ℕ → Listing → Listing
excusing m l = flagged (slice_set l.excused (m - 1) true) l

-- a lot in which a bid is entered
abbrev pub entering : Bid → Listing → Listing
entering b l = record { terms = l.terms; excused = l.excused; bids = l.bids ++ b ∷ [] }

-- the lots with another one at a number
abbrev pub with_lot : (Listing → Listing) → ℕ → List Listing → List Listing
with_lot f l ls = slice_set ls (l - 1) (f (lot_at ls l))
