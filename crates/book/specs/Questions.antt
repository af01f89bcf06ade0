-- The questions that a book answers, and when one is declined. They alter nothing. Assumes nothing.
use Rattle.std.specs.Prelude.{ℕ, ◌-◌, not, ◌||◌, [], ◌∷◌, length, Option, Result, slice_index}
use Rattle.share.specs.Refusals.{unless, if_so, first_nonzero, in_range}
use Rattle.share.specs.declared.refusal.Refusal.TheVariants.{WrongPhase, OutOfRange, NotEnrolled}
use Rattle.share.specs.declared.units.Dollars.{Dollars}
use Rattle.share.specs.declared.units.Parts.{Parts}
use Rattle.lot.specs.Allocation.{allocations}
use Rattle.lot.specs.Price.{lot_price}
use Rattle.lot.specs.declared.bid.Price.{Price}
use Rattle.lot.specs.declared.class.Class.{Class}
use Rattle.auction.specs.Classes.{class_in, average_in}
use Rattle.auction.specs.Enrolling.{no_member, absent, member_tests}
use Rattle.auction.specs.Lots.{lot_at, no_lot}
use Rattle.auction.specs.Requirements.{requirement_of}
use Rattle.auction.specs.Roster.{place, fund_of, assessment_of}
use Rattle.book.specs.Calls.{dollars, parts, same_phase}
use Rattle.book.specs.Refusals.{out_of_phase, member_lot_tests}
use Rattle.book.specs.Standing.{no_pool, capacity_in, standing_in, bears_in, fund_bears, assessment_bears}
use Rattle.book.specs.State.{State}
use Rattle.book.specs.declared.answers.Holding.{Holding}
use Rattle.book.specs.declared.answers.Seat.{Seat}
use Rattle.book.specs.declared.phase.Phase.TheVariants.{Resting, Charging}

-- a member's fund and assessment, before any lowering, and what each bears; in every phase
abbrev pub of_member : State → ℕ → Result Holding ℕ
of_member b m = unless (first_nonzero (member_tests b.roster m)) (record {
  fund = dollars (fund_of (place b.roster m));
  assessment = dollars (assessment_of (place b.roster m));
  fund_borne = dollars (fund_bears b m);
  assessment_borne = dollars (assessment_bears b m);
})

-- a member's requirement in a lot; outside Resting
abbrev pub of_requirement : State → ℕ → ℕ → Result Parts ℕ
of_requirement b m l =
    unless (first_nonzero (if_so (same_phase b.phase Resting) WrongPhase ∷ member_lot_tests b m l)) (parts (requirement_of b.roster (lot_at b.lots l) m))

-- a lot's price, none where it failed; in Charging
abbrev pub of_price : State → ℕ → Result (Option Price) ℕ
of_price b l = unless (first_nonzero (out_of_phase b Charging ∷ if_so (no_lot b.lots l) OutOfRange ∷ [])) (lot_price (lot_at b.lots l).bids)

-- what a bid gets of a lot, by its entry number; in Charging
abbrev pub of_allocation : State → ℕ → ℕ → Result Parts ℕ
of_allocation b l e =
    unless (first_nonzero (out_of_phase b Charging ∷ if_so (no_lot b.lots l || not (in_range e (length (lot_at b.lots l).bids))) OutOfRange ∷ []))
    (parts (slice_index (allocations (lot_at b.lots l).bids) (e - 1)))

-- a member's BP in a lot, none where it has none or the lot failed; in Charging
abbrev pub of_average : State → ℕ → ℕ → Result (Option Price) ℕ
of_average b m l = unless (first_nonzero (out_of_phase b Charging ∷ member_lot_tests b m l)) (average_in b.roster b.lots m l)

-- a member's class in a lot; in Charging
abbrev pub of_class : State → ℕ → ℕ → Result (Option Class) ℕ
of_class b m l = unless (first_nonzero (out_of_phase b Charging ∷ member_lot_tests b m l)) (class_in b.roster b.lots m l)

-- a seat's capacity and standing; in Charging
abbrev pub of_seat : State → ℕ → Result Seat ℕ
of_seat b s =
    unless (first_nonzero (out_of_phase b Charging ∷ if_so (not (in_range s 7)) OutOfRange ∷ [])) (record { capacity = dollars (capacity_in b s); standing = dollars (standing_in b s) })

-- what a member bears in the pool of a seat, which is not the fourth; in Charging
abbrev pub of_bears : State → ℕ → ℕ → Result Dollars ℕ
of_bears b m s =
    unless (first_nonzero (out_of_phase b Charging ∷ if_so (no_member m || no_pool s) OutOfRange ∷ if_so (absent b.roster m) NotEnrolled ∷ [])) (dollars (bears_in b s m))
