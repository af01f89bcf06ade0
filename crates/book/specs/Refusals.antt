-- When a call is declined: the tests in the order of their numbers. Assumes nothing.
use Rattle.std.specs.Prelude.{ℕ, not, ◌||◌, List, [], ◌∷◌, nat_lt}
use Rattle.share.specs.Refusals.{if_so, first_nonzero}
use Rattle.share.specs.declared.refusal.Refusal.TheVariants.{WrongPhase, OutOfRange, NotEnrolled, OutsideLimits, LotTerms}
use Rattle.auction.specs.Enrolling.{no_member, absent, enrol_tests, top_up_tests, member_tests}
use Rattle.auction.specs.Lots.{lot_at, no_lot, bid_tests}
use Rattle.auction.specs.Offers.{bad_offer}
use Rattle.book.specs.Calls.{phase_of, same_phase, bid_of}
use Rattle.book.specs.State.{State}
use Rattle.book.specs.declared.calls.Call.{Call}
use Rattle.book.specs.declared.calls.Call.TheVariants as call
use Rattle.book.specs.declared.phase.Phase.{Phase}

-- the most that a charge or a recovery may be
abbrev pub most_loss : ℕ
most_loss = 10000000000

-- whether a call or a question belongs to another phase
abbrev pub out_of_phase : State → Phase → ℕ
out_of_phase b p = if_so (not (same_phase b.phase p)) WrongPhase

-- the tests of a call or a question about a member and a lot: their numbers, then whether the member is not enrolled
abbrev pub member_lot_tests : State → ℕ → ℕ → List ℕ
member_lot_tests b m l = if_so (no_member m || no_lot b.lots l) OutOfRange ∷ if_so (absent b.roster m) NotEnrolled ∷ []

-- the test of an amount that is charged or recovered
abbrev pub loss_tests : ℕ → List ℕ
loss_tests n = if_so (nat_lt most_loss n) OutsideLimits ∷ []

-- the tests of a call after that of the phase, in the order of their numbers
abbrev pub tests : State → Call → List ℕ
tests b (call.Enrol m f a) = enrol_tests b.roster m f.0 a.0
tests b (call.TopUp m f a) = top_up_tests b.roster m f.0 a.0
tests b (call.Release m) = member_tests b.roster m
tests b (call.Open o) = if_so (bad_offer o) LotTerms ∷ []
tests b (call.Excuse m l) = member_lot_tests b m l
tests b (call.Bid m l k n p) =
    if_so (no_member m || no_lot b.lots l) OutOfRange ∷ if_so (absent b.roster m) NotEnrolled ∷ bid_tests (lot_at b.lots l) (bid_of m k n p)
tests b call.Close = []
tests b (call.Charge n) = loss_tests n.0
tests b (call.Recover n) = loss_tests n.0
tests b call.Conclude = []

-- why a call is declined, 0 where it is accepted: first, whether it belongs to another phase
abbrev pub declined : State → Call → ℕ
declined b k = first_nonzero (out_of_phase b (phase_of k) ∷ tests b k)
