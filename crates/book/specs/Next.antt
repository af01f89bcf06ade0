-- The ten calls on a book: the answer, and the book afterwards. Assumes nothing.
use Rattle.std.specs.Prelude.{ℕ, ◌+◌, ◌-◌, min, cond, List, [], ◌∷◌, map, length, None, Option, Result}
use Rattle.share.specs.Refusals.{unless, left_by}
use Rattle.share.specs.Rule.{total}
use Rattle.auction.specs.Enrolling.{member_with, put, topped_up}
use Rattle.auction.specs.Lots.{Listing, lot_at, failed, all_fail, opened, excusing, entering, with_lot}
use Rattle.auction.specs.Offers.{terms_of}
use Rattle.auction.specs.Roster.{place, fund_of, assessment_of}
use Rattle.auction.specs.Weights.{fill}
use Rattle.auction.specs.declared.member.Member.{Member}
use Rattle.book.specs.Calls.{dollars, bid_of}
use Rattle.book.specs.Refusals.{declined}
use Rattle.book.specs.Standing.{at_loss, weights_in, capacities, standings, lowered_roster}
use Rattle.book.specs.State.{State, still}
use Rattle.book.specs.declared.answers.Answer.{Answer}
use Rattle.book.specs.declared.answers.Answer.TheVariants.{Done, Entry, Released, Closed, Covered, Returned, Concluded}
use Rattle.book.specs.declared.calls.Call.{Call}
use Rattle.book.specs.declared.calls.Call.TheVariants as call
use Rattle.book.specs.declared.phase.Phase.{Phase}
use Rattle.book.specs.declared.phase.Phase.TheVariants.{Resting, Bidding}

-- what stands in all seats
abbrev pub all_standing : State → ℕ
all_standing b = total (standings b)

-- what a charge of n covers: the lesser of it and what all seats have free
abbrev pub covers : State → ℕ → ℕ
covers b n = min n (total (capacities b) - all_standing b)

-- what a recovery of n returns: the lesser of it and the net loss
abbrev pub gives_back : State → ℕ → ℕ
gives_back b n = min n b.loss

-- the book with other members
abbrev pub with_roster : State → List (Option Member) → State
with_roster b r = record { phase = b.phase; roster = r; lots = b.lots; stakes = b.stakes; capacity = b.capacity; standing = b.standing; loss = b.loss }

-- the book in another phase with other lots
abbrev pub with_lots : State → Phase → List Listing → State
with_lots b p ls = record { phase = p; roster = b.roster; lots = ls; stakes = b.stakes; capacity = b.capacity; standing = b.standing; loss = b.loss }

-- the Charging book that a close begins: the pools are filled, and the net loss is 0
abbrev pub filled : State → State
filled b = at_loss b.roster b.lots (fill b.roster b.lots) b.capacity 0

-- the same pools and house at another net loss
abbrev pub moved_to : State → ℕ → State
moved_to b n = at_loss b.roster b.lots (weights_in b.stakes) b.capacity n

-- the book after a call that is accepted; what stands in all seats is the net loss that a charge adds to
abbrev pub after : State → Call → State
after b (call.Enrol m f a) = with_roster b (put b.roster m (member_with f.0 a.0))
after b (call.TopUp m f a) = with_roster b (put b.roster m (topped_up (place b.roster m) f.0 a.0))
after b (call.Release m) = with_roster b (put b.roster m None)
after b (call.Open o) = with_lots b Bidding (map opened (terms_of o))
after b (call.Excuse m l) = with_lots b Bidding (with_lot (excusing m) l b.lots)
after b (call.Bid m l k n p) = with_lots b Bidding (with_lot (entering (bid_of m k n p)) l b.lots)
after b call.Close = cond (all_fail b.lots) (with_lots b Resting []) (filled b)
after b (call.Charge n) = moved_to b (all_standing b + covers b n.0)
after b (call.Recover n) = moved_to b (b.loss - gives_back b n.0)
after b call.Conclude = still Resting (lowered_roster b) [] (b.capacity - b.standing)

-- what a call that is accepted answers
abbrev pub reply : State → Call → Answer
reply b (call.Enrol m f a) = Done
reply b (call.TopUp m f a) = Done
reply b (call.Release m) = Released (record { fund = dollars (fund_of (place b.roster m)); assessment = dollars (assessment_of (place b.roster m)) })
reply b (call.Open o) = Done
reply b (call.Excuse m l) = Done
reply b (call.Bid m l k n p) = Entry (length (lot_at b.lots l).bids + 1)
reply b call.Close = Closed (record { failed = failed b.lots; capacity = dollars (cond (all_fail b.lots) 0 (total (capacities (filled b)))) })
reply b (call.Charge n) = Covered (record { covered = dollars (covers b n.0); uncovered = dollars (n.0 - covers b n.0) })
reply b (call.Recover n) = Returned (record { returned = dollars (gives_back b n.0); surplus = dollars (n.0 - gives_back b n.0) })
reply b call.Conclude = Concluded (dollars b.loss)

-- what a call on a book answers, a refusal by its number
abbrev pub answer : State → Call → Result Answer ℕ
answer b k = unless (declined b k) (reply b k)

-- the book after a call; a declined call leaves it as it was
abbrev pub next : State → Call → State
next b k = left_by (declined b k) b (after b k)

-- the book after a list of calls, and what they answer
abbrev pub run : State → List Call → State
run b [] = b
run b (k ∷ ks) = run (next b k) ks

abbrev pub answers : State → List Call → List (Result Answer ℕ)
answers b [] = []
answers b (k ∷ ks) = answer b k ∷ answers (next b k) ks
