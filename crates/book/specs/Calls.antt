-- The calls: the phase that each belongs to, and their answers by number. Assumes nothing.
use Rattle.std.specs.Prelude.{ℕ, Bool, ℤ, Ok, Err, Result, ◌==◌}
use Rattle.share.specs.declared.units.Dollars.{Dollars}
use Rattle.share.specs.declared.units.Parts.{Parts}
use Rattle.lot.specs.declared.bid.Bid.{Bid}
use Rattle.lot.specs.declared.bid.Kind.{Kind}
use Rattle.book.specs.declared.answers.Answer.{Answer}
use Rattle.book.specs.declared.answers.Answer.TheVariants.{Done}
use Rattle.book.specs.declared.calls.Call.{Call}
use Rattle.book.specs.declared.calls.Call.TheVariants as call
use Rattle.book.specs.declared.phase.Phase.{Phase}
use Rattle.book.specs.declared.phase.Phase.TheVariants.{Resting, Bidding, Charging}

-- so many dollars, and so many parts
abbrev pub dollars : ℕ → Dollars
dollars n = record { 0 = n }

abbrev pub parts : ℕ → Parts
parts n = record { 0 = n }

-- the phase that a call belongs to
abbrev pub phase_of : Call → Phase
phase_of (call.Enrol m f a) = Resting
phase_of (call.TopUp m f a) = Resting
phase_of (call.Release m) = Resting
phase_of (call.Open o) = Resting
phase_of (call.Excuse m l) = Bidding
phase_of (call.Bid m l k n p) = Bidding
phase_of call.Close = Bidding
phase_of (call.Charge n) = Charging
phase_of (call.Recover n) = Charging
phase_of call.Conclude = Charging

-- a phase's place in their order
abbrev pub rank : Phase → ℕ
rank Resting = 0
rank Bidding = 1
rank Charging = 2

-- whether two phases are the same
abbrev pub same_phase : Phase → Phase → Bool
same_phase p q = rank p == rank q

-- the bid that a call hands over
abbrev pub bid_of : ℕ → Kind → ℕ → ℤ → Bid
bid_of m k n p = record { member = m; kind = k; size = parts n; price = record { 0 = p } }

-- what a call answers, made into an answer
abbrev pub said : {T : Type 0} → (T → Answer) → Result T ℕ → Result Answer ℕ
said f (Ok x) = Ok (f x)
said f (Err n) = Err n

-- the answer of a call that has nothing more to say
abbrev pub done : Unit {0} → Answer
done x = Done
