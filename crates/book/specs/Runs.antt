-- Histories: calls with their answers, the newest first, and the money that they moved. Assumes nothing.
use Rattle.std.specs.Prelude.{ℕ, ◌+◌, List, [], ◌∷◌, map, Ok, Err, Result}
use Rattle.share.specs.declared.refusal.Refusal.{Refusal}
use Rattle.book.specs.declared.answers.Answer.{Answer}
use Rattle.book.specs.declared.answers.Answer.TheVariants as ans
use Rattle.book.specs.declared.calls.Call.{Call}
use Rattle.book.specs.declared.calls.Call.TheVariants as call

-- a call with what it answered
pub record Entry : Type 0 where
  pub called : Call
  pub replied : Result Answer Refusal

-- a call noted with what it answered
abbrev pub noted : Call → Result Answer Refusal → Entry
noted k a = record { called = k; replied = a }

-- a history with more calls and their answers, the first of them first
abbrev pub added : List Entry → List Call → List (Result Answer Refusal) → List Entry
added h [] rs = h
added h (k ∷ ks) [] = h
added h (k ∷ ks) (a ∷ rs) = added (noted k a ∷ h) ks rs

-- the calls of a history, each with all the numbers that it handed over
abbrev pub calls : List Entry → List Call
calls h = map (λ e. e.called) h

-- an amount if an answer is no refusal
abbrev pub if_accepted : Result Answer Refusal → ℕ → ℕ
if_accepted (Err e) x = 0
if_accepted (Ok a) x = x

-- the amounts that a call hands in
abbrev pub handed_in : Call → ℕ
handed_in (call.Enrol m f a) = f.0 + a.0
handed_in (call.TopUp m f a) = f.0 + a.0
handed_in (call.Release m) = 0
handed_in (call.Open o) = 0
handed_in (call.Excuse m l) = 0
handed_in (call.Bid m l k n p) = 0
handed_in call.Close = 0
handed_in (call.Charge n) = 0
handed_in (call.Recover n) = 0
handed_in call.Conclude = 0

-- what a call paid in by its answer
abbrev pub paid_in_by : Call → Result Answer Refusal → ℕ
paid_in_by k a = if_accepted a (handed_in k)

-- what an answer paid out
abbrev pub paid_out_by : Result Answer Refusal → ℕ
paid_out_by (Err e) = 0
paid_out_by (Ok ans.Done) = 0
paid_out_by (Ok (ans.Entry e)) = 0
paid_out_by (Ok (ans.Released m)) = m.fund.0 + m.assessment.0
paid_out_by (Ok (ans.Closed c)) = 0
paid_out_by (Ok (ans.Covered c)) = 0
paid_out_by (Ok (ans.Returned r)) = 0
paid_out_by (Ok (ans.Concluded n)) = 0

-- what an answer covered
abbrev pub covered_by : Result Answer Refusal → ℕ
covered_by (Err e) = 0
covered_by (Ok ans.Done) = 0
covered_by (Ok (ans.Entry e)) = 0
covered_by (Ok (ans.Released m)) = 0
covered_by (Ok (ans.Closed c)) = 0
covered_by (Ok (ans.Covered c)) = c.covered.0
covered_by (Ok (ans.Returned r)) = 0
covered_by (Ok (ans.Concluded n)) = 0

-- what an answer returned
abbrev pub returned_by : Result Answer Refusal → ℕ
returned_by (Err e) = 0
returned_by (Ok ans.Done) = 0
returned_by (Ok (ans.Entry e)) = 0
returned_by (Ok (ans.Released m)) = 0
returned_by (Ok (ans.Closed c)) = 0
returned_by (Ok (ans.Covered c)) = 0
returned_by (Ok (ans.Returned r)) = r.returned.0
returned_by (Ok (ans.Concluded n)) = 0

-- 1 for the answer of an accepted conclude
abbrev pub concludes : Result Answer Refusal → ℕ
concludes (Err e) = 0
concludes (Ok ans.Done) = 0
concludes (Ok (ans.Entry e)) = 0
concludes (Ok (ans.Released m)) = 0
concludes (Ok (ans.Closed c)) = 0
concludes (Ok (ans.Covered c)) = 0
concludes (Ok (ans.Returned r)) = 0
concludes (Ok (ans.Concluded n)) = 1

-- a sum over a history
abbrev pub over : (Call → Result Answer Refusal → ℕ) → List Entry → ℕ
over f [] = 0
over f (e ∷ es) = f e.called e.replied + over f es

-- every amount of an accepted enrol or top up
abbrev pub paid_in : List Entry → ℕ
paid_in h = over paid_in_by h

-- what releases answered
abbrev pub paid_out : List Entry → ℕ
paid_out h = over (λ k a. paid_out_by a) h

-- what charges answered as covered
abbrev pub covered_in : List Entry → ℕ
covered_in h = over (λ k a. covered_by a) h

-- what recoveries answered as returned
abbrev pub returned_in : List Entry → ℕ
returned_in h = over (λ k a. returned_by a) h

-- how many concludes were accepted
abbrev pub concludes_in : List Entry → ℕ
concludes_in h = over (λ k a. concludes a) h
