-- How answers are printed. Assumes nothing.
use Rattle.std.specs.Prelude.{ℕ, List, ◌++◌, Some, Ok, Err, Option, Result, codes, decimal}
use Rattle.share.specs.Refusals.{shown}
use Rattle.share.specs.declared.refusal.Refusal.{Refusal}
use Rattle.book.specs.declared.answers.Answer.{Answer}
use Rattle.book.specs.declared.answers.Answer.TheVariants.{Done, Entry, Released, Closed, Covered, Returned, Concluded}
use Rattle.book.specs.declared.answers.Holding.{Holding}
use Rattle.book.specs.declared.answers.Seat.{Seat}
use Rattle.book.specs.declared.phase.Phase.{Phase}
use Rattle.book.specs.declared.phase.Phase.TheVariants.{Resting, Bidding, Charging}

-- an answer that is no refusal
abbrev pub answer_text : Answer → List ℕ
answer_text Done = codes "ok"
answer_text (Entry n) = codes "entry " ++ decimal n
answer_text (Released m) = codes "fund " ++ (decimal m.fund.0 ++ (codes " assessment " ++ decimal m.assessment.0))
answer_text (Closed c) = codes "failed " ++ (decimal c.failed ++ (codes " capacity " ++ decimal c.capacity.0))
answer_text (Covered c) = codes "covered " ++ (decimal c.covered.0 ++ (codes " uncovered " ++ decimal c.uncovered.0))
answer_text (Returned r) = codes "returned " ++ (decimal r.returned.0 ++ (codes " surplus " ++ decimal r.surplus.0))
answer_text (Concluded n) = codes "net-loss " ++ decimal n.0

-- an answer by its own text, or a refusal
abbrev pub reply_text : {A : Type 0} → (A → Option (List ℕ)) → Result A Refusal → Option (List ℕ)
reply_text text (Ok a) = text a
reply_text text (Err e) = Some (shown e)

-- what a member has and bears
abbrev pub holding_text : Holding → List ℕ
holding_text h =
    codes "fund " ++ (decimal h.fund.0 ++ (codes " assessment " ++ (decimal h.assessment.0
    ++ (codes " fund-borne " ++ (decimal h.fund_borne.0 ++ (codes " assessment-borne " ++ decimal h.assessment_borne.0))))))

-- a seat
abbrev pub seat_text : Seat → List ℕ
seat_text s = codes "capacity " ++ (decimal s.capacity.0 ++ (codes " standing " ++ decimal s.standing.0))

-- a phase
abbrev pub phase_text : Phase → List ℕ
phase_text Resting = codes "Resting"
phase_text Bidding = codes "Bidding"
phase_text Charging = codes "Charging"
