-- The refusals by number and in words, and tests in the order of their numbers. Assumes nothing.
use Rattle.std.specs.Prelude.{ℕ, zero, suc, Bool, cond, ◌&&◌, List, [], ◌∷◌, ◌++◌, Ok, Err, codes, decimal, Result, nat_le, nat_lt}
use Rattle.share.specs.declared.refusal.Refusal.{Refusal}
use Rattle.share.specs.declared.refusal.Refusal.TheVariants.{WrongPhase, OutOfRange, NotEnrolled, AlreadyEnrolled, OutsideLimits, LotTerms, AllOrNothingSize, SecondAllOrNothing, LotFull, ExcusedByCall, AboveCapacity}

-- the number that each refusal is known by
abbrev pub number : Refusal → ℕ
number WrongPhase = 1
number OutOfRange = 2
number NotEnrolled = 3
number AlreadyEnrolled = 4
number OutsideLimits = 5
number LotTerms = 6
number AllOrNothingSize = 7
number SecondAllOrNothing = 8
number LotFull = 9
number ExcusedByCall = 10
number AboveCapacity = 11

-- the reason of each in words
abbrev pub reason_of : Refusal → List ℕ
reason_of WrongPhase = codes "wrong phase"
reason_of OutOfRange = codes "number out of range"
reason_of NotEnrolled = codes "not enrolled"
reason_of AlreadyEnrolled = codes "already enrolled"
reason_of OutsideLimits = codes "amount outside its limits"
reason_of LotTerms = codes "lots not as they must be"
reason_of AllOrNothingSize = codes "All or Nothing bid not for the whole lot"
reason_of SecondAllOrNothing = codes "second All or Nothing bid in the lot"
reason_of LotFull = codes "lot full"
reason_of ExcusedByCall = codes "excused by a call"
reason_of AboveCapacity = codes "above capacity"

-- what is printed of a refusal, as "refused 3: not enrolled"
abbrev pub shown : Refusal → List ℕ
shown e = codes "refused " ++ decimal (number e) ++ codes ": " ++ reason_of e

-- an answer with its refusal by number
abbrev pub numbered : {T : Type 0} → Result T Refusal → Result T ℕ
numbered (Ok x) = Ok x
numbered (Err e) = Err (number e)

-- an answer by the number of a refusal, which is 0 where there is none
abbrev pub unless : {T : Type 0} → ℕ → T → Result T ℕ
unless zero x = Ok x
unless (suc n) x = Err (suc n)

-- what there is afterwards, by the number of a refusal: as it was, or new where there is none
abbrev pub left_by : {T : Type 0} → ℕ → T → T → T
left_by zero old new = new
left_by (suc n) old new = old

-- a refusal's number where a test applies, 0 where it does not
abbrev pub if_so : Bool → Refusal → ℕ
if_so t e = cond t (number e) 0

-- the first number of a list that is not 0; 0 where there is none
abbrev pub first_nonzero : List ℕ → ℕ
first_nonzero [] = 0
first_nonzero (zero ∷ ns) = first_nonzero ns
first_nonzero (suc n ∷ ns) = suc n

-- whether a number is from 1 to a last one
abbrev pub in_range : ℕ → ℕ → Bool
in_range n last = nat_lt 0 n && nat_le n last
