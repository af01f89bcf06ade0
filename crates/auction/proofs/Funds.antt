-- Rosters in which no amount is above its limit. Assumes nothing.
use Rattle.std.proofs.Common.{ℕ, zero, suc, ◌≤◌, List, [], ◌∷◌, set, replicate, None, Option, arith}
use Rattle.auction.specs.Roster.{most_amount, fund_of, assessment_of, Funded}
use Rattle.auction.specs.declared.member.Member.{Member}

-- another entry within the limits at one place
pub funded-set : (r : List (Option Member)) (i : ℕ) (x : Option Member) → fund_of x ≤ most_amount → assessment_of x ≤ most_amount → Funded r → Funded (set r i x)
funded-set [] i x f a h k = h k
funded-set (y ∷ r) zero x f a h zero = (f, a)
funded-set (y ∷ r) zero x f a h (suc k) = h (suc k)
funded-set (y ∷ r) (suc i) x f a h zero = h zero
funded-set (y ∷ r) (suc i) x f a h (suc k) = funded-set r i x f a (λ j. h (suc j)) k

-- a roster of nobody
pub funded-none : (n : ℕ) → Funded (replicate n None)
funded-none zero k = (omega arith, omega arith)
funded-none (suc n) zero = (omega arith, omega arith)
funded-none (suc n) (suc k) = funded-none n k
