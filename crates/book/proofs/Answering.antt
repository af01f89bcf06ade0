-- Calls that are answered after some tests were passed. Assumes nothing.
use Rattle.std.proofs.Common.{◌≡◌, ℕ, zero, suc, ◌<◌, Bool, true, false, not, ◌||◌, List, [], ◌∷◌, Err, Result, sym, refl, ap, ◌∙◌, ap₂, arith}
use Rattle.share.specs.Refusals.{unless, left_by, if_so, first_nonzero}
use Rattle.share.specs.declared.refusal.Refusal.TheVariants.{WrongPhase, OutOfRange}
use Rattle.auction.specs.Lots.{Listing}
use Rattle.book.specs.Calls.{phase_of, same_phase, said}
use Rattle.book.specs.Next.{after, reply, answer, next, with_lots}
use Rattle.book.specs.Refusals.{out_of_phase, tests, declined}
use Rattle.book.specs.State.{State}
use Rattle.book.specs.declared.answers.Answer.{Answer}
use Rattle.book.specs.declared.calls.Call.{Call}
use Rattle.book.specs.declared.phase.Phase.{Phase}
use Rattle.book.specs.declared.phase.Phase.TheVariants.{Resting, Bidding, Charging}

-- a call in its phase is declined by its other tests
pub in-phase : (b : State) (k : Call) → out_of_phase b (phase_of k) ≡ 0 → declined b k ≡ first_nonzero (tests b k)
in-phase b k e = ap (λ n. first_nonzero (n ∷ tests b k)) e

-- the phase that a book is in, where one is not refused
pub phase-known : (p q : Phase) → if_so (not (same_phase p q)) WrongPhase ≡ 0 → p ≡ q
phase-known Resting Resting e = refl
phase-known Resting Bidding e = absurd (omega (arith, e))
phase-known Resting Charging e = absurd (omega (arith, e))
phase-known Bidding Resting e = absurd (omega (arith, e))
phase-known Bidding Bidding e = refl
phase-known Bidding Charging e = absurd (omega (arith, e))
phase-known Charging Resting e = absurd (omega (arith, e))
phase-known Charging Bidding e = absurd (omega (arith, e))
phase-known Charging Charging e = refl

-- the answer of a call whose tests come to n
pub answered-by : {T : Type 0} (b : State) (k : Call) (f : T → Answer) (n : ℕ) (x : T) (r : Result T ℕ) → declined b k ≡ n → f x ≡ reply b k → r ≡ unless n x → said f r ≡ answer b k
answered-by {T} b k f n x r d e h = ap (said f) h ∙ go n ∙ ap₂ unless (sym d) e
  where
    go : (m : ℕ) → said f (unless m x) ≡ unless m (f x)
    go zero = refl
    go (suc m) = refl

-- the answer and the book where one of the first tests refuses
pub refused-by : {S T : Type 0} (b : State) (k : Call) (f : T → Answer) (m n : ℕ) (y : S) (r : Result T ℕ) → Err n ≡ unless m y → (0 < m → declined b k ≡ m) → r ≡ Err n → (said f r ≡ answer b k) × (b ≡ next b k)
refused-by b k f zero n y r e d h = let z : ◌≡◌ {A = ℕ} 0 1 = cc in absurd (omega arith)
refused-by b k f (suc m) n y r e d h =
    let same : n ≡ suc m = cc in
    let now = d (omega arith) in
    (ap (said f) h ∙ ap Err same ∙ ap (λ i. unless i (reply b k)) (sym now), ap (λ i. left_by i b (after b k)) (sym now))

-- the first two of several tests
pub both-pass : (x y : ℕ) (ns : List ℕ) → first_nonzero (x ∷ y ∷ []) ≡ 0 → (x ≡ 0) × (first_nonzero (x ∷ y ∷ ns) ≡ first_nonzero ns)
both-pass zero zero ns e = (refl, refl)
both-pass zero (suc y) ns e = absurd (omega (arith, e))
both-pass (suc x) y ns e = absurd (omega (arith, e))

-- neither of two numbers is out of range
pub second-in_range : (v w : Bool) → if_so (v || w) OutOfRange ≡ 0 → w ≡ false
second-in_range true w e = absurd (omega (arith, e))
second-in_range false true e = absurd (omega (arith, e))
second-in_range false false e = refl

-- the book with lots that a refusal leaves as they were
pub lots-left : (n : ℕ) (b : State) (p : Phase) (ls : List Listing) → b.phase ≡ p → with_lots b b.phase (left_by n b.lots ls) ≡ left_by n b (with_lots b p ls)
lots-left zero b p ls e = ap (λ q. with_lots b q ls) e
lots-left (suc n) b p ls e = refl
