-- Books of the code and what they lived through, over any resource. Assumes nothing.
use Rattle.std.specs.Prelude.{◌≡◌, ℕ, List, [], ◌∷◌, map, Result}
use Rattle.resource.specs.declared.resource.Resource.{Ghosts}
use Rattle.share.specs.Refusals.{numbered}
use Rattle.share.specs.declared.refusal.Refusal.{Refusal}
use Rattle.book.specs.Next.{answer, next, run, answers}
use Rattle.book.specs.Runs.{Entry, noted, added, concludes_in}
use Rattle.book.specs.State.{made, view}
use Rattle.book.specs.declared.answers.Answer.{Answer}
use Rattle.book.specs.declared.book.Book.{Book}
use Rattle.book.specs.declared.calls.Call.{Call}
use Rattle.book.specs.declared.calls.Call.TheVariants as call
use Rattle.book.specs.declared.phase.Phase.TheVariants.{Bidding, Charging}

-- a call that makes a book b into d, with the answer and the effect that the rules give
pub record Does {R : Type 0} (g : Ghosts R) (b : Book R) (k : Call) (a : Result Answer Refusal) (d : Book R) : Type 0 where
  pub answered : numbered a ≡ answer (view g b) k
  pub moved : view g d ≡ next (view g b) k

-- a book that has lived through a history, the newest call first: newly made over a resource of capacity c, or what a lived book became by one more call
pub data Lived {R : Type 0} (g : Ghosts R) (c : ℕ) : List Entry → Book R → Type 0 where
  new : (b : Book R) → view g b ≡ made c → Lived g c [] b
  lived : (b d : Book R) (k : Call) (a : Result Answer Refusal) (h : List Entry) → Lived g c h b → Does g b k a d → Lived g c (noted k a ∷ h) d

-- a book that has lived through any history has, after a call, lived through that history and this call with its answer
abbrev pub LivesOn : {R : Type 0} → Ghosts R → Book R → Call → Result Answer Refusal → Book R → Type 0
LivesOn g b k a d = (c : ℕ) (h : List Entry) → Lived g c h b → Lived g c (noted k a ∷ h) d

-- calls one after another that make a book b into d, with the answers and the effect that the rules give; the book goes on with any history that it had
pub record Ran {R : Type 0} (g : Ghosts R) (b : Book R) (ks : List Call) (rs : List (Result Answer Refusal)) (d : Book R) : Type 0 where
  pub answered : map numbered rs ≡ answers (view g b) ks
  pub moved : view g d ≡ run (view g b) ks
  pub lives : (c : ℕ) (h : List Entry) → Lived g c h b → Lived g c (added h ks rs) d

-- what became of a book by the calls of a history, the newest first
pub data Since {R : Type 0} (g : Ghosts R) (b : Book R) : List Entry → Book R → Type 0 where
  there : Since g b [] b
  then : (d e : Book R) (k : Call) (a : Result Answer Refusal) (h : List Entry) → Since g b h d → Does g d k a e → Since g b (noted k a ∷ h) e

-- a life in Charging: the close that began it came after `before`, and no conclude was accepted `since`
pub record Charged {R : Type 0} (g : Ghosts R) (c : ℕ) (before since : List Entry) (b : Book R) : Type 0 where
  pub closing : Book R
  pub said : Result Answer Refusal
  pub first : Book R
  pub had_lived : Lived g c before closing
  pub was_bidding : closing.phase ≡ Bidding
  pub closed : Does g closing call.Close said first
  pub began : first.phase ≡ Charging
  pub went_on : Since g first since b
  pub unconcluded : concludes_in since ≡ 0
