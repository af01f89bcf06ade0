-- Calls made one after another. Assumes nothing.
use Rattle.std.proofs.Common.{◌≡◌, ℕ, ◌+◌, ◌<◌, List, [], ◌∷◌, ◌++◌, length, get_or, take, drop, set, Result, sym, refl, ap, ◌∙◌, subst, ap₂, arith}
use Rattle.std.proofs.lemmas.List.{length-take-le, map_push, take_more, take_more_set, drop-drop, drop-set-lt}
use Rattle.resource.specs.declared.resource.Resource.{Ghosts}
use Rattle.share.specs.Refusals.{numbered}
use Rattle.share.specs.declared.refusal.Refusal.{Refusal}
use Rattle.book.specs.Lived.{Does, Lived, lived, Ran}
use Rattle.book.specs.Next.{answer, next, run, answers}
use Rattle.book.specs.Runs.{Entry, noted, added}
use Rattle.book.specs.State.{State, view}
use Rattle.book.specs.declared.answers.Answer.{Answer}
use Rattle.book.specs.declared.book.Book.{Book}
use Rattle.book.specs.declared.calls.Call.{Call}

-- one call more at the end
run-push : (b : State) (ks : List Call) (k : Call) → run b (ks ++ k ∷ []) ≡ next (run b ks) k
run-push b [] k = refl
run-push b (j ∷ ks) k = run-push (next b j) ks k

answers_push : (b : State) (ks : List Call) (k : Call) → answers b (ks ++ k ∷ []) ≡ answers b ks ++ answer (run b ks) k ∷ []
answers_push b [] k = refl
answers_push b (j ∷ ks) k = ap (λ rs. answer b j ∷ rs) (answers_push (next b j) ks k)

added-push : (h : List Entry) (ks : List Call) (rs : List (Result Answer Refusal)) (k : Call) (a : Result Answer Refusal) → length ks ≡ length rs → added h (ks ++ k ∷ []) (rs ++ a ∷ []) ≡ noted k a ∷ added h ks rs
added-push h [] [] k a e = refl
added-push h [] (r ∷ rs) k a e = absurd (omega arith)
added-push h (j ∷ ks) [] k a e = absurd (omega arith)
added-push h (j ∷ ks) (r ∷ rs) k a e = added-push (noted j r ∷ h) ks rs k a (omega arith)

module _ {R : Type 0} (g : Ghosts R) (b : Book R) where
  -- one more
  ran-push : (ks : List Call) (rs : List (Result Answer Refusal)) (d e : Book R) (k : Call) (a : Result Answer Refusal) → length ks ≡ length rs → Ran g b ks rs d → Does g d k a e → Ran g b (ks ++ k ∷ []) (rs ++ a ∷ []) e
  ran-push ks rs d e k a same so_far does = record {
    answered =
        map_push numbered rs a ∙ ap₂ (λ xs x. xs ++ x ∷ []) so_far.answered (does.answered ∙ ap (λ s. answer s k) so_far.moved) ∙ sym (answers_push (view g b) ks k);
    moved = does.moved ∙ ap (λ s. next s k) so_far.moved ∙ sym (run-push (view g b) ks k);
    lives = λ c h life. subst (λ i. Lived g c i e) (sym (added-push h ks rs k a same)) (lived d e k a (added h ks rs) (so_far.lives c h life) does);
  }

  -- the next call of a list
  pub ran-more : (calls : List Call) (rs : List (Result Answer Refusal)) (i : ℕ) (d e : Book R) (k : Call) (a : Result Answer Refusal) → i < length calls → i < length rs → k ≡ get_or calls i k →
      Ran g b (take i calls) (take i rs) d → Does g d k a e → Ran g b (take (i + 1) calls) (take (i + 1) (set rs i a)) e
  ran-more calls rs i d e k a h room is so_far does =
      let same : length (take i calls) ≡ length (take i rs) = omega (arith, length-take-le i calls (omega arith), length-take-le i rs (omega arith)) in
      let next-calls : take (i + 1) calls ≡ take i calls ++ k ∷ [] = take_more calls i k h ∙ ap (λ x. take i calls ++ x ∷ []) (sym is) in
      subst (λ ks. Ran g b ks (take (i + 1) (set rs i a)) e) (sym next-calls)
      (subst (λ xs. Ran g b (take i calls ++ k ∷ []) xs e) (sym (take_more_set rs i a room)) (ran-push (take i calls) (take i rs) d e k a same so_far does))

-- the answers behind it stay
pub rest_more : {X : Type 0} (xs rs : List X) (i : ℕ) (a : X) → drop i xs ≡ drop i rs → drop (i + 1) (set xs i a) ≡ drop (i + 1) rs
rest_more xs rs i a e = drop-set-lt (i + 1) xs i a (omega arith) ∙ sym (drop-drop 1 i xs) ∙ ap (drop 1) e ∙ drop-drop 1 i rs
