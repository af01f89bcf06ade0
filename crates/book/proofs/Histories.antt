-- The law over whole lives of books of the code. Assumes nothing.
use Rattle.std.proofs.Common.{◌≡◌, ℕ, ◌+◌, ◌-◌, ◌<◌, ◌≤◌, min, Bool, true, false, cond, List, [], ◌∷◌, get_or, replicate, None, Ok, Option, Result, sym, refl, ap, ◌∙◌, subst, arith}
use Rattle.share.specs.Rule.{total}
use Rattle.resource.specs.declared.resource.Resource.{Ghosts}
use Rattle.auction.specs.Lots.{Listing, all_fail}
use Rattle.auction.specs.Roster.{fund_of, assessment_of}
use Rattle.auction.specs.Weights.{fill}
use Rattle.auction.specs.declared.member.Member.{Member}
use Rattle.share.specs.Refusals.{numbered}
use Rattle.share.specs.declared.refusal.Refusal.{Refusal}
use Rattle.book.specs.Law.{Alike, ByLossAlone, Law}
use Rattle.book.specs.Lived.{Lived, new, lived, Since, there, then}
use Rattle.book.specs.Money.{free}
use Rattle.book.specs.Next.{all_standing, covers, after, reply, answer, next}
use Rattle.book.specs.Refusals.{declined}
use Rattle.book.specs.Runs.{Entry, calls, paid_in, paid_out, covered_by, covered_in, returned_by, returned_in, concludes, concludes_in}
use Rattle.book.specs.Standing.{capacities_of, capacities, standings}
use Rattle.book.specs.State.{State, view, still, made}
use Rattle.book.specs.declared.answers.Answer.{Answer}
use Rattle.book.specs.declared.book.Book.{Book}
use Rattle.book.specs.declared.calls.Call.{Call}
use Rattle.book.specs.declared.calls.Call.TheVariants as call
use Rattle.book.specs.declared.phase.Phase.TheVariants.{Resting, Bidding, Charging}
use Rattle.book.proofs.Free.{loss_at, amounts, has, free-still}
use Rattle.book.proofs.Seating.{stand-in_order, proportional}
use Rattle.book.proofs.Sums.{all-alike}
use Rattle.book.proofs.Steps.{Fit, Listed, Sound, at_rest, at_bids, at_charge, either_way, step, stands-whole, charge-within}

made-sound : (c : ℕ) → Sound (made c)
made-sound c = at_rest (replicate 32 None) c (record { places = refl; funded = λ i. (omega (arith, ap fund_of (all-alike 32 i None)), omega (arith, ap assessment_of (all-alike 32 i None))) })

made-free : (c : ℕ) → free (made c) ≡ c
unfolding amounts has
made-free c = free-still Resting (replicate 32 None) [] c ∙ omega arith

-- a book that has lived is sound, and its money is kept
pub keeps : {R : Type 0} (g : Ghosts R) (c : ℕ) {h : List Entry} {b : Book R} → Lived g c h b →
    Sound (view g b) × (c + paid_in h + returned_in h ≡ paid_out h + covered_in h + free (view g b))
keeps g c (new b e) = (subst Sound (sym e) (made-sound c), omega (arith, made-free c, ap free e))
keeps g c (lived b d k a h life does) =
    let old = keeps g c life in
    let one = step (view g b) k a (view g d) does.answered does.moved old.0 in
    (one.sound, omega (arith, one.money, old.1))

-- outside Charging nothing stands
pub nothing-stands : (i : ℕ) → ◌≡◌ {A = ℕ} (get_or (0 ∷ 0 ∷ 0 ∷ 0 ∷ 0 ∷ 0 ∷ 0 ∷ []) i 0) 0
nothing-stands i = all-alike 7 i 0

ordered : (s t : ℕ) → 0 < s → s < t → (b : State) → Sound b → 0 < get_or (standings b) (t - 1) 0 → get_or (standings b) (s - 1) 0 ≡ get_or (capacities b) (s - 1) 0
ordered s t low lt b (at_rest r c e) some = absurd (omega (arith, nothing-stands (t - 1)))
ordered s t low lt b (at_bids r ls c e w) some = absurd (omega (arith, nothing-stands (t - 1)))
ordered s t low lt b (at_charge r ls c n e w h) some = stand-in_order (capacities_of (fill r ls) c) n (s - 1) (t - 1) (omega arith) some

-- a book in Charging of the same seats, whose loss was n and then grew by `up` and fell by `down`
record Moved (r : List (Option Member)) (ls : List Listing) (c n up down : ℕ) (b : State) : Type 0 where
  loss : ℕ
  is : b ≡ loss_at r ls c loss
  net : loss + down ≡ n + up
  fits : loss ≤ total (capacities_of (fill r ls) c)

-- the net loss by the sums of what was covered and returned
loss-grows : (s n m : ℕ) → s ≡ n → s + m + 0 ≡ n + m
loss-grows s n m e = omega arith

loss-falls : (n x : ℕ) → n - min x n + min x n ≡ n + 0
loss-falls n x = omega arith

module _ (r : List (Option Member)) (ls : List Listing) (c : ℕ) (e : Fit r) (w : Listed ls) where
  -- an accepted call in Charging that does not end it
  moves : (n : ℕ) → n ≤ total (capacities_of (fill r ls) c) → (k : Call) → declined (loss_at r ls c n) k ≡ 0 → concludes (Ok (reply (loss_at r ls c n) k)) ≡ 0 →
      Moved r ls c n (covered_by (Ok (reply (loss_at r ls c n) k))) (returned_by (Ok (reply (loss_at r ls c n) k))) (after (loss_at r ls c n) k)
  moves n fits (call.Enrol m f a) ok on = absurd (omega arith)
  moves n fits (call.TopUp m f a) ok on = absurd (omega arith)
  moves n fits (call.Release m) ok on = absurd (omega arith)
  moves n fits (call.Open o) ok on = absurd (omega arith)
  moves n fits (call.Excuse m l) ok on = absurd (omega arith)
  moves n fits (call.Bid m l k x p) ok on = absurd (omega arith)
  moves n fits call.Close ok on = absurd (omega arith)
  moves n fits (call.Charge x) ok on = record {
    loss = all_standing (loss_at r ls c n) + covers (loss_at r ls c n) x.0;
    is = refl;
    net = loss-grows (all_standing (loss_at r ls c n)) n (covers (loss_at r ls c n) x.0) (stands-whole r ls c e w n fits);
    fits = charge-within r ls c e w n fits x.0;
  }
  moves n fits (call.Recover x) ok on = record { loss = n - min x.0 n; is = refl; net = loss-falls n x.0; fits = omega arith }
  moves n fits call.Conclude ok on = absurd (omega arith)

  -- one call on a book in Charging
  moved_by : (n : ℕ) → n ≤ total (capacities_of (fill r ls) c) → (k : Call) (a : Result Answer Refusal) (d : State) → numbered a ≡ answer (loss_at r ls c n) k → d ≡ next (loss_at r ls c n) k → concludes a ≡ 0 →
      Moved r ls c n (covered_by a) (returned_by a) d
  moved_by n fits k a d said moved = either_way (loss_at r ls c n) k a d said moved (λ a d. concludes a ≡ 0 → Moved r ls c n (covered_by a) (returned_by a) d)
      (λ _ _. record { loss = n; is = refl; net = refl; fits = fits }) (moves n fits k)

  module _ {R : Type 0} (g : Ghosts R) where
    -- what became of a book since its Charging began
    since : {o b : Book R} {h : List Entry} → view g o ≡ loss_at r ls c 0 → Since g o h b → concludes_in h ≡ 0 → Moved r ls c 0 (covered_in h) (returned_in h) (view g b)
    since first there on = record { loss = 0; is = first; net = refl; fits = omega arith }
    since first (then d b k a h before does) on =
        let old = since first before (omega arith) in
        let said : numbered a ≡ answer (loss_at r ls c old.loss) k = does.answered ∙ ap (λ s. answer s k) old.is in
        let moved : view g b ≡ next (loss_at r ls c old.loss) k = does.moved ∙ ap (λ s. next s k) old.is in
        let one = moved_by old.loss old.fits k a (view g b) said moved (omega arith) in
        record { loss = one.loss; is = one.is; net = omega (arith, one.net, old.net); fits = one.fits }

  -- after one close two books with the same net loss are in the same state
  same_end : {R S : Type 0} (g : Ghosts R) (k : Ghosts S) {o b : Book R} {p d : Book S} {s t : List Entry} → view g o ≡ loss_at r ls c 0 → view k p ≡ loss_at r ls c 0 →
      Since g o s b → concludes_in s ≡ 0 → Since k p t d → concludes_in t ≡ 0 → covered_in s + returned_in t ≡ covered_in t + returned_in s → view g b ≡ view k d
  same_end g k one two f on h off even =
      let left = since g one f on in
      let right = since k two h off in
      left.is ∙ ap (loss_at r ls c) (omega (arith, left.net, right.net)) ∙ sym right.is

-- what a close that began Charging left: the same for every book in the same state
record Closing (o x : State) : Type 0 where
  r : List (Option Member)
  ls : List Listing
  c : ℕ
  fit : Fit r
  listed : Listed ls
  is : x ≡ loss_at r ls c 0

closes : (o x : State) → Sound o → o.phase ≡ Bidding → x ≡ next o call.Close → x.phase ≡ Charging → Closing o x
closes o x (at_rest r c e) was moved began = let z : ◌≡◌ {A = ℕ} 0 1 = cc in absurd (omega arith)
closes o x (at_bids r ls c e w) was moved began = go (all_fail ls) moved
  where
    go : (v : Bool) → x ≡ cond v (still Resting r [] c) (loss_at r ls c 0) → Closing (still Bidding r ls c) x
    go true m =
        let other : Charging ≡ Resting = sym began ∙ ap (λ y. y.phase) m in
        let z : ◌≡◌ {A = ℕ} 0 1 = cc in absurd (omega arith)
    go false m = record { r = r; ls = ls; c = c; fit = e; listed = w; is = m }
closes o x (at_charge r ls c n e w h) was moved began = let z : ◌≡◌ {A = ℕ} 0 1 = cc in absurd (omega arith)

-- the calls decide the state
abbrev after_all : State → List Call → State
after_all b [] = b
after_all b (k ∷ ks) = next (after_all b ks) k

lived-is : {R : Type 0} (g : Ghosts R) (c : ℕ) {h : List Entry} {b : Book R} → Lived g c h b → view g b ≡ after_all (made c) (calls h)
lived-is g c (new b e) = e
lived-is g c (lived b d k a h life does) = does.moved ∙ ap (λ s. next s k) (lived-is g c life)

by_loss_alone : {R S : Type 0} (g : Ghosts R) (k : Ghosts S) → ByLossAlone g k
by_loss_alone g k c h i s t b d left right same even =
    let joint : view k right.closing ≡ view g left.closing = lived-is k c right.had_lived ∙ ap (after_all (made c)) (sym same) ∙ sym (lived-is g c left.had_lived) in
    let start = closes (view g left.closing) (view g left.first) (keeps g c left.had_lived).0 left.was_bidding left.closed.moved left.began in
    let other : view k right.first ≡ view g left.first = right.closed.moved ∙ ap (λ o. next o call.Close) joint ∙ sym left.closed.moved in
    let end = same_end start.r start.ls start.c start.fit start.listed g k start.is (other ∙ start.is) left.went_on left.unconcluded right.went_on right.unconcluded even in
    subst (Alike (view g b)) end (λ s low high. (refl, refl, λ m from to. refl))

pub law : {R S : Type 0} (g : Ghosts R) (k : Ghosts S) → Law g k
law g k = record {
  conserves = λ c h b life. (keeps g c life).1;
  in_order = λ c h b life s t low lt high some. ordered s t low lt (view g b) (keeps g c life).0 some;
  in_proportion = λ c h b life s m low high ne from to. proportional (view g b) s m low high ne;
  by_loss_alone = by_loss_alone g k;
}
