-- Members lowered one after another. Assumes nothing.
use Rattle.std.proofs.Common.{◌≡◌, ℕ, ◌+◌, ◌-◌, ◌<◌, ◌≤◌, List, [], ◌∷◌, ◌++◌, length, get_or, take, drop, set, None, Option, sym, ap, ◌∙◌, ap₂, arith}
use Rattle.std.proofs.lemmas.List.FromFn.{length-map-range_with_len, get_or-map-range_with_len}
use Rattle.std.proofs.lemmas.List.{get_or-drop, drop-drop, drop-set-lt, take_more, take_more_set}
use Rattle.auction.specs.Enrolling.{less, put}
use Rattle.auction.specs.Roster.{place}
use Rattle.auction.specs.declared.member.Member.{Member}
use Rattle.book.specs.Standing.{fund_bears, assessment_bears, lowered_roster}
use Rattle.book.specs.State.{State}

-- a member that is not lowered yet
not_yet : (xs r : List (Option Member)) (m : ℕ) → drop (m - 1) xs ≡ drop (m - 1) r → place xs m ≡ place r m
not_yet xs r m e =
    let here : m - 1 ≡ m - 1 + 0 = omega arith in
    ap (λ k. get_or xs k None) here ∙ sym (get_or-drop (m - 1) xs 0 None) ∙ ap (λ zs. get_or zs 0 None) e ∙ get_or-drop (m - 1) r 0 None ∙ ap (λ k. get_or r k None) (sym here)

module _ (b : State) (all : length b.roster ≡ 32) where
  length-all : length (lowered_roster b) ≡ 32
  length-all = length-map-range_with_len (λ m. less (place b.roster m) (fund_bears b m) (assessment_bears b m)) 1 (length b.roster) ∙ all

  -- one member more
  pub lower-more : (xs : List (Option Member)) (m f a : ℕ) → length xs ≡ 32 → 0 < m → m ≤ 32 → f ≡ fund_bears b m → a ≡ assessment_bears b m →
      take (m - 1) xs ≡ take (m - 1) (lowered_roster b) → drop (m - 1) xs ≡ drop (m - 1) b.roster →
      (take m (put xs m (less (place xs m) f a)) ≡ take m (lowered_roster b)) × (drop m (put xs m (less (place xs m) f a)) ≡ drop m b.roster)
  lower-more xs m f a whole low high ef ea front back =
      let y = less (place xs m) f a in
      let next : m - 1 + 1 ≡ m = omega arith in
      let is : y ≡ get_or (lowered_roster b) (m - 1) None =
      ap (λ x. less x f a) (not_yet xs b.roster m back) ∙ ap₂ (less (place b.roster m)) ef ea
      ∙ sym (get_or-map-range_with_len (λ m. less (place b.roster m) (fund_bears b m) (assessment_bears b m)) 1 (length b.roster) (m - 1) m None (omega (arith, all, high)) (omega arith)) in (
        ap (λ k. take k (set xs (m - 1) y)) (sym next) ∙ take_more_set xs (m - 1) y (omega (arith, whole, high)) ∙ ap₂ (λ zs z. zs ++ z ∷ []) front is ∙ sym (take_more (lowered_roster b) (m - 1) None (omega (arith, length-all, high))) ∙ ap (λ k. take k (lowered_roster b)) next,
        drop-set-lt m xs (m - 1) y (omega arith) ∙ ap (λ k. drop k xs) (sym next) ∙ sym (drop-drop 1 (m - 1) xs) ∙ ap (drop 1) back ∙ drop-drop 1 (m - 1) b.roster ∙ ap (λ k. drop k b.roster) next,
      )
