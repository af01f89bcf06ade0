-- The sum of a chain of iterators that maps a list to signed numbers. Assumes nothing.
use Rattle.std.proofs.Common.{◌≡◌, ℕ, List, map, length, take, ℤ, pos, ◌+ℤ◌, fold, Option, sym, ap, ◌∙◌, subst, w64, SFits}
use Rattle.std.proofs.lemmas.Iterator.{YieldsList}
use Rattle.std.proofs.lemmas.Iterator.Consumers.{YieldsList-so_far}
use Rattle.std.proofs.lemmas.List.{take-map, map-id}
use Rattle.std.proofs.lemmas.List.Folds.{fold-map}
use Rattle.std.proofs.iter.Yields.{gives_Drains}
use Rattle.std.specs.Bool.{⊤}
use Rattle.std.specs.Iterator.{Yields, Drains}
use Rattle.std.specs.Iterator.Runs.{EachRunFrom, YieldsRun}

module _ {X S : Type 0} {steps : S → Option ℤ → S → Type 0} {s : S} (h : X → ℤ) (xs : List X) (e : YieldsList steps (λ z. z) s (map h xs)) where
  summed : (zs : List ℤ) (i : ℕ) → zs ≡ take i (map h xs) → fold ◌+ℤ◌ (pos 0) zs ≡ fold (λ z x. z +ℤ h x) (pos 0) (take i xs)
  summed zs i is = ap (fold ◌+ℤ◌ (pos 0)) (is ∙ take-map h i xs) ∙ fold-map ◌+ℤ◌ h (pos 0) (take i xs)

  -- it fits, as far as the chain has come
  pub fits_along : ((i : ℕ) → SFits w64 (fold (λ z x. z +ℤ h x) (pos 0) (take i xs))) → EachRunFrom steps s (λ p. SFits w64 (fold ◌+ℤ◌ (pos 0) p.items))
  unfolding YieldsRun
  fits_along l = λ p _ at.
      let some = YieldsList-so_far e p.items p.gave.0.0 (subst (λ u. Yields steps u p.items p.gave.0.0) at p.gave.0.1) in
      rw (summed p.items (length p.items) (sym (map-id p.items) ∙ some)) (l (length p.items))

  -- it is the sum over the list
  pub sum_is : (r : ℤ) → ((zs : List ℤ) × (⊤ → Drains steps s zs) × (r ≡ fold ◌+ℤ◌ (pos 0) zs)) → r ≡ fold (λ z x. z +ℤ h x) (pos 0) xs
  sum_is r d = d.2 ∙ ap (fold ◌+ℤ◌ (pos 0)) (sym (map-id d.0) ∙ gives_Drains steps (λ z. z) d.0 (map h xs) s e.runs (d.1 tt)) ∙ fold-map ◌+ℤ◌ h (pos 0) xs
