-- Products of an integer and a natural, and sums of integers over a list. Assumes nothing.
use Rattle.std.proofs.Common.{◌≡◌, ℕ, ◌+◌, ◌*◌, ◌<◌, ◌≤◌, List, [], ◌∷◌, ℤ, pos, negsuc, ◌+ℤ◌, ◌*ℤ◌, ◌≤ℤ◌, ◌<ℤ◌, fold, sym, ap, ◌∙◌, mul-le-mul_right, div-mul-le_self, arith}
use native.Mathlib.Nat.{lt-div-mul-add}
use borrow.Author.Differences.{up, down, sum_is_lem}
use Rattle.std.proofs.lemmas.Int.{ints}
use Rattle.lot.specs.Average.{floor}

pub times-mono : (a b : ℤ) (n : ℕ) → a ≤ℤ b → (a *ℤ pos n) ≤ℤ (b *ℤ pos n)
times-mono a b n h = let less : up a + down b ≤ up b + down a = omega (arith, ints) in omega (arith, ints, mul-le-mul_right n less)

pub times-add : (a : ℤ) (m n : ℕ) → a *ℤ pos (m + n) ≡ (a *ℤ pos m) +ℤ (a *ℤ pos n)
times-add a m n = omega (arith, ints)

pub add_times : (a b : ℤ) (n : ℕ) → (a +ℤ b) *ℤ pos n ≡ (a *ℤ pos n) +ℤ (b *ℤ pos n)
add_times a b n = omega (arith, ints, ap (λ i. i * n) (sum_is_lem a b))

-- the quotient rounded down
module _ (m : ℕ) (some : 0 < m) where
  pub floor-below : (z : ℤ) → (floor z m *ℤ pos m) ≤ℤ z
  floor-below (pos n) = omega (arith, ints, div-mul-le_self n m)
  floor-below (negsuc n) = omega (arith, ints, lt-div-mul-add {a = n} some)

  pub floor-near : (z : ℤ) → z <ℤ ((floor z m +ℤ pos 1) *ℤ pos m)
  floor-near (pos n) = omega (arith, ints, lt-div-mul-add {a = n} some)
  floor-near (negsuc n) = omega (arith, ints, add_times (floor (negsuc n) m) (pos 1) m, div-mul-le_self n m)

-- the sum of f over a list
module _ {X : Type 0} (f : X → ℤ) where
  from : (a : ℤ) (xs : List X) → fold (λ z x. z +ℤ f x) a xs ≡ a +ℤ fold (λ z x. z +ℤ f x) (pos 0) xs
  from a [] = omega (arith, ints)
  from a (x ∷ xs) = from (a +ℤ f x) xs ∙ omega (arith, ints) ∙ ap (λ z. a +ℤ z) (sym (from (pos 0 +ℤ f x) xs))

  pub folded-cons : (x : X) (xs : List X) → fold (λ z y. z +ℤ f y) (pos 0) (x ∷ xs) ≡ f x +ℤ fold (λ z y. z +ℤ f y) (pos 0) xs
  folded-cons x xs = from (pos 0 +ℤ f x) xs ∙ omega (arith, ints)
