-- The senior part of a Split's amount. Assumes nothing.
use Rattle.std.proofs.Common.{◌≡◌, ℕ, zero, suc, ◌*◌, ◌/◌, ◌≤◌, Bool, true, false, cond, ℤ, pos, negsuc, ◌-ℤ◌, sym, refl, ap, ◌∙◌, ap₂, mul-le-mul_left, arith, w64, SFits, to_z, of_z}
use native.Mathlib.Nat.{div-zero, div-le_of_le-mul}
use lib.Signed.{lt_z, le_z}
use Rattle.std.proofs.lemmas.Int.{ints, to_z-of_z}
use Rattle.lot.proofs.Magnitudes.{fits-64}
use Rattle.lot.specs.Class.{natural, senior_threshold, subordinate_threshold, by_price}
use Rattle.lot.specs.declared.class.Class.TheVariants.{Senior, Split, Subordinate}

-- a Split's BP is neither above the senior nor below the subordinate threshold
between : (u v : Bool) → cond u Senior (cond v Subordinate Split) ≡ Split → (u ≡ false) × (v ≡ false)
between true v e = let z : ◌≡◌ {A = ℕ} 0 1 = cc in absurd (omega arith)
between false true e = let z : ◌≡◌ {A = ℕ} 0 1 = cc in absurd (omega arith)
between false false e = (refl, refl)

natural-is : (z : ℤ) → le_z (pos 0) z ≡ true → pos (natural z) ≡ z
natural-is (pos n) h = refl
natural-is (negsuc n) h = let z : ◌≡◌ {A = ℕ} 0 1 = cc in absurd (omega arith)

not-below : (a b : ℤ) → lt_z a b ≡ false → le_z (pos 0) (a -ℤ b) ≡ true
not-below a b h = grind (arith, ints)

one_lower : (s bp : ℤ) (pri : ℕ) → lt_z s bp ≡ false → natural (bp -ℤ (s -ℤ pos pri)) ≤ pri
one_lower s bp pri h = grind (arith, ints)

module _ (p : ℤ) (pri : ℕ) (bp : ℤ) (e : by_price p pri bp ≡ Split) where
  tests : (lt_z (senior_threshold p pri) bp ≡ false) × (lt_z bp (subordinate_threshold p pri) ≡ false)
  tests = between (lt_z (senior_threshold p pri) bp) (lt_z bp (subordinate_threshold p pri)) e

  -- how far a Split's BP is above the subordinate threshold: at most one PRI
  pub distance_is : bp -ℤ subordinate_threshold p pri ≡ pos (natural (bp -ℤ subordinate_threshold p pri))
  distance_is = sym (natural-is _ (not-below bp (subordinate_threshold p pri) tests.1))

  pub distance-small : natural (bp -ℤ subordinate_threshold p pri) ≤ pri
  distance-small = one_lower (senior_threshold p pri) bp pri tests.0

  -- as the code reads it
  pub distance_read : (x t : ℤ) → pri ≤ 2000000000 → SFits w64 x → x ≡ bp → SFits w64 t → t ≡ subordinate_threshold p pri →
      to_z w64 (of_z w64 (to_z w64 (of_z w64 x) -ℤ to_z w64 (of_z w64 t))) ≡ pos (natural (bp -ℤ subordinate_threshold p pri))
  distance_read x t small x_Fits x-is t-fits t-is =
      ap (λ z. to_z w64 (of_z w64 z)) (ap₂ ◌-ℤ◌ (to_z-of_z w64 x x_Fits ∙ x-is) (to_z-of_z w64 t t-fits ∙ t-is) ∙ distance_is)
      ∙ to_z-of_z w64 (pos _) (fits-64 (pos _) (omega (arith, distance-small)))

-- a part of at most all
pub part-at_most : (amount d pri : ℕ) → d ≤ pri → amount * d / pri ≤ amount
part-at_most amount d zero h = omega (arith, div-zero (amount * d))
part-at_most amount d (suc n) h = div-le_of_le-mul (suc n) (omega (arith, mul-le-mul_left amount h))
