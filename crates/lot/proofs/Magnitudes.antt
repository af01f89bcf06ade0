-- How far integers are from 0, and what fits a width by that. Assumes nothing.
use Rattle.std.proofs.Common.{◌≡◌, ℕ, zero, suc, ◌+◌, ◌-◌, ◌*◌, ◌^◌, ◌<◌, ◌≤◌, ltb, ℤ, pos, negsuc, ◌+ℤ◌, ◌*ℤ◌, neg_ℤ, nat_abs, refl, ap, ◌∙◌, mul-le-mul_right, mul_comm, div-lt_iff_lt-mul, arith, w32, w64, SFits}
use native.Mathlib.Nat.{div-le_of_le-mul}
use lib.IntN.{sub_ℕ, negsuc-*ℤ-pos}
use Rattle.std.proofs.lemmas.Bool.{cond_both, ltb-true}
use Rattle.std.specs.Int.{int_div_euclid}
use Rattle.lot.specs.Average.{floor}

abs-sub : (m n : ℕ) → nat_abs (sub_ℕ m n) ≤ m + n
abs-sub m n = cond_both (ltb m n) (negsuc (n - suc m)) (pos (m - n)) (λ z. nat_abs z ≤ m + n) (λ e. omega (arith, ltb-true m n e)) (λ e. omega arith)

pub abs-add : (a b : ℤ) → nat_abs (a +ℤ b) ≤ nat_abs a + nat_abs b
abs-add (pos m) (pos n) = omega arith
abs-add (pos m) (negsuc n) = abs-sub m (suc n)
abs-add (negsuc m) (pos n) = omega (arith, abs-sub n (suc m))
abs-add (negsuc m) (negsuc n) = omega arith

abs_neg : (k : ℕ) → nat_abs (neg_ℤ (pos k)) ≡ k
abs_neg zero = refl
abs_neg (suc k) = refl

pub abs-times : (a : ℤ) (n : ℕ) → nat_abs (a *ℤ pos n) ≡ nat_abs a * n
abs-times (pos m) n = refl
abs-times (negsuc m) n = ap nat_abs (negsuc-*ℤ-pos m n) ∙ abs_neg (suc m * n)

pub fits-64 : (z : ℤ) → nat_abs z < 2 ^ 63 → SFits w64 z
fits-64 (pos n) h = record { sfits = h }
fits-64 (negsuc n) h = record { sfits = omega arith }

pub abs-32 : (z : ℤ) → SFits w32 z → nat_abs z ≤ 2 ^ 31
abs-32 (pos n) h = omega (arith, h.sfits)
abs-32 (negsuc n) h = omega (arith, h.sfits)

pub fits-32 : (z : ℤ) → nat_abs z ≤ 2000000000 → SFits w32 z
fits-32 (pos n) h = record { sfits = omega arith }
fits-32 (negsuc n) h = record { sfits = omega arith }

-- an i32 times a u32 fits an i64
pub times-fits : (a : ℤ) (n : ℕ) → SFits w32 a → n < 2 ^ 32 → SFits w64 (a *ℤ pos n)
times-fits a n h small = fits-64 (a *ℤ pos n) (omega (arith, abs-times a n, mul-le-mul_right n (abs-32 a h)))

-- an average of numbers up to a limit is within it
pub abs-floor : (limit m : ℕ) → 0 < m → (z : ℤ) → nat_abs z ≤ limit * m → nat_abs (floor z m) ≤ limit
abs-floor limit m some (pos n) h = div-le_of_le-mul m (omega (arith, mul_comm limit m))
abs-floor limit m some (negsuc n) h = (div-lt_iff_lt-mul some).1 h

-- a quotient by a number that is not negative is rounded down
pub floor-is : (z : ℤ) (m : ℕ) → int_div_euclid z (pos m) ≡ floor z m
floor-is (pos n) m = refl
floor-is (negsuc n) m = refl
