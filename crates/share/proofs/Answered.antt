-- Answers that may be refusals, by number. Assumes nothing.
use Rattle.std.proofs.Common.{◌≡◌, ℕ, zero, suc, List, ◌∷◌, Ok, Err, refl, ap, arith}
use Rattle.share.specs.Refusals.{unless, left_by, first_nonzero}

-- an answer that is no refusal comes where there is none
pub unless-ok : {T : Type 0} (n : ℕ) (x y : T) → Ok x ≡ unless n y → (n ≡ 0) × (x ≡ y)
unless-ok zero x y e = (refl, cc)
unless-ok (suc n) x y e = let z : ◌≡◌ {A = ℕ} 0 1 = cc in absurd (omega arith)

-- a refusal is the same whatever would have been answered
pub unless-err : {S T : Type 0} (n k : ℕ) (y : S) (x : T) → Err k ≡ unless n y → Err k ≡ unless n x
unless-err zero k y x e = let z : ◌≡◌ {A = ℕ} 0 1 = cc in absurd (omega arith)
unless-err (suc n) k y x e = let h : k ≡ suc n = cc in ap Err h

-- a refusal by the first of several tests
pub first-refuses : {S T U : Type 0} (n k : ℕ) (ns : List ℕ) (y : S) (x : T) (old new : U) → Err k ≡ unless n y → (Err k ≡ unless (first_nonzero (n ∷ ns)) x) × (left_by (first_nonzero (n ∷ ns)) old new ≡ old)
first-refuses zero k ns y x old new e = let z : ◌≡◌ {A = ℕ} 0 1 = cc in absurd (omega arith)
first-refuses (suc n) k ns y x old new e = let h : k ≡ suc n = cc in (ap Err h, refl)
