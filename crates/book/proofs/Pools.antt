-- The pools that members fill. Assumes nothing.
use Rattle.std.proofs.Common.{◌≡◌, ℕ, ◌≤◌, true, List, length, replicate, is_ok, Ok, Err, Result, refl, ap, ◌∙◌, arith}
use Rattle.share.specs.Refusals.{numbered, unless, number}
use Rattle.share.specs.declared.refusal.Refusal.{Refusal}
use Rattle.resource.specs.Payers.{Light, pool_refusal}
use Rattle.resource.specs.Pools.{Stake, as_made, capacity_of, standing_of}
use Rattle.resource.specs.declared.pool.Pool.{Pool}
use Rattle.resource.proofs.Weights.{light-heavy, light-taken}
use Rattle.resource.specs.Totals.{pool-total, pool-covered}
use Rattle.book.proofs.Sums.{all-alike}
use Rattle.book.specs.State.{pools_capacity, pools_standing}
use Rattle.book.specs.declared.seats.Pools.{Pools}

-- a pool of 32 light payers is made
pub taken : (ws : List ℕ) → length ws ≡ 32 → Light ws → pool_refusal ws ≡ 0
taken ws all light = light-taken ws (omega (arith, all)) (omega (arith, all)) (light-heavy ws light)

-- and an answer where there is no refusal is one
pub is_made : (r : Result Pool Refusal) (n : ℕ) (s : Stake) → as_made (numbered r) ≡ unless n s → n ≡ 0 → is_ok r ≡ true
is_made (Ok p) n s e z = refl
is_made (Err x) n s e z = let w : Err (number x) ≡ unless 0 s = e ∙ ap (λ k. unless k s) z in let o : ◌≡◌ {A = ℕ} 0 1 = cc in absurd (omega arith)

-- nothing is light
pub light-nobody : Light (replicate 32 0)
light-nobody k h = omega (arith, all-alike {X = ℕ} 32 k 0)

-- what a pool can stand for, and what it stands for, at most
pub pool-bounds : (p : Pool) → (capacity_of p ≤ 3200000000) × (standing_of p ≤ 3200000000)
pool-bounds p = (pool-total p, omega (arith, pool-total p, pool-covered p))

pub pools-bounds : (p : Pools) → (pools_capacity p ≤ 9600000000) × (pools_standing p ≤ 9600000000)
pools-bounds p =
    let one = pool-bounds p.first in
    let two = pool-bounds p.second in
    let three = pool-bounds p.third in
    (omega (arith, one.0, two.0, three.0), omega (arith, one.1, two.1, three.1))
