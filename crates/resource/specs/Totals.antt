-- The weights of a pool come to no more than the greatest capacity of a resource. Assumes nothing.
use Rattle.std.specs.Prelude.{ℕ, ◌≤◌, List, length}
use Rattle.std.proofs.Common.{arith}
use Rattle.std.proofs.lemmas.List.Elements.{All-from_get_or}
use Rattle.std.proofs.lemmas.List.Sums.{sum_by-le}
use Rattle.std.proofs.lemmas.List.{length-map, length-take}
use Rattle.share.specs.Rule.{total}
use Rattle.resource.specs.Payers.{Light, first_weights}
use Rattle.resource.specs.Pools.{payers_of, standing_of}
use Rattle.share.specs.declared.units.Dollars.{Dollars}
use Rattle.resource.specs.declared.pool.Pool.{Pool}

pub light-total : (ws : List ℕ) → Light ws → length ws ≤ 32 → total ws ≤ 3200000000
light-total ws light few =
    let most = sum_by-le (λ x. x) 100000000 ws (All-from_get_or (λ x. x ≤ 100000000) ws 0 light) in
    omega arith

pub front-total : (n : ℕ) (ws : List Dollars) → n ≤ 32 → Light (first_weights n ws) → total (first_weights n ws) ≤ 3200000000
front-total n ws few light =
    let short : length (first_weights n ws) ≤ 32 = simp (length-map, length-take) (omega arith) in
    light-total (first_weights n ws) light short

-- the sum of a pool's weights, and what stands of it
pub pool-total : (p : Pool) → total (payers_of p) ≤ 3200000000
pool-total p = front-total p.count p.weights p.few p.light

pub pool-covered : (p : Pool) → standing_of p ≤ total (payers_of p)
pool-covered p = omega (arith, p.summed, p.covered)
