-- The weights of a pool: what its limits give, and how a write-off lowers them. Assumes nothing.
use Rattle.std.specs.Prelude.{◌≡◌, ℕ, ◌+◌, ◌-◌, ◌<◌, ◌≤◌, false, List, [], ◌∷◌, ◌++◌, map, length, get_or, take, drop, nat_lt, slice_index, slice_set}
use Rattle.std.proofs.Common.{sym, ap, ◌∙◌, zero-add, arith}
use Rattle.std.specs.List.{range_with_len}
use Rattle.std.proofs.lemmas.List.FromFn.{length-map-range_with_len, get_or-map-range_with_len, map-range_with_len_more}
use Rattle.std.proofs.lemmas.List.{length-map, length-take, take_all, take_more_set, map-set, get_or-map, get_or-take, get_or-drop, drop-drop, drop-set-lt}
use Rattle.std.proofs.Math.Seq.{take-append_seam}
use Rattle.std.proofs.lemmas.List.Folds.{list_any_none, list_any_at}
use Rattle.std.proofs.lemmas.List.Elements.{All-from_get_or}
use Rattle.std.proofs.lemmas.Bool.Decides.{nat_tests}
use Rattle.std.proofs.lemmas.Bool.{le-ltb}
use Rattle.share.specs.Rule.{left_of, lowered}
use Rattle.resource.specs.Payers.{Light, heavy, most_weight, pool_refusal, worth, weights_of, first_weights}
use Rattle.share.proofs.Shares.{adds_up_within, within-weight, near, nothing, lowers}
use Rattle.resource.specs.Pools.{payers_of, standing_of, payer_refusal, PoolLaw}
use Rattle.resource.specs.Totals.{pool-covered}
use Rattle.resource.specs.declared.pool.Pool.{Pool}
use Rattle.share.specs.declared.units.Dollars.{Dollars}

pub lowered-light : (a : ℕ) (ws : List ℕ) → Light ws → Light (lowered a ws)
lowered-light a ws light k h =
    let short : k < length ws = rw length-map-range_with_len at h in
    let is = get_or-map-range_with_len (left_of a ws) 0 (length ws) k k 0 short (zero-add k) in
    omega (arith, light k short)

-- each weight lowered: one more
pub lowered-more : (rest : List Dollars) (d : Dollars) (f : ℕ → ℕ) (i : ℕ) → i < length rest → d.0 ≡ f i →
    take i (weights_of rest) ≡ map f (range_with_len 0 i) → take (i + 1) (weights_of (slice_set rest i d)) ≡ map f (range_with_len 0 (i + 1))
lowered-more rest d f i h new before =
    let long : i < length (weights_of rest) = simp length-map (omega arith) in
    ap (take (i + 1)) (map-set worth rest i d)
    ∙ take_more_set (weights_of rest) i d.0 long
    ∙ ap (λ t. t ++ (d.0 ∷ [])) before
    ∙ ap (λ x. map f (range_with_len 0 i) ++ (x ∷ [])) new
    ∙ sym (map-range_with_len_more f 0 i i (zero-add i))

-- weights that pass the test are light, and light ones pass it
pub heavy-light : (ws : List ℕ) → heavy ws ≡ false → Light ws
heavy-light ws h k in' = grind (arith, nat_tests, list_any_at (nat_lt most_weight) ws k 0 in')

pub light-heavy : (ws : List ℕ) → Light ws → heavy ws ≡ false
light-heavy ws light = list_any_none (nat_lt most_weight) ws (All-from_get_or (λ w. nat_lt most_weight w ≡ false) ws 0 (λ k in'. le-ltb most_weight (slice_index ws k) (light k in')))

-- a pool has as many weights as payers
pub length-taken : (p : Pool) → length (take p.count p.weights) ≡ p.count
length-taken p = simp length-take (omega (arith, p.few, p.whole))

pub length-payers : (p : Pool) → length (payers_of p) ≡ p.count
length-payers p = length-map (take p.count p.weights) worth ∙ length-taken p

-- a weight of a pool, as the array has it
pub get_or-front : (n : ℕ) (ws : List Dollars) (i : ℕ) → i < n → n ≤ length ws → slice_index (first_weights n ws) i ≡ (get_or ws i (record { 0 = 0 })).0
get_or-front n ws i h long =
    let inside : i < length (take n ws) = simp length-take (omega arith) in
    get_or-map worth (take n ws) i (record { 0 = 0 }) 0 inside ∙ ap worth (get_or-take n ws i (record { 0 = 0 }) h)

-- which pools are taken
pub light-taken : (ws : List ℕ) → 0 < length ws → length ws ≤ 32 → heavy ws ≡ false → pool_refusal ws ≡ 0
light-taken ws some few h = grind (arith, nat_tests)

-- a payer that a pool has
pub payer-within : (count n : ℕ) → payer_refusal count n ≡ 0 → n - 1 < count
payer-within count n h = grind (arith, nat_tests)

-- the laws of a pool
pub pool-law : (p : Pool) → PoolLaw (standing_of p) (payers_of p)
pool-law p = record {
  in_full = adds_up_within (standing_of p) (payers_of p) (pool-covered p);
  within = λ i h. within-weight (standing_of p) (payers_of p) i h (pool-covered p);
  near = λ i h pos. near (standing_of p) (payers_of p) i h pos;
  none = λ i h. nothing (standing_of p) (payers_of p) i h;
  written_off = lowers (standing_of p) (payers_of p) (pool-covered p);
}

-- weights from a place on that are as they were: the one at the place, and those behind it once it is written
pub weight-ahead : (ds : List Dollars) (ws : List ℕ) (i : ℕ) → i < length ds → drop i (weights_of ds) ≡ drop i ws → (get_or ds i (record { 0 = 0 })).0 ≡ slice_index ws i
weight-ahead ds ws i inside same =
    let first : slice_index (weights_of ds) i ≡ slice_index ws i = grind (arith, get_or-drop i (weights_of ds) 0 0, get_or-drop i ws 0 0) in
    sym (get_or-map worth ds i (record { 0 = 0 }) 0 inside) ∙ first

pub weights-behind : (ds : List Dollars) (ws : List ℕ) (i : ℕ) (d : Dollars) → drop i (weights_of ds) ≡ drop i ws → drop (i + 1) (weights_of (slice_set ds i d)) ≡ drop (i + 1) ws
weights-behind ds ws i d same =
    ap (drop (i + 1)) (map-set worth ds i d)
    ∙ drop-set-lt (i + 1) (weights_of ds) i d.0 (omega arith)
    ∙ sym (drop-drop 1 i (weights_of ds))
    ∙ ap (drop 1) same
    ∙ drop-drop 1 i ws

-- the weights that are left by a write-off, once each is lowered
pub lowered-all : (p : Pool) (ds rest : List Dollars) (i : ℕ) → length ds ≡ p.count → i ≡ p.count →
    take i (weights_of ds) ≡ map (left_of (standing_of p) (payers_of p)) (range_with_len 0 i) → first_weights p.count (ds ++ rest) ≡ lowered (standing_of p) (payers_of p)
lowered-all p ds rest i long end done =
    ap (λ n. first_weights n (ds ++ rest)) (sym long)
    ∙ ap weights_of (take-append_seam ds rest)
    ∙ sym (take_all i (weights_of ds) (omega (arith, length-map ds worth)))
    ∙ done
    ∙ ap (λ n. map (left_of (standing_of p) (payers_of p)) (range_with_len 0 n)) (end ∙ sym (length-payers p))
