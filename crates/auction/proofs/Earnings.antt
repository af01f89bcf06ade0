-- The parts of an amount by what its member earned in each lot. Assumes nothing.
use Rattle.std.proofs.Common.{◌≡◌, ℕ, zero, suc, ◌+◌, ◌<◌, ◌≤◌, false, cond, List, [], ◌∷◌, map, length, get_or, take, None, Option, sym, refl, ap, ◌∙◌, ap₂, arith}
use Rattle.std.proofs.lemmas.List.FromFn.{get_or-map-range_with_len}
use Rattle.std.proofs.lemmas.List.{length-map, take_all}
use Rattle.share.specs.Rule.{total, share_of, limit}
use Rattle.auction.specs.Auctions.{listings_of}
use Rattle.auction.specs.Earning.{earned_of, some_silent, senior_by, subordinate_by, over_earned, tiers_by}
use Rattle.auction.specs.Counting.{silent}
use Rattle.auction.specs.Filling.{tiers_of}
use Rattle.auction.specs.Lots.{Listing, listing_of, unlisted, price_in, weight_in}
use Rattle.auction.specs.Weights.{lot_weights, lot_amounts, over_lots}
use Rattle.auction.specs.declared.auction.Auction.{Auction}
use Rattle.auction.specs.declared.earned.Earned.{Earned}
use Rattle.auction.specs.declared.filling.Tiers.{Tiers}
use Rattle.auction.specs.declared.lots.Lot.{Lot}
use Rattle.auction.specs.declared.member.Member.{Member}
use Rattle.auction.proofs.Tallies.{silent-earned}
use Rattle.auction.proofs.Listings.{length-lots, length-listings}
use Rattle.auction.proofs.Parts.{total-cons, parts_at, shares-length, shares-at_most}

-- a part of the lot amounts of the first lots
abbrev pub so_far : (Listing → Earned → ℕ → ℕ) → List Listing → List Earned → ℕ → ℕ → ℕ
so_far part ls es amount i = over_earned part (take i ls) (take i es) (take i (lot_amounts ls amount))

-- one lot more
earned-more : (part : Listing → Earned → ℕ → ℕ) (ls : List Listing) (es : List Earned) (zs : List ℕ) (i : ℕ) (dl : Listing) (de : Earned) → i < length ls → length es ≡ length ls → length zs ≡ length ls →
    over_earned part (take (suc i) ls) (take (suc i) es) (take (suc i) zs) ≡ over_earned part (take i ls) (take i es) (take i zs) + part (get_or ls i dl) (get_or es i de) (get_or zs i 0)
earned-more part [] es zs i dl de h e z = absurd (omega arith)
earned-more part (l ∷ ls) [] zs i dl de h e z = absurd (omega arith)
earned-more part (l ∷ ls) (x ∷ es) [] i dl de h e z = absurd (omega arith)
earned-more part (l ∷ ls) (x ∷ es) (a ∷ zs) zero dl de h e z = omega arith
earned-more part (l ∷ ls) (x ∷ es) (a ∷ zs) (suc i) dl de h e z = omega (arith, earned-more part ls es zs i dl de (omega arith) (omega arith) (omega arith))

module _ (part : Listing → Earned → ℕ → ℕ) (ls : List Listing) (es : List Earned) (amount : ℕ) (same : length es ≡ length ls) where
  amounts-length : length (lot_amounts ls amount) ≡ length ls
  amounts-length = shares-length amount (lot_weights ls) ∙ length-map ls (λ (l : Listing). l.terms.weight)

  pub so_far_more : (i : ℕ) (dl : Listing) (de : Earned) → i < length ls → so_far part ls es amount (i + 1) ≡ so_far part ls es amount i + part (get_or ls i dl) (get_or es i de) (get_or (lot_amounts ls amount) i 0)
  so_far_more i dl de h =
      let next : i + 1 ≡ suc i = omega arith in
      ap (so_far part ls es amount) next ∙ earned-more part ls es (lot_amounts ls amount) i dl de h same amounts-length

  pub so_far-all : (i : ℕ) → length ls ≤ i → so_far part ls es amount i ≡ over_earned part ls es (lot_amounts ls amount)
  so_far-all i h =
      ap (λ xs. over_earned part xs (take i es) (take i (lot_amounts ls amount))) (take_all i ls h)
      ∙ ap (λ xs. over_earned part ls xs (take i (lot_amounts ls amount))) (take_all i es (omega (arith, same, h)))
      ∙ ap (over_earned part ls es) (take_all i (lot_amounts ls amount) (omega (arith, amounts-length, h)))

-- the parts of the first lots come to no more than the amount
parts-bounded : (ls : List Listing) (es : List Earned) (zs : List ℕ) → over_earned subordinate_by ls es zs + over_earned senior_by ls es zs ≤ total zs
parts-bounded [] es zs = omega arith
parts-bounded (l ∷ ls) [] zs = omega arith
parts-bounded (l ∷ ls) (e ∷ es) [] = omega arith
parts-bounded (l ∷ ls) (e ∷ es) (z ∷ zs) =
    omega (arith, parts_at (price_in l) l.terms.pri e.requirement.0 e.bp z, parts-bounded ls es zs, total-cons z zs)

total-take : (zs : List ℕ) (i : ℕ) → total (take i zs) ≤ total zs
total-take [] zero = omega arith
total-take [] (suc i) = omega arith
total-take (z ∷ zs) zero = omega arith
total-take (z ∷ zs) (suc i) = omega (arith, total-cons z (take i zs), total-cons z zs, total-take zs i)

pub so_far-bounded : (ls : List Listing) (es : List Earned) (amount i : ℕ) → so_far subordinate_by ls es amount i + so_far senior_by ls es amount i ≤ amount
so_far-bounded ls es amount i =
    omega (arith, parts-bounded (take i ls) (take i es) (take i (lot_amounts ls amount)), total-take (lot_amounts ls amount) i, shares-at_most amount (lot_weights ls))

-- by what a member earned, or by its requirement and BP
pub over-same : (r : List (Option Member)) (m : ℕ) (part : Listing → Earned → ℕ → ℕ) (ls : List Listing) (zs : List ℕ) → over_earned part ls (map (earned_of r m) ls) zs ≡ over_lots (λ l a. part l (earned_of r m l) a) ls zs
over-same r m part [] zs = refl
over-same r m part (l ∷ ls) [] = refl
over-same r m part (l ∷ ls) (z ∷ zs) = ap (λ n. part l (earned_of r m l) z + n) (over-same r m part ls zs)

-- the weights of the lots
weights-lots : (ls : List Lot) → map weight_in ls ≡ lot_weights (map listing_of ls)
weights-lots [] = refl
weights-lots (l ∷ ls) = ap (λ ws. weight_in l ∷ ws) (weights-lots ls)

module _ (a : Auction) (ls : List Lot) (same : map listing_of ls ≡ listings_of a) where
  pub weights-same : map weight_in ls ≡ lot_weights (listings_of a)
  weights-same = weights-lots ls ∙ ap lot_weights same

  pub weights-within : total (map weight_in ls) ≤ limit
  weights-within = omega (arith, ap total weights-same, a.shared)

  pub own-amount : (amount i : ℕ) → i < length ls → share_of amount (map weight_in ls) i ≡ get_or (lot_amounts (listings_of a) amount) i 0
  own-amount amount i h =
      let ws = lot_weights (listings_of a) in
      ap (λ ws. share_of amount ws i) weights-same
      ∙ sym (get_or-map-range_with_len (share_of amount ws) 0 (length ws) i i 0 (omega (arith, h, length-map (listings_of a) (λ (l : Listing). l.terms.weight), length-listings a, length-lots a ls same)) (omega arith))

-- where nothing was worked out yet
abbrev pub no_earning : Earned
no_earning = record { requirement = record { 0 = 0 }; bp = None }

-- one lot more in the loop over the lots
module _ (ls : List Listing) (es : List Earned) (amount i s t x y : ℕ) (same : length es ≡ length ls) (h : i < length ls) where
  step-lot : (part : Listing → Earned → ℕ → ℕ) (n z : ℕ) → n ≡ so_far part ls es amount i → z ≡ part (get_or ls i unlisted) (get_or es i no_earning) (get_or (lot_amounts ls amount) i 0) → n + z ≡ so_far part ls es amount (i + 1)
  step-lot part n z e f = omega (arith, e, f, so_far_more part ls es amount same i unlisted no_earning h)

  pub step : s ≡ so_far subordinate_by ls es amount i → t ≡ so_far senior_by ls es amount i →
      x ≡ subordinate_by (get_or ls i unlisted) (get_or es i no_earning) (get_or (lot_amounts ls amount) i 0) →
      y ≡ senior_by (get_or ls i unlisted) (get_or es i no_earning) (get_or (lot_amounts ls amount) i 0) →
      (s + x ≡ so_far subordinate_by ls es amount (i + 1)) × (t + y ≡ so_far senior_by ls es amount (i + 1)) × (s + x ≤ amount) × (t + y ≤ amount)
  step es-is et-is ex-is ey-is =
      let down = step-lot subordinate_by s x es-is ex-is in
      let up = step-lot senior_by t y et-is ey-is in
      let all = so_far-bounded ls es amount (i + 1) in
      (down, up, omega (arith, down, all), omega (arith, up, all))

-- all of an amount by its tiers, where its member is not Non-bidding
abbrev tiers : ℕ → ℕ → ℕ → Tiers
tiers x y z = record { first = record { 0 = x }; second = record { 0 = y }; third = record { 0 = z } }

pub tiers-is : (ls : List Listing) (es : List Earned) (amount x y z : ℕ) → false ≡ some_silent es → x ≡ 0 → y ≡ over_earned subordinate_by ls es (lot_amounts ls amount) → z ≡ over_earned senior_by ls es (lot_amounts ls amount) →
    tiers x y z ≡ tiers_by ls es amount
tiers-is ls es amount x y z v ex ey ez =
    let all = lot_amounts ls amount in
    ap (λ n. tiers n y z) ex ∙ ap (λ n. tiers 0 n z) ey ∙ ap (λ n. tiers 0 (over_earned subordinate_by ls es all) n) ez
    ∙ ap (λ b. tiers (cond b amount 0) (cond b 0 (over_earned subordinate_by ls es all)) (cond b 0 (over_earned senior_by ls es all))) v

-- by what a member earned in the lots, or by the lots
pub tiers-earned : (r : List (Option Member)) (m : ℕ) (ls : List Listing) (amount : ℕ) → tiers_by ls (map (earned_of r m) ls) amount ≡ tiers_of r ls m amount
tiers-earned r m ls amount =
    let es = map (earned_of r m) ls in
    let all = lot_amounts ls amount in
    ap (λ b. tiers (cond b amount 0) (cond b 0 (over_earned subordinate_by ls es all)) (cond b 0 (over_earned senior_by ls es all))) (silent-earned r m ls)
    ∙ ap₂ (λ x y. tiers (cond (silent r m ls) amount 0) (cond (silent r m ls) 0 x) (cond (silent r m ls) 0 y)) (over-same r m subordinate_by ls all) (over-same r m senior_by ls all)
