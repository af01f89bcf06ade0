-- A member's weights in the seats of an amount: what they add up to. Assumes nothing.
use Rattle.std.proofs.Common.{◌≡◌, ℕ, ◌+◌, ◌-◌, ◌<◌, ◌≤◌, Bool, true, false, cond, eqb, List, [], ◌∷◌, length, get_or, ◌-ℤ◌, Some, None, Option, refl, ap, ◌∙◌, inl, inr, arith}
use native.Mathlib.Nat.{div-zero}
use Rattle.std.proofs.lemmas.List.FromFn.{length-map-range_with_len, get_or-map-range_with_len}
use Rattle.std.proofs.lemmas.List.{length-map, get_or_past}
use Rattle.std.proofs.lemmas.List.Sums.{sum_by-cons}
use Rattle.std.proofs.lemmas.Bool.{cases_lt, cond_both}
use Rattle.share.specs.Rule.{total, upto, shares_of}
use Rattle.share.proofs.Shares.{adds_up, shares-upto}
use Rattle.lot.specs.Class.{natural, subordinate_threshold, by_price, by_class, split_part, senior_part}
use Rattle.lot.specs.Price.{lot_price}
use Rattle.lot.specs.declared.bid.Price.{Price}
use Rattle.lot.specs.declared.class.Class.{Class}
use Rattle.lot.specs.declared.class.Class.TheVariants.{Senior, Split, Subordinate, Excused, NonBidding}
use Rattle.lot.proofs.Splits.{part-at_most, distance-small}
use Rattle.auction.specs.Classes.{senior_at, subordinate_at, unsold_at, senior_in, subordinate_in, unsold_in}
use Rattle.auction.specs.Counting.{silent, bp_of}
use Rattle.auction.specs.Laws.{all_weights, in_failed_lots, in_no_seat, WeightLaw}
use Rattle.auction.specs.Lots.{Listing}
use Rattle.auction.specs.Requirements.{requirement_of}
use Rattle.auction.specs.Roster.{place}
use Rattle.auction.specs.Weights.{lot_weights, lot_amounts, over_lots, first_weight, second_weight, third_weight, each_weight}
use Rattle.auction.specs.declared.member.Member.{Member}

-- the senior part by class, where a Split's is within the amount
by_class-at_most : (c : Class) (part x : ℕ) → (c ≡ Split → part ≤ x) → by_class c part x ≤ x
by_class-at_most Senior part x h = omega arith
by_class-at_most Split part x h = h refl
by_class-at_most Subordinate part x h = omega arith
by_class-at_most Excused part x h = omega arith
by_class-at_most NonBidding part x h = omega arith

-- the senior part of an amount is within it
senior_at-most : (p : Price) (pri requirement : ℕ) (bp : Option Price) (x : ℕ) → senior_part p pri requirement bp x ≤ x
senior_at-most p pri requirement None x = cond_both (eqb requirement 0) Excused NonBidding (λ c. by_class c 0 x ≤ x) (λ _. omega arith) (λ _. omega arith)
senior_at-most p pri requirement (Some bp) x =
    by_class-at_most (by_price p.0 pri bp.0) (split_part p pri (Some bp) x) x
    (λ e. part-at_most x (natural (bp.0 -ℤ subordinate_threshold p.0 pri)) pri (distance-small p.0 pri bp.0 e))

-- the senior part, the subordinate part and what is in a failed lot are all of a lot amount
pub parts_at : (o : Option Price) (pri requirement : ℕ) (bp : Option Price) (x : ℕ) → subordinate_at o pri requirement bp x + senior_at o pri requirement bp x + unsold_at o x ≡ x
parts_at None pri requirement bp x = omega arith
parts_at (Some p) pri requirement bp x = omega (arith, senior_at-most p pri requirement bp x)

sold-at : (o : Option Price) (p : Price) (pri requirement : ℕ) (bp : Option Price) (x : ℕ) → o ≡ Some p → senior_at o pri requirement bp x + subordinate_at o pri requirement bp x ≡ x
sold-at None p pri requirement bp x e = let z : ◌≡◌ {A = ℕ} 0 1 = cc in absurd (omega arith)
sold-at (Some q) p pri requirement bp x e = omega (arith, senior_at-most q pri requirement bp x)

pub total-cons : (x : ℕ) (xs : List ℕ) → total (x ∷ xs) ≡ x + total xs
total-cons x xs = sum_by-cons (λ n. n) x xs

module _ (r : List (Option Member)) (m : ℕ) where
  parts-over : (ls : List Listing) (zs : List ℕ) → length zs ≡ length ls → over_lots (subordinate_in r m) ls zs + over_lots (senior_in r m) ls zs + over_lots unsold_in ls zs ≡ total zs
  parts-over [] [] e = refl
  parts-over [] (z ∷ zs) e = absurd (omega arith)
  parts-over (l ∷ ls) [] e = absurd (omega arith)
  parts-over (l ∷ ls) (z ∷ zs) e =
      omega (arith, parts_at (lot_price l.bids) l.terms.pri (requirement_of r l m) (bp_of r l m) z, parts-over ls zs (omega arith), total-cons z zs)

-- shares are as many as the weights, and never come to more than the amount
pub shares-length : (a : ℕ) (ws : List ℕ) → length (shares_of a ws) ≡ length ws
shares-length a ws = simp length-map-range_with_len

pub shares-at_most : (a : ℕ) (ws : List ℕ) → total (shares_of a ws) ≤ a
shares-at_most a ws = elim (cases_lt 0 (total ws)) [
  | inl some ↦ omega (arith, adds_up a ws some)
  | inr none ↦
      let z : total ws ≡ 0 = omega arith in
      let zero-upto : upto a ws (length ws) ≡ 0 = simp (z, div-zero) in
      omega (arith, shares-upto a ws (length ws))
]

module _ (r : List (Option Member)) (ls : List Listing) (m x : ℕ) where
  amounts-over : over_lots (subordinate_in r m) ls (lot_amounts ls x) + over_lots (senior_in r m) ls (lot_amounts ls x) + in_failed_lots ls x ≡ total (lot_amounts ls x)
  amounts-over = parts-over r m ls (lot_amounts ls x) (shares-length x (lot_weights ls) ∙ length-map ls (λ l. l.terms.weight))

  all-silent : (v : Bool) → v ≡ true → cond v x 0 + (cond v 0 (over_lots (subordinate_in r m) ls (lot_amounts ls x)) + cond v 0 (over_lots (senior_in r m) ls (lot_amounts ls x))) ≡ x
  all-silent true e = omega arith
  all-silent false e = let z : ◌≡◌ {A = ℕ} 0 1 = cc in absurd (omega arith)

  all-bidding : (v : Bool) → v ≡ false →
      cond v x 0 + (cond v 0 (over_lots (subordinate_in r m) ls (lot_amounts ls x)) + cond v 0 (over_lots (senior_in r m) ls (lot_amounts ls x))) + in_failed_lots ls x ≡ total (lot_amounts ls x)
  all-bidding true e = let z : ◌≡◌ {A = ℕ} 0 1 = cc in absurd (omega arith)
  all-bidding false e = omega (arith, amounts-over)

  -- a member's weights are never above the amount together
  pub weights_in : all_weights r ls m x ≤ x
  weights_in = go (silent r m ls)
    where
      go : (v : Bool) → cond v x 0 + (cond v 0 (over_lots (subordinate_in r m) ls (lot_amounts ls x)) + cond v 0 (over_lots (senior_in r m) ls (lot_amounts ls x))) ≤ x
      go true = omega arith
      go false = omega (arith, amounts-over, shares-at_most x (lot_weights ls))

pub weight-law : WeightLaw
weight-law = record {
  sold = λ r m l p x e. sold-at (lot_price l.bids) p l.terms.pri (requirement_of r l m) (bp_of r l m) x e;
  lots = λ ls x some. adds_up x (lot_weights ls) some;
  non_bidding = λ r ls m x e. all-silent r ls m x (silent r m ls) e;
  bidding = λ r ls m x some e. all-bidding r ls m x (silent r m ls) e ∙ adds_up x (lot_weights ls) some;
  at_most = weights_in;
}

-- there is a weight for each place of the roster
pub length-weights : (weight : ℕ → ℕ → ℕ) (amount : Option Member → ℕ) (r : List (Option Member)) → length (each_weight weight amount r) ≡ length r
length-weights weight amount r = length-map-range_with_len (λ m. weight m (amount (place r m))) 1 (length r)

-- the weight at a place, counted from 0
weight-at : (weight : ℕ → ℕ → ℕ) (amount : Option Member → ℕ) (r : List (Option Member)) (i : ℕ) → i < length r → get_or (each_weight weight amount r) i 0 ≡ weight (1 + i) (amount (place r (1 + i)))
weight-at weight amount r i h = get_or-map-range_with_len (λ m. weight m (amount (place r m))) 1 (length r) i (1 + i) 0 h refl

-- what a member brings to the three pools of its fund or its assessment
pub weights-at_most : (r : List (Option Member)) (ls : List Listing) (amount : Option Member → ℕ) (i : ℕ) →
    get_or (each_weight (first_weight r ls) amount r) i 0 + (get_or (each_weight (second_weight r ls) amount r) i 0 + get_or (each_weight (third_weight r ls) amount r) i 0) ≤ amount (get_or r i None)
weights-at_most r ls amount i = elim (cases_lt i (length r)) [
  | inl h ↦
      let e : 1 + i - 1 ≡ i = omega arith in
      let same : amount (place r (1 + i)) ≡ amount (get_or r i None) = ap (λ j. amount (get_or r j None)) e in
      omega (arith, weight-at (first_weight r ls) amount r i h, weight-at (second_weight r ls) amount r i h, weight-at (third_weight r ls) amount r i h, weights_in r ls (1 + i) (amount (place r (1 + i))))
  | inr h ↦
      omega (
        arith,
        get_or_past (each_weight (first_weight r ls) amount r) i 0 (omega (arith, length-weights (first_weight r ls) amount r)),
        get_or_past (each_weight (second_weight r ls) amount r) i 0 (omega (arith, length-weights (second_weight r ls) amount r)),
        get_or_past (each_weight (third_weight r ls) amount r) i 0 (omega (arith, length-weights (third_weight r ls) amount r)),
      )
]

-- a member's weights and what is in no seat are the whole amount
weights-and-rest : (r : List (Option Member)) (ls : List Listing) (m x : ℕ) → 0 < total (lot_weights ls) → all_weights r ls m x + in_no_seat r ls m x ≡ x
weights-and-rest r ls m x some = go (silent r m ls) refl
  where
    go : (v : Bool) → silent r m ls ≡ v → all_weights r ls m x + cond v 0 (in_failed_lots ls x) ≡ x
    go true e = omega (arith, weight-law.non_bidding r ls m x e)
    go false e = omega (arith, weight-law.bidding r ls m x some e)

-- the same of the weights in the three pools of an amount, by a member's number
pub weights-whole : (r : List (Option Member)) (ls : List Listing) (amount : Option Member → ℕ) → 0 < total (lot_weights ls) → (m : ℕ) → 0 < m → m ≤ length r →
    get_or (each_weight (first_weight r ls) amount r) (m - 1) 0 + (get_or (each_weight (second_weight r ls) amount r) (m - 1) 0 + get_or (each_weight (third_weight r ls) amount r) (m - 1) 0) + in_no_seat r ls m (amount (place r m))
    ≡ amount (place r m)
weights-whole r ls amount some m low high =
    let e : 1 + (m - 1) ≡ m = omega arith in
    let h : m - 1 < length r = omega arith in
    omega (
      arith,
      weight-at (first_weight r ls) amount r (m - 1) h ∙ ap (λ k. first_weight r ls k (amount (place r k))) e,
      weight-at (second_weight r ls) amount r (m - 1) h ∙ ap (λ k. second_weight r ls k (amount (place r k))) e,
      weight-at (third_weight r ls) amount r (m - 1) h ∙ ap (λ k. third_weight r ls k (amount (place r k))) e,
      weights-and-rest r ls m (amount (place r m)) some,
    )
