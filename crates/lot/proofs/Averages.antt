-- The average of the best parts: where there is one, and that it is the greatest worth of as many parts, divided and rounded down. Assumes nothing.
use Rattle.std.proofs.Common.{◌≡◌, ℕ, suc, ◌+◌, ◌-◌, ◌<◌, ◌≤◌, Bool, true, false, cond, ◌&&◌, List, [], ◌∷◌, map, length, get_or, ℤ, pos, ◌+ℤ◌, ◌*ℤ◌, ◌≤ℤ◌, ◌<ℤ◌, is_some, Some, None, Option, refl, ap, ◌∙◌, subst, arith}
use lib.Signed.{le_z, lt_z}
use Rattle.std.proofs.lemmas.Int.{ints}
use Rattle.std.proofs.lemmas.List.Sums.{sum_by-cons}
use Rattle.std.proofs.lemmas.Bool.{and_parts}
use Rattle.share.specs.Rule.{total}
use Rattle.lot.specs.Bids.{standard_of, offered}
use Rattle.lot.specs.Price.{reached}
use Rattle.lot.specs.Allocation.{above, tied, all_above, plus, down_to}
use Rattle.lot.specs.Average.{floor, worth_above, all_worth_above, worth_down_to, average_from, average, Choice, worth, Best, AverageLaw}
use Rattle.lot.specs.declared.bid.Bid.{Bid}
use Rattle.lot.specs.declared.bid.Price.{Price}
use Rattle.lot.specs.declared.bid.Whose.{Whose}
use Rattle.lot.proofs.Allotting.{tied_shares, length-tied_shares, length-down_to, above-few, total-tied_shares, tied_shares-within, down_to-sum, down_to-within}
use Rattle.lot.proofs.Prices.{reached_offered}
use Rattle.lot.proofs.Products.{times-mono, times-add, folded-cons, floor-below, floor-near}

-- k of a bid's n parts at its price x are worth at most k parts at q and, where x is above q, the difference for n parts
exchange : (v : Bool) (q x : ℤ) (n k : ℕ) → k ≤ cond v n 0 →
    ((x *ℤ pos k) +ℤ (q *ℤ pos (cond (v && lt_z q x) n 0))) ≤ℤ ((q *ℤ pos k) +ℤ (x *ℤ pos (cond (v && lt_z q x) n 0)))
exchange false q x n k h = let none : k ≡ 0 = omega arith in rw none (omega (arith, ints))
exchange true q x n k h = by (lt_z q x) refl
  where
    by : (t : Bool) → lt_z q x ≡ t → ((x *ℤ pos k) +ℤ (q *ℤ pos (cond t n 0))) ≤ℤ ((q *ℤ pos k) +ℤ (x *ℤ pos (cond t n 0)))
    by true e =
        let more : n ≡ k + (n - k) = omega arith in
        let less : q ≤ℤ x = omega (arith, ints) in
        omega (arith, ints, ap (λ i. q *ℤ pos i) more, ap (λ i. x *ℤ pos i) more, times-mono q x (n - k) less)
    by false e =
        let less : x ≤ℤ q = omega (arith, ints) in
        omega (arith, ints, times-mono x q k less)

-- parts of a bid at q are worth q each
tied-worth : (v : Bool) (q x : ℤ) (n k : ℕ) → k ≤ cond (v && (le_z q x && le_z x q)) n 0 → x *ℤ pos k ≡ q *ℤ pos k
tied-worth v q x n k h = by (v && (le_z q x && le_z x q)) refl h
  where
    by : (t : Bool) → (v && (le_z q x && le_z x q)) ≡ t → k ≤ cond t n 0 → x *ℤ pos k ≡ q *ℤ pos k
    by true e h =
        let both = and_parts (le_z q x) (le_z x q) (and_parts v _ e).1 in
        let low = both.0 in
        let high = both.1 in
        ap (λ z. z *ℤ pos k) (omega (arith, ints))
    by false e h = let none : k ≡ 0 = omega arith in rw none (omega (arith, ints))

module _ (w : Whose) (q : Price) where
  all_worth_above-cons : (b : Bid) (bs : List Bid) → all_worth_above w q (b ∷ bs) ≡ worth_above w q b +ℤ all_worth_above w q bs
  all_worth_above-cons = folded-cons (worth_above w q)

  all_above-cons : (b : Bid) (bs : List Bid) → q.0 *ℤ pos (all_above w q (b ∷ bs)) ≡ (q.0 *ℤ pos (above w q b)) +ℤ (q.0 *ℤ pos (all_above w q bs))
  all_above-cons b bs = ap (λ n. q.0 *ℤ pos n) (sum_by-cons (above w q) b bs) ∙ times-add q.0 (above w q b) (all_above w q bs)

  total-cons : (k : ℕ) (ks : List ℕ) → q.0 *ℤ pos (total (k ∷ ks)) ≡ (q.0 *ℤ pos k) +ℤ (q.0 *ℤ pos (total ks))
  total-cons k ks = ap (λ n. q.0 *ℤ pos n) (sum_by-cons (λ n. n) k ks) ∙ times-add q.0 k (total ks)

  -- a choice is worth at most as many parts at q and, for all parts above q, the difference
  choice-worth : (bs : List Bid) (ks : List ℕ) → Choice w bs ks →
      (worth bs ks +ℤ (q.0 *ℤ pos (all_above w q bs))) ≤ℤ ((q.0 *ℤ pos (total ks)) +ℤ all_worth_above w q bs)
  choice-worth [] [] c = omega (arith, ints)
  choice-worth [] (k ∷ ks) c = absurd c
  choice-worth (b ∷ bs) [] c = absurd c
  choice-worth (b ∷ bs) (k ∷ ks) c = omega (
    arith,
    ints,
    all_worth_above-cons b bs,
    all_above-cons b bs,
    total-cons k ks,
    exchange (standard_of w b) q.0 b.price.0 b.size.0 k c.0,
    choice-worth bs ks c.1,
  )

  -- parts of the bids at q, added to all parts above it
  worth-plus : (bs : List Bid) (ks : List ℕ) → length ks ≡ length bs → ((i : ℕ) → get_or ks i 0 ≤ get_or (map (tied w q) bs) i 0) →
      worth bs (plus (map (above w q) bs) ks) ≡ all_worth_above w q bs +ℤ (q.0 *ℤ pos (total ks))
  worth-plus [] [] e h = omega (arith, ints)
  worth-plus [] (k ∷ ks) e h = absurd (omega arith)
  worth-plus (b ∷ bs) [] e h = absurd (omega arith)
  worth-plus (b ∷ bs) (k ∷ ks) e h = omega (
    arith,
    ints,
    all_worth_above-cons b bs,
    total-cons k ks,
    times-add b.price.0 (above w q b) k,
    tied-worth (standard_of w b) q.0 b.price.0 b.size.0 k (h 0),
    worth-plus bs ks (omega arith) (λ i. h (suc i)),
  )

choice-from : (w : Whose) (bs : List Bid) (ks : List ℕ) → length ks ≡ length bs → ((i : ℕ) → get_or ks i 0 ≤ get_or (map (offered w) bs) i 0) → Choice w bs ks
choice-from w [] [] e h = tt
choice-from w [] (k ∷ ks) e h = absurd (omega arith)
choice-from w (b ∷ bs) [] e h = absurd (omega arith)
choice-from w (b ∷ bs) (k ∷ ks) e h = (h 0, choice-from w bs ks (omega arith) (λ i. h (suc i)))

module _ (w : Whose) (m : ℕ) (bs : List Bid) (some : 0 < m) where
  -- the parts down to the price where the bids reach m are the best
  pub worth_down_to-best : (q : Price) → reached w m bs ≡ Some q → Best w m bs (worth_down_to w m bs q)
  worth_down_to-best q e = record {
    attained = (
      down_to w m q bs,
      choice-from w bs (down_to w m q bs) (length-down_to w m q bs) (down_to-within w m q bs e some),
      down_to-sum w m q bs e some,
      worth-plus w q bs (tied_shares w m q bs) (length-tied_shares w m q bs) (tied_shares-within w m q bs e some)
          ∙ ap (λ n. all_worth_above w q bs +ℤ (q.0 *ℤ pos n)) (total-tied_shares w m q bs e some),
    );
    greatest_one = λ ks c is.
        let few = above-few w m q bs e some in
        let split : total ks ≡ (m - all_above w q bs) + all_above w q bs = omega arith in
        let parts = ap (λ n. q.0 *ℤ pos n) split ∙ times-add q.0 (m - all_above w q bs) (all_above w q bs) in
        omega (arith, ints, choice-worth w q bs ks c);
  }

  averaged-where-reached : (o : Option Price) → is_some (average_from w m bs o) ≡ is_some o
  averaged-where-reached None = refl
  averaged-where-reached (Some q) = refl

  pub average-law : AverageLaw w m bs (average w m bs)
  average-law = record {
    counts = averaged-where-reached (reached w m bs) ∙ reached_offered w m bs some;
    rounded = λ a e. by a (reached w m bs) refl e;
  }
    where
      by : (a : Price) (o : Option Price) → reached w m bs ≡ o → average_from w m bs o ≡ Some a →
          (z : ℤ) × Best w m bs z × ((a.0 *ℤ pos m) ≤ℤ z) × (z <ℤ ((a.0 +ℤ pos 1) *ℤ pos m))
      by a None r e = let z : ◌≡◌ {A = ℕ} 0 1 = cc in absurd (omega arith)
      by a (Some q) r e =
          let z = worth_down_to w m bs q in
          let same : ◌≡◌ {A = Price} (record { 0 = floor z m }) a = cc in (
            z,
            worth_down_to-best q r,
            subst (λ (p : Price). (p.0 *ℤ pos m) ≤ℤ z) same (floor-below m some z),
            subst (λ (p : Price). z <ℤ ((p.0 +ℤ pos 1) *ℤ pos m)) same (floor-near m some z),
          )
