-- The allocations of a lot: what they add up to, that no bid gets more than its size, and which bids are served. Assumes nothing.
use Rattle.std.proofs.Common.{◌≡◌, ℕ, zero, suc, ◌+◌, ◌-◌, ◌*◌, ◌<◌, ◌≤◌, Bool, true, false, cond, ◌&&◌, List, [], ◌∷◌, map, length, get_or, ℤ, pos, ◌+ℤ◌, ◌≤ℤ◌, ◌<ℤ◌, is_some, Some, Option, sym, refl, ap, ◌∙◌, ⊎_elim, arith}
use lib.Signed.{le_z, lt_z}
use Rattle.std.specs.List.{All}
use Rattle.std.proofs.lemmas.List.FromFn.{length-map-range_with_len, get_or-map-range_with_len}
use Rattle.std.proofs.lemmas.List.Elements.{All-nil, All-cons, All-head, All-tail, All-weaker, All-contains}
use Rattle.std.proofs.lemmas.List.{get_or-map, get_or_past, length-map}
use Rattle.std.proofs.lemmas.Int.{ints}
use Rattle.std.proofs.lemmas.List.Sums.{sum_by-cons, sum-map}
use Rattle.std.proofs.lemmas.Bool.{and_from, and_left, and_parts, and_right, both_ways, cases_lt, cond_both, cond-false, cond-true, not-true}
use Rattle.share.specs.Laws.{Within}
use Rattle.share.specs.Rule.{total, share_of, shares_of}
use Rattle.share.proofs.Shares.{adds_up_within, near, within-weight}
use Rattle.lot.specs.Bids.{whole, standard_of, all_or_nothing_of, offered, same_price}
use Rattle.lot.specs.Price.{at_or_better, demand, reached, all_or_nothing_price, lot_price, clearing}
use Rattle.lot.specs.Allocation.{above, tied, all_above, all_tied, plus, down_to, nothing, takes_all, first_takes, allotted, allocations, size_of, BidAt, sets_price, NoneBefore, AllocationLaw}
use Rattle.lot.specs.declared.bid.Bid.{Bid}
use Rattle.lot.specs.declared.bid.Price.{Price}
use Rattle.lot.specs.declared.bid.Whose.{Whose}
use Rattle.lot.specs.declared.bid.Whose.TheVariants.{Everyone}
use Rattle.lot.specs.declared.bids.price.Cleared.{Cleared}
use Rattle.lot.proofs.Taken.{Sized}
use Rattle.lot.proofs.Prices.{cond-and-le, greatest-found, reached_enough, reached_greatest, by-standard, by-all-or-nothing, failed, each-way}

-- nothing
total-nothing : (bs : List Bid) → total (nothing bs) ≡ 0
total-nothing [] = refl
total-nothing (b ∷ bs) = total-nothing bs

get_or-nothing : (bs : List Bid) (i : ℕ) → get_or (nothing bs) i 0 ≡ 0
get_or-nothing [] i = refl
get_or-nothing (b ∷ bs) zero = refl
get_or-nothing (b ∷ bs) (suc i) = get_or-nothing bs i

-- all to one
module _ (p : Price) where
  -- a bid takes all, or leaves it to those after it
  first_takes-both : (b : Bid) (bs : List Bid) (P : List ℕ → Type 0) → (takes_all p b ≡ true → P (whole ∷ nothing bs)) → (takes_all p b ≡ false → P (0 ∷ first_takes p bs)) → P (first_takes p (b ∷ bs))
  first_takes-both b bs = cond_both (takes_all p b) (whole ∷ nothing bs) (0 ∷ first_takes p bs)

  length-first_takes : (bs : List Bid) → length (first_takes p bs) ≡ length bs
  length-first_takes [] = refl
  length-first_takes (b ∷ bs) = first_takes-both b bs (λ ks. length ks ≡ suc (length bs))
      (λ _. ap suc (length-map bs (λ b. 0))) (λ _. ap suc (length-first_takes bs))

  total-taken : (bs : List Bid) → total (whole ∷ nothing bs) ≡ whole
  total-taken bs = omega (arith, sum_by-cons (λ n. n) whole (nothing bs), total-nothing bs)

  -- a bid that takes all, where such bids give away the whole lot
  abbrev Gives : List Bid → Bid → Type 0
  Gives bs b = takes_all p b ≡ true → total (first_takes p bs) ≡ whole

  all-total-first_takes : (bs : List Bid) → All (Gives bs) bs
  all-total-first_takes [] = All-nil (Gives [])
  all-total-first_takes (b ∷ bs) = All-cons (Gives (b ∷ bs)) b bs
      (λ takes. rw takes (total-taken bs))
      (All-weaker (Gives bs) (Gives (b ∷ bs)) (λ c later takes. first_takes-both b bs (λ ks. total ks ≡ whole)
      (λ _. total-taken bs) (λ _. later takes)) bs (all-total-first_takes bs))

  total-first_takes : (bs : List Bid) → all_or_nothing_price Everyone bs ≡ Some p → total (first_takes p bs) ≡ whole
  total-first_takes bs e =
      let it = greatest-found (all_or_nothing_of Everyone) bs p e in
      let same : same_price p it.bid.price ≡ true = rw it.priced (level p.0) in
      All-contains (Gives bs) bs it.bid (all-total-first_takes bs) it.among (and_from _ _ (and_parts _ _ it.passes).0 same)
    where
      level : (z : ℤ) → (le_z z z && le_z z z) ≡ true
      level z = grind (arith, ints)

  first_takes-within : (bs : List Bid) → All Sized bs → (i : ℕ) → get_or (first_takes p bs) i 0 ≤ get_or (map size_of bs) i 0
  first_takes-within [] sized i = omega arith
  first_takes-within (b ∷ bs) sized zero = first_takes-both b bs (λ ks. get_or ks 0 0 ≤ size_of b)
      (λ takes. omega (arith, All-head Sized b bs sized (not-true _ (and_parts _ _ takes).0))) (λ _. omega arith)
  first_takes-within (b ∷ bs) sized (suc i) = first_takes-both b bs (λ ks. get_or ks (suc i) 0 ≤ get_or (map size_of bs) i 0)
      (λ _. omega (arith, get_or-nothing bs i)) (λ _. first_takes-within bs (All-tail Sized b bs sized) i)

  none-before-more : (a : Bid) (bs : List Bid) (i : ℕ) → takes_all p a ≡ false → NoneBefore p bs i → NoneBefore p (a ∷ bs) (suc i)
  none-before-more a bs i passed none zero c early here = ap (takes_all p) here.1 ∙ passed
  none-before-more a bs i passed none (suc k) c early here = none k c (omega arith) (omega (arith, here.0), here.1)

  first_takes-earliest : (bs : List Bid) (i : ℕ) (b : Bid) → BidAt bs i b → 0 < get_or (first_takes p bs) i 0 → (takes_all p b ≡ true) × NoneBefore p bs i
  first_takes-earliest [] i b here = absurd (omega (arith, here.0))
  first_takes-earliest (a ∷ bs) zero b here = first_takes-both a bs (λ ks. 0 < get_or ks 0 0 → (takes_all p b ≡ true) × NoneBefore p (a ∷ bs) 0)
      (λ takes some. (ap (takes_all p) here.1 ∙ takes, λ k c early _. absurd (omega arith))) (λ _ some. absurd (omega arith))
  first_takes-earliest (a ∷ bs) (suc i) b here = first_takes-both a bs (λ ks. 0 < get_or ks (suc i) 0 → (takes_all p b ≡ true) × NoneBefore p (a ∷ bs) (suc i))
      (λ _ some. absurd (omega (arith, get_or-nothing bs i)))
      (λ passed some. let it = first_takes-earliest bs i b (omega (arith, here.0), here.1) some in (it.0, none-before-more a bs i passed it.1))

  first_takes-nothing : (bs : List Bid) (i : ℕ) (b : Bid) → BidAt bs i b → takes_all p b ≡ false → get_or (first_takes p bs) i 0 ≡ 0
  first_takes-nothing bs i b here passed = ⊎_elim
      (λ some. absurd (both_ways _ passed (first_takes-earliest bs i b here some).0))
      (λ none. omega arith)
      (cases_lt 0 (get_or (first_takes p bs) i 0))

-- two lists added
pub length-plus : (xs ys : List ℕ) → length xs ≡ length ys → length (plus xs ys) ≡ length xs
length-plus [] ys e = sym e
length-plus (x ∷ xs) [] e = refl
length-plus (x ∷ xs) (y ∷ ys) e = ap suc (length-plus xs ys (omega arith))

total-plus : (xs ys : List ℕ) → total (plus xs ys) ≡ total xs + total ys
total-plus [] ys = omega arith
total-plus (x ∷ xs) [] = omega arith
total-plus (x ∷ xs) (y ∷ ys) = omega (
  arith,
  sum_by-cons (λ n. n) x xs,
  sum_by-cons (λ n. n) y ys,
  sum_by-cons (λ n. n) (x + y) (plus xs ys),
  total-plus xs ys,
)

pub get_or-plus : (xs ys : List ℕ) (i : ℕ) → get_or (plus xs ys) i 0 ≡ get_or xs i 0 + get_or ys i 0
get_or-plus [] ys i = omega arith
get_or-plus (x ∷ xs) [] i = omega arith
get_or-plus (x ∷ xs) (y ∷ ys) zero = refl
get_or-plus (x ∷ xs) (y ∷ ys) (suc i) = get_or-plus xs ys i

-- shares
length-shares : (a : ℕ) (ws : List ℕ) → length (shares_of a ws) ≡ length ws
length-shares a ws = length-map-range_with_len (share_of a ws) 0 (length ws)

shares-within : (a : ℕ) (ws : List ℕ) → a ≤ total ws → (i : ℕ) → get_or (shares_of a ws) i 0 ≤ get_or ws i 0
shares-within a ws small i = ⊎_elim
    (λ h. omega (arith, get_or-map-range_with_len (share_of a ws) 0 (length ws) i i 0 h (omega arith), within-weight a ws i h small))
    (λ h. let long = length-shares a ws in omega (arith, get_or_past (shares_of a ws) i 0 (omega arith)))
    (cases_lt i (length ws))

-- a bid is above a price or at it exactly where it is at the price or better, and above it exactly where it is at the next price or better
parted : (v : Bool) (p x : ℤ) (n : ℕ) → cond (v && lt_z p x) n 0 + cond (v && (le_z p x && le_z x p)) n 0 ≡ cond (v && le_z p x) n 0
parted true p x n = grind (arith, ints)
parted false p x n = refl

next_up : (v : Bool) (p x : ℤ) (n : ℕ) → cond (v && lt_z p x) n 0 ≡ cond (v && le_z (p +ℤ pos 1) x) n 0
next_up true p x n = grind (arith, ints)
next_up false p x n = refl

no-rise : (p : ℤ) → (p +ℤ pos 1) ≤ℤ p → ⊥
no-rise p h = omega (arith, ints)

abbrev next : Price → Price
next q = record { 0 = q.0 +ℤ pos 1 }

module _ (w : Whose) (q : Price) where
  above-and-tied : (bs : List Bid) → all_above w q bs + all_tied w q bs ≡ demand w q bs
  above-and-tied [] = refl
  above-and-tied (b ∷ bs) = omega (
    arith,
    sum_by-cons (above w q) b bs,
    sum_by-cons (tied w q) b bs,
    sum_by-cons (at_or_better w q) b bs,
    parted (standard_of w b) q.0 b.price.0 b.size.0,
    above-and-tied bs,
  )

  above-is-next : (bs : List Bid) → all_above w q bs ≡ demand w (next q) bs
  above-is-next [] = refl
  above-is-next (b ∷ bs) = omega (
    arith,
    sum_by-cons (above w q) b bs,
    sum_by-cons (at_or_better w (next q)) b bs,
    next_up (standard_of w b) q.0 b.price.0 b.size.0,
    above-is-next bs,
  )

  get_or-above-and-tied : (bs : List Bid) (i : ℕ) → get_or (map (above w q) bs) i 0 + get_or (map (tied w q) bs) i 0 ≡ get_or (map (at_or_better w q) bs) i 0
  get_or-above-and-tied [] i = refl
  get_or-above-and-tied (b ∷ bs) zero = parted (standard_of w b) q.0 b.price.0 b.size.0
  get_or-above-and-tied (b ∷ bs) (suc i) = get_or-above-and-tied bs i

-- what each bid has, read at one place
get_or-map-le : (f g : Bid → ℕ) → ((b : Bid) → f b ≤ g b) → (bs : List Bid) (i : ℕ) → get_or (map f bs) i 0 ≤ get_or (map g bs) i 0
get_or-map-le f g le [] i = omega arith
get_or-map-le f g le (b ∷ bs) zero = le b
get_or-map-le f g le (b ∷ bs) (suc i) = get_or-map-le f g le bs i

get_or-bid : (f : Bid → ℕ) (bs : List Bid) (i : ℕ) (b : Bid) → BidAt bs i b → get_or (map f bs) i 0 ≡ f b
get_or-bid f bs i b here = get_or-map f bs i b 0 here.0 ∙ ap f (sym here.1)

module _ (w : Whose) (m : ℕ) (q : Price) (bs : List Bid) where
  length_above : length (map (above w q) bs) ≡ length bs
  length_above = length-map bs (above w q)

  -- the shares of the bids at the price
  abbrev pub tied_shares : List ℕ
  tied_shares = shares_of (m - all_above w q bs) (map (tied w q) bs)

  pub length-tied_shares : length tied_shares ≡ length bs
  length-tied_shares = length-shares _ (map (tied w q) bs) ∙ length-map bs (tied w q)

  pub length-down_to : length (down_to w m q bs) ≡ length bs
  length-down_to = length-plus (map (above w q) bs) tied_shares (length_above ∙ sym length-tied_shares) ∙ length_above

  module _ (e : reached w m bs ≡ Some q) (some : 0 < m) where
    -- fewer than m parts are above the price at which the bids reach m
    pub above-few : all_above w q bs < m
    above-few = ⊎_elim (λ h. h) (λ h. absurd (no-rise q.0 (reached_greatest w m bs q (next q) e some (omega (arith, above-is-next w q bs))))) (cases_lt (all_above w q bs) m)

    rest-within : m - all_above w q bs ≤ total (map (tied w q) bs)
    rest-within = omega (arith, reached_enough w m bs q e, above-and-tied w q bs, sum-map (tied w q) bs)

    pub total-tied_shares : total tied_shares ≡ m - all_above w q bs
    total-tied_shares = adds_up_within _ (map (tied w q) bs) rest-within

    pub tied_shares-within : (i : ℕ) → get_or tied_shares i 0 ≤ get_or (map (tied w q) bs) i 0
    tied_shares-within = shares-within _ (map (tied w q) bs) rest-within

    pub down_to-sum : total (down_to w m q bs) ≡ m
    down_to-sum = omega (arith, total-plus (map (above w q) bs) tied_shares, sum-map (above w q) bs, total-tied_shares, above-few)

    down_to-at_or_better : (i : ℕ) → get_or (down_to w m q bs) i 0 ≤ get_or (map (at_or_better w q) bs) i 0
    down_to-at_or_better i = omega (arith, get_or-plus (map (above w q) bs) tied_shares i, tied_shares-within i, get_or-above-and-tied w q bs i)

    pub down_to-within : (i : ℕ) → get_or (down_to w m q bs) i 0 ≤ get_or (map (offered w) bs) i 0
    down_to-within i = omega (
      arith,
      down_to-at_or_better i,
      get_or-map-le (at_or_better w q) (offered w) (λ b. cond-and-le (standard_of w b) (le_z q.0 b.price.0) b.size.0) bs i,
    )

    down_to-within-size : (i : ℕ) → get_or (down_to w m q bs) i 0 ≤ get_or (map size_of bs) i 0
    down_to-within-size i = omega (arith, down_to-within i, get_or-map-le (offered w) size_of (λ b. cond-and-le true (standard_of w b) b.size.0) bs i)

    module _ (i : ℕ) (b : Bid) (here : BidAt bs i b) where
      get_or-down_to : get_or (down_to w m q bs) i 0 ≡ above w q b + get_or tied_shares i 0
      get_or-down_to = omega (arith, get_or-plus (map (above w q) bs) tied_shares i, get_or-bid (above w q) bs i b here)

      down_to-nothing : (standard_of w b && le_z q.0 b.price.0) ≡ false → get_or (down_to w m q bs) i 0 ≡ 0
      down_to-nothing out = omega (arith, down_to-at_or_better i, get_or-bid (at_or_better w q) bs i b here, cond-false _ b.size.0 0 out)

      down_to-size : standard_of w b ≡ true → q.0 <ℤ b.price.0 → get_or (down_to w m q bs) i 0 ≡ size_of b
      down_to-size one better =
          let over : lt_z q.0 b.price.0 ≡ true = grind (arith, ints) in
          omega (arith, get_or-down_to, cond-true _ b.size.0 0 (and_from _ _ one over), down_to-within-size i, get_or-bid size_of bs i b here)

      down_to-near : standard_of w b ≡ true → b.price.0 ≡ q.0 →
          Within (get_or (down_to w m q bs) i 0 * all_tied w q bs) ((m - all_above w q bs) * size_of b) (all_tied w q bs)
      down_to-near one priced =
          let ws = map (tied w q) bs in
          let over : lt_z q.0 b.price.0 ≡ false = grind (arith, ints) in
          let level : same_price q b.price ≡ true = grind (arith, ints) in
          let inside : i < length ws = omega (arith, length-map bs (tied w q), here.0) in
          let weight : get_or ws i 0 ≡ size_of b = get_or-bid (tied w q) bs i b here ∙ cond-true _ b.size.0 0 (and_from _ _ one level) in
          let share : get_or (down_to w m q bs) i 0 ≡ share_of (m - all_above w q bs) ws i = omega (
            arith,
            get_or-down_to,
            cond-false _ b.size.0 0 (and_right (standard_of w b) _ over),
            get_or-map-range_with_len (share_of (m - all_above w q bs) ws) 0 (length ws) i i 0 inside (omega arith),
          ) in
          rw (share, ← weight, ← sum-map (tied w q) bs) (near (m - all_above w q bs) ws i inside (omega (arith, above-few, rest-within)))

-- by how a lot is cleared
module _ (bs : List Bid) where
  allotted-each : (c : Option Cleared) → length (allotted c bs) ≡ length bs
  allotted-each = each-way (λ c. length (allotted c bs) ≡ length bs)
      (length-map bs (λ b. 0))
      (λ p. length-down_to Everyone whole p bs)
      (λ p. length-first_takes p bs)

  allotted-sum : (c : Option Cleared) → clearing bs ≡ c → total (allotted c bs) ≡ cond (is_some (lot_price bs)) whole 0
  allotted-sum = each-way (λ c. clearing bs ≡ c → total (allotted c bs) ≡ cond (is_some (lot_price bs)) whole 0)
      (λ e. rw (failed bs e) (total-nothing bs))
      (λ p e. let prices = by-standard bs p e in rw prices.1 (down_to-sum Everyone whole p bs prices.0 (omega arith)))
      (λ p e. let prices = by-all-or-nothing bs p e in rw prices.1 (total-first_takes p bs prices.0))

  allotted-within : All Sized bs → (c : Option Cleared) → clearing bs ≡ c → (i : ℕ) → get_or (allotted c bs) i 0 ≤ get_or (map size_of bs) i 0
  allotted-within sized = each-way (λ c. clearing bs ≡ c → (i : ℕ) → get_or (allotted c bs) i 0 ≤ get_or (map size_of bs) i 0)
      (λ e i. omega (arith, get_or-nothing bs i))
      (λ p e i. down_to-within-size Everyone whole p bs (by-standard bs p e).0 (omega arith) i)
      (λ p e i. first_takes-within p bs sized i)

  below-is-out : (b : Bid) (p q : Price) → lot_price bs ≡ Some p → lot_price bs ≡ Some q → b.price.0 <ℤ p.0 → le_z q.0 b.price.0 ≡ false
  below-is-out b p q priced found low = let same : q ≡ p = cc in rw same (grind (arith, ints))

  module _ (i : ℕ) (b : Bid) (here : BidAt bs i b) where
    allotted-below : (c : Option Cleared) → clearing bs ≡ c → (p : Price) → lot_price bs ≡ Some p → b.price.0 <ℤ p.0 → get_or (allotted c bs) i 0 ≡ 0
    allotted-below = each-way (λ c. clearing bs ≡ c → (p : Price) → lot_price bs ≡ Some p → b.price.0 <ℤ p.0 → get_or (allotted c bs) i 0 ≡ 0)
        (λ e p priced low. get_or-nothing bs i)
        (λ q e p priced low.
        let prices = by-standard bs q e in
        down_to-nothing Everyone whole q bs prices.0 (omega arith) i b here (and_right _ _ (below-is-out b p q priced prices.1 low)))
        (λ q e p priced low. first_takes-nothing q bs i b here (and_right _ _ (and_left _ _ (below-is-out b p q priced (by-all-or-nothing bs q e).1 low))))

    allotted-other_kind : (c : Option Cleared) → clearing bs ≡ c → sets_price c b.kind ≡ false → get_or (allotted c bs) i 0 ≡ 0
    allotted-other_kind = each-way (λ c. clearing bs ≡ c → sets_price c b.kind ≡ false → get_or (allotted c bs) i 0 ≡ 0)
        (λ e other. get_or-nothing bs i)
        (λ p e other. down_to-nothing Everyone whole p bs (by-standard bs p e).0 (omega arith) i b here (and_left _ _ (and_left _ _ other)))
        (λ p e other. first_takes-nothing p bs i b here (and_left _ _ other))

-- where each All or Nothing bid is for the whole lot
pub allocation-law : (bs : List Bid) → All Sized bs → AllocationLaw bs (allocations bs)
allocation-law bs sized = record {
  each = allotted-each bs (clearing bs);
  sum = allotted-sum bs (clearing bs) refl;
  within = allotted-within bs sized (clearing bs) refl;
  below = λ p priced i b here. allotted-below bs i b here (clearing bs) refl p priced;
  other_kind = λ i b here. allotted-other_kind bs i b here (clearing bs) refl;
  served = λ p e i b here standard better. rw e (down_to-size Everyone whole p bs (by-standard bs p e).0 (omega arith) i b here (and_from _ _ standard refl) better);
  near = λ p e i b here standard level. rw e (down_to-near Everyone whole p bs (by-standard bs p e).0 (omega arith) i b here (and_from _ _ standard refl) level);
  earliest = λ p e i b here some. first_takes-earliest p bs i b here (rw e at some);
}
