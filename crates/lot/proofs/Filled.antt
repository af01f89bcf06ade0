-- Arrays of parts that are filled from the front. Assumes nothing.
use Rattle.std.proofs.Common.{◌≡◌, ℕ, zero, suc, ◌+◌, ◌-◌, ◌<◌, ◌≤◌, Bool, true, false, Some, None, List, [], ◌∷◌, ◌++◌, map, length, get_or, take, set, replicate, sym, refl, ap, ◌∙◌, ap₂, arith}
use Rattle.std.proofs.lemmas.List.FromFn.{get_or-map-range_with_len, length-map-range_with_len}
use Rattle.std.proofs.lemmas.List.Elements.{All-get_or}
use Rattle.std.proofs.lemmas.List.{length-map, length-take, get_or-map, take_more, take_more_set, map_push, map_more}
use Rattle.std.proofs.lemmas.List.Sums.{sum-map}
use Rattle.std.proofs.lemmas.List.Quantifiers.{position-Some}
use Rattle.std.proofs.lemmas.Bool.Decides.{nat_tests}
use Rattle.std.specs.List.{position, position_or_len}
use Rattle.share.specs.Rule.{total, share_of, shares_of}
use Rattle.share.specs.declared.units.Parts.{Parts}
use Rattle.lot.proofs.Allotting.{get_or-plus, length-plus}
use Rattle.lot.proofs.Taken.{Fit, no_bid, asked-small, entries_fit, entries-few, all_asked-small}
use Rattle.lot.specs.Allocation.{above, tied, all_above, plus, down_to, nothing, takes_all, first_takes}
use Rattle.lot.specs.Allotments.{numbers}
use Rattle.lot.specs.Bids.{whole}
use Rattle.lot.specs.Lots.{entries_of}
use Rattle.lot.specs.Rungs.{rung}
use Rattle.lot.specs.declared.bid.Bid.{Bid}
use Rattle.lot.specs.declared.bid.Level.TheVariants.{Above, Exactly}
use Rattle.lot.specs.declared.bid.Price.{Price}
use Rattle.lot.specs.declared.bid.Whose.TheVariants.{Everyone}
use Rattle.lot.specs.declared.bids.Bids.{Bids}
use Rattle.lot.specs.declared.bids.rung.Rung.{Rung}

-- no parts
abbrev pub no_parts : Parts
no_parts = record { 0 = 0 }

pub length-entries : (lot : Bids) → length (entries_of lot) ≡ lot.count
length-entries lot = simp length-take (omega (arith, lot.few, lot.long))

-- ---- all to one bid

absent : (f : Bid → Bool) (bs : List Bid) → position f bs ≡ None → length bs ≤ position_or_len f bs
absent f bs e = grind (arith, nat_tests)

nothing_is : (bs : List Bid) (m : ℕ) → length bs ≤ m → numbers (take (length bs) (replicate m no_parts)) ≡ nothing bs
nothing_is [] m h = refl
nothing_is (b ∷ bs) zero h = absurd (omega arith)
nothing_is (b ∷ bs) (suc m) h = ap (λ ks. 0 ∷ ks) (nothing_is bs m (omega arith))

module _ (p : Price) where
  -- no bid takes all
  none-takes : (bs : List Bid) (m : ℕ) → length bs ≤ m → length bs ≤ position_or_len (takes_all p) bs → numbers (take (length bs) (replicate m no_parts)) ≡ first_takes p bs
  none-takes [] m h none = refl
  none-takes (b ∷ bs) zero h none = absurd (omega arith)
  none-takes (b ∷ bs) (suc m) h none = by (takes_all p b) refl (none-takes bs m (omega arith))
    where
      by : (v : Bool) → takes_all p b ≡ v → (length bs ≤ position_or_len (takes_all p) bs → numbers (take (length bs) (replicate m no_parts)) ≡ first_takes p bs) →
          numbers (take (suc (length bs)) (replicate (suc m) no_parts)) ≡ first_takes p (b ∷ bs)
      by true e rest = let out : position_or_len (takes_all p) (b ∷ bs) ≡ 0 = rw e in absurd (omega arith)
      by false e rest =
          let more : position_or_len (takes_all p) (b ∷ bs) ≡ 1 + position_or_len (takes_all p) bs = rw e in
          rw e (ap (λ ks. 0 ∷ ks) (rest (omega arith)))

  -- the bid at i is the first that takes all
  one-takes : (bs : List Bid) (m i : ℕ) → length bs ≤ m → i < length bs → ((k : ℕ) → k < i → takes_all p (get_or bs k no_bid) ≡ false) →
      takes_all p (get_or bs i no_bid) ≡ true → numbers (take (length bs) (set (replicate m no_parts) i (record { 0 = whole }))) ≡ first_takes p bs
  one-takes [] m i h inside none takes = absurd (omega arith)
  one-takes (b ∷ bs) zero i h inside none takes = absurd (omega arith)
  one-takes (b ∷ bs) (suc m) zero h inside none takes = rw takes (ap (λ ks. whole ∷ ks) (nothing_is bs m (omega arith)))
  one-takes (b ∷ bs) (suc m) (suc i) h inside none takes =
      let first : takes_all p b ≡ false = none 0 (omega arith) in
      rw first (ap (λ ks. 0 ∷ ks) (one-takes bs m i (omega arith) (omega arith) (λ k h. none (suc k) (omega arith)) takes))

  -- what the bids of a lot get, by the place of the first that takes all
  module _ (lot : Bids) where
    pub taken-at : (i : ℕ) → position (takes_all p) (entries_of lot) ≡ Some i →
        numbers (take lot.count (set (replicate 64 no_parts) i (record { 0 = whole }))) ≡ first_takes p (entries_of lot)
    taken-at i e =
        let it = position-Some (takes_all p) (entries_of lot) i no_bid e in
        ap (λ n. numbers (take n (set (replicate 64 no_parts) i (record { 0 = whole })))) (sym (length-entries lot))
        ∙ one-takes (entries_of lot) 64 i (entries-few lot) it.0 it.2 it.1

    pub taken-by_none : position (takes_all p) (entries_of lot) ≡ None → numbers (take lot.count (replicate 64 no_parts)) ≡ first_takes p (entries_of lot)
    taken-by_none e =
        ap (λ n. numbers (take n (replicate 64 no_parts))) (sym (length-entries lot))
        ∙ none-takes (entries_of lot) 64 (entries-few lot) (absent (takes_all p) (entries_of lot) e)

-- ---- by shares

-- what each rung has above, and its share of the rest
abbrev pub filled : ℕ → List Rung → List ℕ
filled rest rs = plus (map (λ r. r.above.0) rs) (shares_of rest (map (λ r. r.tied.0) rs))

abbrev pub no_rung : Rung
no_rung = record { above = no_parts; tied = no_parts }

module _ (rest : ℕ) (rs : List Rung) where
  long_shares : length (shares_of rest (map (λ r. r.tied.0) rs)) ≡ length rs
  long_shares = length-map-range_with_len (share_of rest (map (λ r. r.tied.0) rs)) 0 (length (map (λ r. r.tied.0) rs)) ∙ length-map rs (λ r. r.tied.0)

  pub length-filled : length (filled rest rs) ≡ length rs
  length-filled = length-plus _ _ (length-map rs (λ r. r.above.0) ∙ sym long_shares) ∙ length-map rs (λ r. r.above.0)

  pub get_or-filled : (i : ℕ) → i < length rs → get_or (filled rest rs) i 0 ≡ (get_or rs i no_rung).above.0 + share_of rest (map (λ r. r.tied.0) rs) i
  get_or-filled i h =
      let long = length-map rs (λ r. r.tied.0) in
      let inside : i < length (map (λ r. r.tied.0) rs) = omega arith in
      omega (
        arith,
        get_or-plus (map (λ r. r.above.0) rs) (shares_of rest (map (λ r. r.tied.0) rs)) i,
        get_or-map (λ r. r.above.0) rs i no_rung 0 h,
        get_or-map-range_with_len (share_of rest (map (λ r. r.tied.0) rs)) 0 (length (map (λ r. r.tied.0) rs)) i i 0 inside (omega arith),
      )

  -- one more is written
  pub filled_more : (parts : List Parts) (i n : ℕ) → i < length parts → i < length rs → numbers (take i parts) ≡ take i (filled rest rs) →
      n ≡ (get_or rs i no_rung).above.0 + share_of rest (map (λ r. r.tied.0) rs) i → numbers (take (i + 1) (set parts i (record { 0 = n }))) ≡ take (i + 1) (filled rest rs)
  filled_more parts i n inside h so_far is =
      let long = length-filled in
      ap numbers (take_more_set parts i (record { 0 = n }) inside)
      ∙ map_push (λ p. p.0) (take i parts) (record { 0 = n })
      ∙ ap₂ (λ xs x. xs ++ x ∷ []) so_far (is ∙ sym (get_or-filled i h))
      ∙ sym (take_more (filled rest rs) i 0 (omega arith))

module _ (p : Price) where
  tied_of : (bs : List Bid) → map (λ r. r.tied.0) (map (rung p) bs) ≡ map (tied Everyone p) bs
  tied_of [] = refl
  tied_of (b ∷ bs) = ap (λ ks. tied Everyone p b ∷ ks) (tied_of bs)

  above_of : (bs : List Bid) → map (λ r. r.above.0) (map (rung p) bs) ≡ map (above Everyone p) bs
  above_of [] = refl
  above_of (b ∷ bs) = ap (λ ks. above Everyone p b ∷ ks) (above_of bs)

  -- the rungs of bids filled are the bids filled
  pub filled_is : (m : ℕ) (bs : List Bid) → filled (m - all_above Everyone p bs) (map (rung p) bs) ≡ down_to Everyone m p bs
  filled_is m bs = ap₂ (λ xs ys. plus xs (shares_of (m - all_above Everyone p bs) ys)) (above_of bs) (tied_of bs)

  -- the rungs of a lot weigh at most 64 whole lots, and none has more than a whole lot above the price
  pub rungs-light : (lot : Bids) → total (map (λ r. r.tied.0) (map (rung p) (entries_of lot))) ≤ 640000
  rungs-light lot = rw tied_of (omega (arith, sum-map (tied Everyone p) (entries_of lot), all_asked-small Everyone (Exactly p) lot))

  pub rung-small : (lot : Bids) (i : ℕ) → i < length (entries_of lot) → (get_or (map (rung p) (entries_of lot)) i no_rung).above.0 ≤ 10000
  rung-small lot i h =
      let fit = All-get_or Fit (entries_of lot) i no_bid h (entries_fit lot) in
      let is = get_or-map (rung p) (entries_of lot) i no_bid no_rung h in
      rw is (asked-small Everyone (Above p) (get_or (entries_of lot) i no_bid) fit)

-- an array of rungs: one more is written
pub rungs-more : (p : Price) (bs : List Bid) (rungs : List Rung) (i : ℕ) (r : Rung) → i < length rungs → i < length bs → take i rungs ≡ map (rung p) (take i bs) →
    r ≡ rung p (get_or bs i no_bid) → take (i + 1) (set rungs i r) ≡ map (rung p) (take (i + 1) bs)
rungs-more p bs rungs i r inside h so_far is =
    take_more_set rungs i r inside ∙ ap₂ (λ xs x. xs ++ x ∷ []) so_far is ∙ sym (map_more (rung p) bs i no_bid h)

-- the rungs of a lot
module _ (p : Price) (lot : Bids) (rs : List Rung) (is : rs ≡ map (rung p) (entries_of lot)) where
  pub length-rungs : length rs ≡ lot.count
  length-rungs = ap length is ∙ length-map (entries_of lot) (rung p) ∙ length-entries lot

  pub rungs-small : (i : ℕ) → i < length rs → (get_or rs i no_rung).above.0 ≤ 10000
  rungs-small i h = let inside : i < length (entries_of lot) = omega (arith, length-rungs, length-entries lot) in rw is (rung-small p lot i inside)

-- nothing for the bids of a lot
pub nothing-at : (lot : Bids) → numbers (take lot.count (replicate 64 no_parts)) ≡ nothing (entries_of lot)
nothing-at lot =
    ap (λ n. numbers (take n (replicate 64 no_parts))) (sym (length-entries lot)) ∙ nothing_is (entries_of lot) 64 (entries-few lot)
