-- Price × parts over the bids of a lot: how large it gets. Assumes nothing.
use Rattle.std.proofs.Common.{◌≡◌, ℕ, ◌-◌, ◌*◌, ◌<◌, ◌≤◌, List, [], ◌∷◌, take, pos, ◌*ℤ◌, nat_abs, Some, ap, mul-le-mul_right, arith, w64, SFits}
use Rattle.std.proofs.lemmas.List.Elements.{All-head, All-tail, All-take, All-contains}
use Rattle.std.proofs.lemmas.List.Sums.{sum_by-cons}
use Rattle.std.specs.List.{All}
use Rattle.lot.proofs.Allotting.{above-few}
use Rattle.lot.proofs.Magnitudes.{abs-add, abs-times, abs-floor, fits-64}
use Rattle.lot.proofs.Prices.{greatest-found, reached_enough}
use Rattle.lot.proofs.Products.{folded-cons}
use Rattle.lot.proofs.Taken.{Fit, asked-fits, entries_fit, all_asked-small}
use Rattle.lot.specs.Allocation.{above, all_above}
use Rattle.lot.specs.Average.{floor, worth_above, all_worth_above, worth_down_to}
use Rattle.lot.specs.Lots.{entries_of}
use Rattle.lot.specs.Price.{reaches, reached}
use Rattle.lot.specs.declared.bid.Bid.{Bid}
use Rattle.lot.specs.declared.bid.Level.TheVariants.{Above, AtOrBetter}
use Rattle.lot.specs.declared.bid.Price.{Price}
use Rattle.lot.specs.declared.bid.Whose.{Whose}
use Rattle.lot.specs.declared.bids.Bids.{Bids}

-- the greatest price that may be bid, as a number
abbrev most : ℕ
most = 2000000000

module _ (w : Whose) (q : Price) where
  -- no part above a price is worth more than the greatest price
  pub worth-small : (bs : List Bid) → All Fit bs → nat_abs (all_worth_above w q bs) ≤ most * all_above w q bs
  worth-small [] fit = omega arith
  worth-small (b ∷ bs) fit =
      omega (
        arith,
        ap nat_abs (folded-cons (worth_above w q) b bs),
        abs-add (worth_above w q b) (all_worth_above w q bs),
        abs-times b.price.0 (above w q b),
        mul-le-mul_right (above w q b) (All-head Fit b bs fit).near,
        sum_by-cons (above w q) b bs,
        worth-small bs (All-tail Fit b bs fit),
      )

  -- the sum over the first bids of a lot
  pub worth-fits : (lot : Bids) (bs : List Bid) → bs ≡ entries_of lot → (i : ℕ) → SFits w64 (all_worth_above w q (take i bs))
  worth-fits lot bs is i =
      let fit : All Fit bs = rw is (entries_fit lot) in
      fits-64 (all_worth_above w q (take i bs)) (omega (arith, worth-small (take i bs) (All-take Fit i bs fit), asked-fits w (Above q) lot bs is i))

-- the best m parts of the bids of a lot
module _ (w : Whose) (m : ℕ) (lot : Bids) (q : Price) (some : 0 < m) (e : reached w m (entries_of lot) ≡ Some q) where
  -- the price at which they reach m parts is a bid's
  last-small : nat_abs q.0 ≤ most
  last-small =
      let it = greatest-found (reaches w m (entries_of lot)) (entries_of lot) q e in
      rw (ap (λ p. nat_abs p.0) it.priced) at (All-contains Fit (entries_of lot) it.bid (entries_fit lot) it.among).near

  pub above_within : all_above w q (entries_of lot) ≤ m
  above_within = omega (arith, above-few w m q (entries_of lot) e some)

  pub parts-few : m ≤ 640000
  parts-few = omega (arith, reached_enough w m (entries_of lot) q e, all_asked-small w (AtOrBetter q) lot)

  pub rest-small : nat_abs (q.0 *ℤ pos (m - all_above w q (entries_of lot))) ≤ most * (m - all_above w q (entries_of lot))
  rest-small = omega (arith, abs-times q.0 (m - all_above w q (entries_of lot)), mul-le-mul_right (m - all_above w q (entries_of lot)) last-small)

  pub down_to-small : nat_abs (worth_down_to w m (entries_of lot) q) ≤ most * m
  down_to-small = omega (
    arith,
    above_within,
    rest-small,
    worth-small w q (entries_of lot) (entries_fit lot),
    abs-add (all_worth_above w q (entries_of lot)) (q.0 *ℤ pos (m - all_above w q (entries_of lot))),
  )

  pub average-small : nat_abs (floor (worth_down_to w m (entries_of lot) q) m) ≤ most
  average-small = abs-floor most m some (worth_down_to w m (entries_of lot) q) down_to-small
