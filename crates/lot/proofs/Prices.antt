-- The price of a lot is the greatest that sells it. Assumes nothing.
use Rattle.std.proofs.Common.{◌≡◌, ℕ, ◌<◌, ◌≤◌, Bool, true, false, cond, ◌&&◌, leb, ◌⊎◌, List, [], ◌∷◌, ℤ, pos, ◌≤ℤ◌, is_some, Some, None, Option, sym, refl, ap, subst, inl, inr, ⊎_elim, arith}
use lib.Signed.{le_z, lt_z, ≤ℤ_refl}
use Rattle.std.specs.Int.{int_min}
use Rattle.std.specs.List.{All, Contains}
use Rattle.std.proofs.lemmas.List.Elements.{All-nil, All-cons, All-weaker, All-contains, Contains-get_or, Contains-append_right}
use Rattle.std.proofs.lemmas.Int.{by_lt_z, clamps, ints}
use Rattle.std.proofs.lemmas.List.Sums.{sum_by-cons}
use Rattle.std.proofs.lemmas.Bool.{and_from, and_parts, cases_Bool, cases_lt, le-leb, leb-true, lt-leb, not_from_false, not-true}
use Rattle.lot.specs.Bids.{whole, standard_of, all_or_nothing_of, offered, all_offered}
use Rattle.lot.specs.Price.{at_or_better, demand, better, greatest, reached, standard_price, all_or_nothing_price, lot_price, by_standard, by_all_or_nothing, cleared, clearing, Sells, PriceLaw}
use Rattle.lot.specs.declared.bid.Bid.{Bid}
use Rattle.lot.specs.declared.bid.Kind.{Kind}
use Rattle.lot.specs.declared.bid.Kind.TheVariants.{Standard, AllOrNothing}
use Rattle.lot.specs.declared.bid.Price.{Price}
use Rattle.lot.specs.declared.bid.Whose.{Whose}
use Rattle.lot.specs.declared.bid.Whose.TheVariants.{Everyone}
use Rattle.lot.specs.declared.bids.price.Cleared.{Cleared}

-- a price that is there and at least q
abbrev Reaches : Price → Option Price → Type 0
Reaches q None = ⊥
Reaches q (Some p) = q.0 ≤ℤ p.0

better-is : (o u : Option Price) (p : Price) → better o u ≡ Some p → (o ≡ Some p) ⊎ (u ≡ Some p)
better-is None u p e = inr e
better-is (Some x) None p e = inl e
better-is (Some x) (Some y) p e = go (lt_z y.0 x.0) e
  where
    go : (v : Bool) → ◌≡◌ {A = Option Price} (Some (cond v x y)) (Some p) → (◌≡◌ {A = Option Price} (Some x) (Some p)) ⊎ (◌≡◌ {A = Option Price} (Some y) (Some p))
    go true e = inl e
    go false e = inr e

better-reaches-left : (q : Price) (o u : Option Price) → Reaches q o → Reaches q (better o u)
better-reaches-left q None u h = absurd h
better-reaches-left q (Some x) None h = h
better-reaches-left q (Some x) (Some y) h = grind (arith, ints)

better-reaches-right : (q : Price) (o u : Option Price) → Reaches q u → Reaches q (better o u)
better-reaches-right q None u h = h
better-reaches-right q (Some x) None h = absurd h
better-reaches-right q (Some x) (Some y) h = grind (arith, ints)

-- one of the bids passes a test, at a price
pub record Found (f : Bid → Bool) (bs : List Bid) (p : Price) : Type 0 where
  pub bid : Bid
  pub among : Contains bs bid
  pub passes : f bid ≡ true
  pub priced : bid.price ≡ p

has_first : (b : Bid) (bs : List Bid) → Contains (b ∷ bs) b
has_first b bs = Contains-get_or (b ∷ bs) 0 b (omega arith)

has-later : (b c : Bid) (bs : List Bid) → Contains bs b → Contains (c ∷ bs) b
has-later b c bs h = Contains-append_right (c ∷ []) bs b h

-- the greatest price is that of a bid that passes
pub greatest-found : (f : Bid → Bool) (bs : List Bid) (p : Price) → greatest f bs ≡ Some p → Found f bs p
greatest-found f [] p e = let z : ◌≡◌ {A = ℕ} 0 1 = cc in absurd (omega arith)
greatest-found f (b ∷ bs) p e = ⊎_elim (first (f b) refl) (λ more. on (greatest-found f bs p more)) (better-is (cond (f b) (Some b.price) None) (greatest f bs) p e)
  where
    first : (v : Bool) → f b ≡ v → cond v (Some b.price) None ≡ Some p → Found f (b ∷ bs) p
    first true passes e = record { bid = b; among = has_first b bs; passes = passes; priced = cc }
    first false passes e = let z : ◌≡◌ {A = ℕ} 0 1 = cc in absurd (omega arith)

    on : Found f bs p → Found f (b ∷ bs) p
    on it = record { bid = it.bid; among = has-later it.bid b bs it.among; passes = it.passes; priced = it.priced }

-- the greatest price is at least that of each bid that passes
module _ (f : Bid → Bool) (q : Price) where
  -- a bid that passes, at q or better, is reached
  abbrev Reached_by : Option Price → Bid → Type 0
  Reached_by r b = f b ≡ true → q.0 ≤ℤ b.price.0 → Reaches q r

  all-reached : (bs : List Bid) → All (Reached_by (greatest f bs)) bs
  all-reached [] = All-nil (Reached_by None)
  all-reached (b ∷ bs) = All-cons (Reached_by (greatest f (b ∷ bs))) b bs
      (λ e h. better-reaches-left q (cond (f b) (Some b.price) None) (greatest f bs) (rw e h))
      (All-weaker (Reached_by (greatest f bs)) (Reached_by (greatest f (b ∷ bs))) (λ c on e h. better-reaches-right q (cond (f b) (Some b.price) None) (greatest f bs) (on e h)) bs (all-reached bs))

  greatest-reaches : (b : Bid) (bs : List Bid) → Contains bs b → f b ≡ true → q.0 ≤ℤ b.price.0 → Reaches q (greatest f bs)
  greatest-reaches b bs h = All-contains (Reached_by (greatest f bs)) bs b (all-reached bs) h

-- a bid's parts at a better price: not more, and the same where both prices leave it out or both take it in
falls : (v : Bool) (p q x : ℤ) (n : ℕ) → p ≤ℤ q → cond (v && le_z q x) n 0 ≤ cond (v && le_z p x) n 0
falls true p q x n h = grind (arith, ints)
falls false p q x n h = omega arith

out-too : (v : Bool) (p q x : ℤ) (n : ℕ) → p ≤ℤ q → (v && le_z p x) ≡ false → cond (v && le_z q x) n 0 ≡ cond (v && le_z p x) n 0
out-too true p q x n h out = grind (arith, ints)
out-too false p q x n h out = refl

in-too : (v : Bool) (p q x : ℤ) (n : ℕ) → (v && le_z p x) ≡ true → q ≤ℤ x → cond (v && le_z q x) n 0 ≡ cond (v && le_z p x) n 0
in-too true p q x n inside h = grind (arith, ints)
in-too false p q x n inside h = refl

-- a bid's parts at a price: not more than it asks for, and all where its price is as good
pub cond-and-le : (v t : Bool) (n : ℕ) → cond (v && t) n 0 ≤ cond v n 0
cond-and-le true t n = elim t as (λ t. cond t n 0 ≤ n) [ true ↦ omega arith | false ↦ omega arith ]
cond-and-le false t n = omega arith

all_in : (v : Bool) (p x : ℤ) (n : ℕ) → p ≤ℤ x → cond (v && le_z p x) n 0 ≡ cond v n 0
all_in true p x n h = grind (arith, ints)
all_in false p x n h = refl

module _ (w : Whose) where
  demand-within : (p : Price) (bs : List Bid) → demand w p bs ≤ all_offered w bs
  demand-within p [] = omega arith
  demand-within p (b ∷ bs) = omega (
    arith,
    sum_by-cons (at_or_better w p) b bs,
    sum_by-cons (offered w) b bs,
    cond-and-le (standard_of w b) (le_z p.0 b.price.0) b.size.0,
    demand-within p bs,
  )

  -- a price at and below which demand is for all that is offered
  low-price : (bs : List Bid) → (p : Price) × ((q : Price) → q.0 ≤ℤ p.0 → demand w q bs ≡ all_offered w bs)
  low-price [] = (record { 0 = pos 0 }, λ q h. refl)
  low-price (b ∷ bs) =
      let rest = low-price bs in (
        record { 0 = int_min b.price.0 rest.0.0 },
        λ q h.
            let one : q.0 ≤ℤ b.price.0 = omega (arith, ints, clamps) in
            let more : q.0 ≤ℤ rest.0.0 = omega (arith, ints, clamps) in
            omega (
              arith,
              sum_by-cons (at_or_better w q) b bs,
              sum_by-cons (offered w) b bs,
              all_in (standard_of w b) q.0 b.price.0 b.size.0 one,
              rest.1 q more,
            ),
      )

  demand-falls : (p q : Price) (bs : List Bid) → p.0 ≤ℤ q.0 → demand w q bs ≤ demand w p bs
  demand-falls p q [] h = omega arith
  demand-falls p q (b ∷ bs) h = omega (
    arith,
    sum_by-cons (at_or_better w p) b bs,
    sum_by-cons (at_or_better w q) b bs,
    falls (standard_of w b) p.0 q.0 b.price.0 b.size.0 h,
    demand-falls p q bs h,
  )

  -- the lowest of their Standard bids at a price or better: at its own price the demand is the same
  record Lowest (q : Price) (bs : List Bid) : Type 0 where
    bid : Bid
    among : Contains bs bid
    is_one : standard_of w bid ≡ true
    reaches : q.0 ≤ℤ bid.price.0
    same : demand w bid.price bs ≡ demand w q bs

  module _ (q : Price) (b : Bid) (bs : List Bid) where
    -- where a bid's parts are the same at both prices, demand is too
    same_with : (p : Price) → at_or_better w p b ≡ at_or_better w q b → demand w p bs ≡ demand w q bs → demand w p (b ∷ bs) ≡ demand w q (b ∷ bs)
    same_with p one rest = omega (arith, sum_by-cons (at_or_better w p) b bs, sum_by-cons (at_or_better w q) b bs)

    -- the lowest of the bids after b stays the lowest
    later : (l : Lowest q bs) → at_or_better w l.bid.price b ≡ at_or_better w q b → Lowest q (b ∷ bs)
    later l one = record {
      bid = l.bid;
      among = has-later l.bid b bs l.among;
      is_one = l.is_one;
      reaches = l.reaches;
      same = same_with l.bid.price one l.same;
    }

    -- a bid that is below the price leaves the lowest as it is
    outside : (standard_of w b && le_z q.0 b.price.0) ≡ false → (demand w q bs ≡ 0) ⊎ Lowest q bs → (demand w q (b ∷ bs) ≡ 0) ⊎ Lowest q (b ∷ bs)
    outside out = ⊎_elim
        (λ z. inl (omega (arith, sum_by-cons (at_or_better w q) b bs, ap (λ v. cond v b.size.0 0) out)))
        (λ l. inr (later l (out-too (standard_of w b) q.0 l.bid.price.0 b.price.0 b.size.0 l.reaches out)))

    module _ (inside : (standard_of w b && le_z q.0 b.price.0) ≡ true) where
      both : (standard_of w b ≡ true) × (le_z q.0 b.price.0 ≡ true)
      both = and_parts (standard_of w b) (le_z q.0 b.price.0) inside

      better_one : q.0 ≤ℤ b.price.0
      better_one = let h = both.1 in omega (arith, ints)

      chosen : demand w b.price bs ≡ demand w q bs → Lowest q (b ∷ bs)
      chosen e = record {
        bid = b;
        among = has_first b bs;
        is_one = both.0;
        reaches = better_one;
        same = same_with b.price (in-too (standard_of w b) q.0 b.price.0 b.price.0 b.size.0 inside (≤ℤ_refl b.price.0)) e;
      }

      within : (demand w q bs ≡ 0) ⊎ Lowest q bs → Lowest q (b ∷ bs)
      within = ⊎_elim
          (λ z. chosen (omega (arith, demand-falls q b.price bs better_one)))
          (λ l. by_lt_z l.bid.price.0 b.price.0
          (λ lower. later l (in-too (standard_of w b) q.0 l.bid.price.0 b.price.0 b.size.0 inside (omega (arith, ints))))
          (λ higher. chosen (omega (arith, l.same, demand-falls q b.price bs better_one, demand-falls b.price l.bid.price bs higher))))

  lowest : (q : Price) (bs : List Bid) → (demand w q bs ≡ 0) ⊎ Lowest q bs
  lowest q [] = inl refl
  lowest q (b ∷ bs) = ⊎_elim
      (λ inside. inr (within q b bs inside (lowest q bs)))
      (λ out. outside q b bs out (lowest q bs))
      (cases_Bool (standard_of w b && le_z q.0 b.price.0))

-- where demand comes to m parts
module _ (w : Whose) (m : ℕ) (bs : List Bid) where
  pub reached_enough : (q : Price) → reached w m bs ≡ Some q → m ≤ demand w q bs
  reached_enough q e =
      let it = greatest-found (λ b. standard_of w b && leb m (demand w b.price bs)) bs q e in
      rw it.priced at (leb-true m _ (and_parts (standard_of w it.bid) _ it.passes).1)

  reached_reaches : (q : Price) → 0 < m → m ≤ demand w q bs → Reaches q (reached w m bs)
  reached_reaches q some enough = ⊎_elim
      (λ none. absurd (omega arith))
      (λ l. greatest-reaches (λ b. standard_of w b && leb m (demand w b.price bs)) q l.bid bs l.among
      (and_from (standard_of w l.bid) _ l.is_one (le-leb m _ (omega (arith, l.same)))) l.reaches)
      (lowest w q bs)

  -- no price above the one reached has demand for m parts
  pub reached_greatest : (q p : Price) → reached w m bs ≡ Some q → 0 < m → m ≤ demand w p bs → p.0 ≤ℤ q.0
  reached_greatest q p e some enough = subst (Reaches p) e (reached_reaches p some enough)

  -- where none is reached, no price has demand for m parts
  pub reached_none : reached w m bs ≡ None → 0 < m → (p : Price) → m ≤ demand w p bs → ⊥
  reached_none e some p enough = subst (Reaches p) e (reached_reaches p some enough)

  -- m parts are reached exactly where as many are offered
  pub reached_offered : 0 < m → is_some (reached w m bs) ≡ leb m (all_offered w bs)
  reached_offered some = by (reached w m bs) refl
    where
      by : (o : Option Price) → reached w m bs ≡ o → is_some o ≡ leb m (all_offered w bs)
      by (Some q) e = sym (le-leb m (all_offered w bs) (omega (arith, reached_enough q e, demand-within w q bs)))
      by None e =
          let low = low-price w bs in
          let all = low.1 low.0 (≤ℤ_refl low.0.0) in
          sym (lt-leb m (all_offered w bs) (⊎_elim (λ h. h) (λ h. absurd (reached_none e some low.0 (omega arith))) (cases_lt (all_offered w bs) m)))

module _ (bs : List Bid) where
  sells : (p : Price) → lot_price bs ≡ Some p → Sells bs p
  sells p e = ⊎_elim
      (λ s. inl (reached_enough Everyone whole bs p s))
      (λ a. let it = greatest-found (all_or_nothing_of Everyone) bs p a in
      inr (it.bid, it.among, not-true _ (and_parts _ _ it.passes).0, rw it.priced (≤ℤ_refl p.0)))
      (better-is (standard_price bs) (all_or_nothing_price Everyone bs) p e)

  sold_reaches : (q : Price) → Sells bs q → Reaches q (lot_price bs)
  sold_reaches q = ⊎_elim
      (λ enough. better-reaches-left q (standard_price bs) (all_or_nothing_price Everyone bs) (reached_reaches Everyone whole bs q (omega arith) enough))
      (λ t. better-reaches-right q (standard_price bs) (all_or_nothing_price Everyone bs)
      (greatest-reaches (all_or_nothing_of Everyone) q t.0 bs t.1 (and_from _ _ (not_from_false _ t.2) refl) t.3))

  unsold : (o : Option Price) → lot_price bs ≡ o → ((q : Price) → Sells bs q → ⊥) → o ≡ None
  unsold None e none = refl
  unsold (Some p) e none = absurd (none p (sells p e))

  pub price_law : PriceLaw bs (lot_price bs)
  price_law = record {
    sells = sells;
    greatest_one = λ p q e sold. subst (Reaches q) e (sold_reaches q sold);
    fails = λ e q sold. subst (Reaches q) e (sold_reaches q sold);
    unsold = unsold (lot_price bs) refl;
  }

-- what a way to clear says of the Standard price, the All or Nothing price and the greater of them
abbrev Agrees_by : Option Price → Option Price → Kind → Price → Type 0
Agrees_by s a Standard p = (s ≡ Some p) × (better s a ≡ Some p)
Agrees_by s a AllOrNothing p = (a ≡ Some p) × (better s a ≡ Some p)

abbrev Agrees : Option Price → Option Price → Option Cleared → Type 0
Agrees s a None = better s a ≡ None
Agrees s a (Some c) = Agrees_by s a c.by c.price

cleared-agrees : (s a : Option Price) → Agrees s a (cleared s a)
cleared-agrees None None = refl
cleared-agrees (Some x) None = (refl, refl)
cleared-agrees None (Some y) = (refl, refl)
cleared-agrees (Some x) (Some y) = by (lt_z y.0 x.0) refl
  where
    by : (v : Bool) → lt_z y.0 x.0 ≡ v → Agrees (Some x) (Some y) (cond v (by_standard x) (by_all_or_nothing y))
    by true e = (refl, rw e refl)
    by false e = (refl, rw e refl)

module _ (bs : List Bid) where
  clearing-agrees : (c : Option Cleared) → clearing bs ≡ c → Agrees (standard_price bs) (all_or_nothing_price Everyone bs) c
  clearing-agrees c e = subst (Agrees (standard_price bs) (all_or_nothing_price Everyone bs)) e (cleared-agrees (standard_price bs) (all_or_nothing_price Everyone bs))

  pub by-standard : (p : Price) → clearing bs ≡ by_standard p → (standard_price bs ≡ Some p) × (lot_price bs ≡ Some p)
  by-standard p = clearing-agrees (by_standard p)

  pub by-all-or-nothing : (p : Price) → clearing bs ≡ by_all_or_nothing p → (all_or_nothing_price Everyone bs ≡ Some p) × (lot_price bs ≡ Some p)
  by-all-or-nothing p = clearing-agrees (by_all_or_nothing p)

  pub failed : clearing bs ≡ None → lot_price bs ≡ None
  failed = clearing-agrees None

-- each way to clear a lot
pub each-way : (P : Option Cleared → Type 0) → P None → ((p : Price) → P (by_standard p)) → ((p : Price) → P (by_all_or_nothing p)) → (c : Option Cleared) → P c
each-way P none standard all None = none
each-way P none standard all (Some c) = by c.by refl
  where
    by : (k : Kind) → c.by ≡ k → P (Some c)
    by Standard e = subst (λ k. P (Some (record { price = c.price; by = k }))) (sym e) (standard c.price)
    by AllOrNothing e = subst (λ k. P (Some (record { price = c.price; by = k }))) (sym e) (all c.price)
