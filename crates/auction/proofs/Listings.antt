-- Lots as bids come to them. Assumes nothing.
use Rattle.std.proofs.Common.{◌≡◌, ℕ, zero, suc, ◌-◌, ◌<◌, ◌≤◌, false, cond, eqb, List, [], ◌∷◌, ◌++◌, map, length, get_or, take, set, sym, refl, ap, ◌∙◌, arith}
use Rattle.std.proofs.lemmas.List.{length-map, length-take-le, length-set, get_or-take, get_or_past, set-get_or, take-map}
use Rattle.std.proofs.lemmas.Bool.Decides.{nat_tests}
use Rattle.share.specs.Refusals.{left_by, first_nonzero, if_so}
use Rattle.share.specs.declared.refusal.Refusal.TheVariants.{OutOfRange, ExcusedByCall}
use Rattle.lot.specs.Entering.{refusal, entered}
use Rattle.lot.specs.declared.bid.Bid.{Bid}
use Rattle.auction.specs.Lots.{Listing, listing_of, unlisted, lot_at, no_lot, excused_by_call, bid_tests, lot_tests, with_lot, entering}
use Rattle.auction.specs.Auctions.{listings_of}
use Rattle.auction.specs.Weights.{lot_weights}
use Rattle.auction.specs.declared.auction.Auction.{Auction}
use Rattle.auction.specs.declared.lots.Lot.{Lot}

-- a lot with other bids
abbrev holding : List Bid → Listing → Listing
holding bs l = record { terms = l.terms; excused = l.excused; bids = bs }

-- of a member that no call excused, the lot's own test decides
pub tests-unexcused : (l : Listing) (b : Bid) → excused_by_call l b.member ≡ false → first_nonzero (bid_tests l b) ≡ refusal l.bids b
tests-unexcused l b e = ap (λ t. first_nonzero (refusal l.bids b ∷ if_so t ExcusedByCall ∷ [])) e ∙ go (refusal l.bids b)
  where
    go : (n : ℕ) → first_nonzero (n ∷ 0 ∷ []) ≡ n
    go zero = refl
    go (suc n) = refl

-- a number above 0 is not 0
apart : (n : ℕ) → eqb (suc n) 0 ≡ false
apart n = grind (arith, nat_tests)

-- its lot then holds the bid if it is taken
pub entered-unexcused : (l : Listing) (b : Bid) (bs : List Bid) → excused_by_call l b.member ≡ false → bs ≡ entered l.bids b →
    record { terms = l.terms; excused = l.excused; bids = bs } ≡ left_by (first_nonzero (bid_tests l b)) l (entering b l)
entered-unexcused l b bs free e = ap (λ xs. holding xs l) e ∙ go (refusal l.bids b) ∙ ap (λ n. left_by n l (entering b l)) (sym (tests-unexcused l b free))
  where
    go : (n : ℕ) → holding (cond (eqb n 0) (l.bids ++ b ∷ []) l.bids) l ≡ left_by n l (entering b l)
    go zero = refl
    go (suc n) = ap (λ t. holding (cond t (l.bids ++ b ∷ []) l.bids) l) (apart n)

-- the first lots of a list: how many they are, and what stands at a number
pub length-first : (ls : List Lot) (n : ℕ) → n ≤ length ls → length (map listing_of (take n ls)) ≡ n
length-first ls n h = length-map (take n ls) listing_of ∙ length-take-le n ls h

pub lot-in : (ls : List Lot) (n l i : ℕ) → i ≡ l - 1 → i < n → get_or (map listing_of ls) i unlisted ≡ lot_at (map listing_of (take n ls)) l
lot-in ls n l i e h = sym (ap (λ xs. lot_at xs l) (sym (take-map listing_of n ls)) ∙ get_or-take n (map listing_of ls) (l - 1) unlisted (omega (arith, e, h)) ∙ ap (λ k. get_or (map listing_of ls) k unlisted) (sym e))

pub lot-past : (ls : List Lot) (n l i : ℕ) → n ≤ length ls → i ≡ l - 1 → n ≤ i → unlisted ≡ lot_at (map listing_of (take n ls)) l
lot-past ls n l i few e h = sym (get_or_past (map listing_of (take n ls)) (l - 1) unlisted (omega (arith, length-first ls n few, e, h)))

-- another lot at a number
take-set-in : {X : Type 0} (xs : List X) (n i : ℕ) (y : X) → take n (set xs i y) ≡ set (take n xs) i y
take-set-in xs zero i y = refl
take-set-in [] (suc n) i y = refl
take-set-in (x ∷ xs) (suc n) zero y = refl
take-set-in (x ∷ xs) (suc n) (suc i) y = ap (λ zs. x ∷ zs) (take-set-in xs n i y)

pub lots-set : (ls ms : List Lot) (n i : ℕ) (y : Listing) → map listing_of ms ≡ set (map listing_of ls) i y → map listing_of (take n ms) ≡ set (map listing_of (take n ls)) i y
lots-set ls ms n i y e =
    sym (take-map listing_of n ms) ∙ ap (take n) e ∙ take-set-in (map listing_of ls) n i y ∙ ap (λ xs. set xs i y) (take-map listing_of n ls)

-- a bid for one that is there
pub somewhere : (ls : List Listing) (l : ℕ) (b : Bid) → no_lot ls l ≡ false → first_nonzero (lot_tests ls l b) ≡ first_nonzero (bid_tests (lot_at ls l) b)
somewhere ls l b e = ap (λ t. first_nonzero (if_so t OutOfRange ∷ bid_tests (lot_at ls l) b)) e

-- a lot that a refusal leaves as it was leaves the lots so
pub set-left : (n : ℕ) (ls : List Listing) (l : ℕ) (f : Listing → Listing) → set ls (l - 1) (left_by n (lot_at ls l) (f (lot_at ls l))) ≡ left_by n ls (with_lot f l ls)
set-left zero ls l f = refl
set-left (suc n) ls l f = set-get_or ls (l - 1) unlisted

-- which lots are there, by the number of lots
pub there : (ls : List Listing) (n l : ℕ) → length ls ≡ n → 1 ≤ l → l - 1 < n → no_lot ls l ≡ false
there ls n l e low high = grind (arith, nat_tests, e, low, high)

-- another lot on the same terms leaves the weights
weights-set : (ls : List Listing) (i : ℕ) (y : Listing) → y.terms ≡ (get_or ls i unlisted).terms → lot_weights (set ls i y) ≡ lot_weights ls
weights-set [] i y e = refl
weights-set (x ∷ ls) zero y e = ap (λ t. t.weight ∷ lot_weights ls) e
weights-set (x ∷ ls) (suc i) y e = ap (λ ws. x.terms.weight ∷ ws) (weights-set ls i y e)

pub same-weights : (ls ms : List Lot) (n i : ℕ) (y : Listing) → i < n → map listing_of ms ≡ set (map listing_of ls) i y → y.terms ≡ (get_or (map listing_of ls) i unlisted).terms →
    lot_weights (map listing_of (take n ms)) ≡ lot_weights (map listing_of (take n ls))
same-weights ls ms n i y h e t =
    let there : get_or (map listing_of ls) i unlisted ≡ get_or (map listing_of (take n ls)) i unlisted =
    sym (get_or-take n (map listing_of ls) i unlisted h) ∙ ap (λ xs. get_or xs i unlisted) (take-map listing_of n ls) in
    ap lot_weights (lots-set ls ms n i y e) ∙ weights-set (map listing_of (take n ls)) i y (t ∙ ap (λ l. l.terms) there)

pub same_length : (ls ms : List Lot) (i : ℕ) (y : Listing) → map listing_of ms ≡ set (map listing_of ls) i y → length ms ≡ length ls
same_length ls ms i y e = sym (length-map ms listing_of) ∙ ap length e ∙ length-set (map listing_of ls) i y ∙ length-map ls listing_of

-- a bid leaves the terms, taken or not
pub same-terms : (n : ℕ) (l : Listing) (b : Bid) → (left_by n l (entering b l)).terms ≡ l.terms
same-terms zero l b = refl
same-terms (suc n) l b = refl

-- how many lots there are
pub length-listings : (a : Auction) → length (listings_of a) ≡ a.count
length-listings a = length-first a.lots a.count (omega (arith, a.rooms, a.few))

-- the same by their listings
pub length-lots : (a : Auction) (ls : List Lot) → map listing_of ls ≡ listings_of a → length ls ≡ a.count
length-lots a ls e = sym (length-map ls listing_of) ∙ ap length e ∙ length-listings a

-- an index of their listings is one of the lots
pub inside-lots : (a : Auction) (ls : List Lot) → map listing_of ls ≡ listings_of a → (i : ℕ) → i < length (listings_of a) → i < length ls
inside-lots a ls e i h = omega (arith, h, length-lots a ls e, length-listings a)
