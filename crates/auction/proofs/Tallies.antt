-- A value worked out for each lot, in lot order. Assumes nothing.
use Rattle.std.proofs.Common.{◌≡◌, ℕ, ◌+◌, ◌<◌, ◌≤◌, cond, not, ◌||◌, List, [], ◌∷◌, map, length, take, is_some, Option, sym, refl, ap, ◌∙◌, arith}
use Rattle.std.proofs.lemmas.List.{length-map, length-take-le, take_all}
use Rattle.std.proofs.lemmas.Simd.{map-map}
use Rattle.std.proofs.lemmas.List.Sums.{sum_by-cons}
use Rattle.lot.specs.declared.bid.Price.{Price}
use Rattle.auction.specs.Auctions.{listings_of}
use Rattle.auction.specs.Counting.{silent}
use Rattle.auction.specs.Earning.{earned_of, says_nothing, some_silent}
use Rattle.auction.specs.Lots.{Listing, listing_of, price_in, fails, failed, unsold}
use Rattle.auction.specs.declared.auction.Auction.{Auction}
use Rattle.auction.specs.declared.lots.Lot.{Lot}
use Rattle.auction.specs.declared.member.Member.{Member}
use Rattle.auction.proofs.Listings.{length-lots}

module _ {Y : Type 0} (f : Listing → Y) (a : Auction) (ls : List Lot) (same : map listing_of ls ≡ listings_of a) where
  -- there is room for one lot more
  pub lot-room : (ys : List Y) (i : ℕ) → i < length ls → ys ≡ map (λ l. f (listing_of l)) (take i ls) → length ys < 4
  lot-room ys i h e = omega (arith, h, ap length e, length-map (take i ls) (λ (l : Lot). f (listing_of l)), length-take-le i ls (omega (arith, h)), length-lots a ls same, a.few)

  -- all lots
  pub lot-all : (ys : List Y) (i : ℕ) → length ls ≤ i → ys ≡ map (λ l. f (listing_of l)) (take i ls) → ys ≡ map f (listings_of a)
  lot-all ys i h e = e ∙ ap (map (λ (l : Lot). f (listing_of l))) (take_all i ls h) ∙ sym (map-map f listing_of ls) ∙ ap (map f) same

-- by what it earned in the lots, or by the lots
pub silent-earned : (r : List (Option Member)) (m : ℕ) (ls : List Listing) → some_silent (map (earned_of r m) ls) ≡ silent r m ls
silent-earned r m [] = refl
silent-earned r m (l ∷ ls) = ap (λ v. says_nothing (earned_of r m l) || v) (silent-earned r m ls)

-- by their prices, or by the lots
pub unsold-lots : (ls : List Listing) → unsold (map price_in ls) ≡ failed ls
unsold-lots [] = refl
unsold-lots (l ∷ ls) =
    sum_by-cons (λ (p : Option Price). cond (not (is_some p)) 1 0) (price_in l) (map price_in ls) ∙ ap (λ n. cond (fails l) 1 0 + n) (unsold-lots ls) ∙ sym (sum_by-cons (λ (x : Listing). cond (fails x) 1 0) l ls)
