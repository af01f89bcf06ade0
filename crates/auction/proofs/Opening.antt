-- Opening the lots of an offer one after another. Assumes nothing.
use Rattle.std.proofs.Common.{◌≡◌, ℕ, ◌+◌, ◌<◌, Bool, true, false, not, ◌||◌, eqb, List, [], ◌∷◌, ◌++◌, map, length, get_or, take, set, Ok, Err, sym, refl, ap, ◌∙◌, ap₂, arith}
use Rattle.std.proofs.lemmas.List.Folds.{list_any_more}
use Rattle.std.proofs.lemmas.List.{take_more_set, map_push, map_more}
use Rattle.share.specs.Refusals.{unless, if_so, in_range}
use Rattle.share.specs.Rule.{total}
use Rattle.share.specs.declared.refusal.Refusal.TheVariants.{LotTerms}
use Rattle.auction.specs.Lots.{Listing, listing_of, opened}
use Rattle.auction.specs.Offers.{most_lots, terms_of, bad_lot, some_bad, bad_offer}
use Rattle.auction.specs.declared.lots.Lot.{Lot}
use Rattle.auction.specs.declared.offer.Offer.{Offer}
use Rattle.auction.specs.declared.terms.Terms.{Terms}

-- one lot more is opened
pub opened-more : (ls : List Lot) (ts : List Terms) (i : ℕ) (x : Lot) (d : Terms) → i < length ls → i < length ts → listing_of x ≡ opened (get_or ts i d) →
    map listing_of (take i ls) ≡ map opened (take i ts) → map listing_of (take (i + 1) (set ls i x)) ≡ map opened (take (i + 1) ts)
opened-more ls ts i x d h k e same =
    ap (map listing_of) (take_more_set ls i x h) ∙ map_push listing_of (take i ls) x ∙ ap₂ (λ xs y. xs ++ y ∷ []) same e ∙ sym (map_more opened ts i d k)

-- one lot more is not bad
pub good_more : (ts : List Terms) (i : ℕ) (d : Terms) → i < length ts → some_bad (take i ts) ≡ false → bad_lot (get_or ts i d) ≡ false → some_bad (take (i + 1) ts) ≡ false
good_more ts i d h e g = list_any_more bad_lot ts i d h ∙ ap₂ (λ v w. v || w) e g

-- a lot that is made is not bad, and one that is not made is
pub made-good : (v : Bool) (x y : Listing) → Ok x ≡ unless (if_so v LotTerms) y → (v ≡ false) × (x ≡ y)
made-good true x y e = let z : ◌≡◌ {A = ℕ} 0 1 = cc in absurd (omega arith)
made-good false x y e = (refl, cc)

-- where the next is not made, the offer is bad
pub unmade : (v w : Bool) (k : ℕ) (y : Listing) (ys : List Listing) → (v ≡ true → w ≡ true) → Err k ≡ unless (if_so v LotTerms) y → Err k ≡ unless (if_so w LotTerms) ys
unmade true w k y ys bad e = let six : k ≡ 6 = cc in ap Err six ∙ ap (λ t. unless (if_so t LotTerms) ys) (sym (bad refl))
unmade false w k y ys bad e = let z : ◌≡◌ {A = ℕ} 0 1 = cc in absurd (omega arith)

-- an offer with a bad lot is bad
pub bad-refused : (o : Offer) → some_bad (terms_of o) ≡ true → bad_offer o ≡ true
bad-refused o e = ap (λ v. not (in_range o.count most_lots) || (v || not (eqb (total (map (λ (t : Terms). t.weight) (terms_of o))) 10000))) e ∙ go (not (in_range o.count most_lots))
  where
    go : (v : Bool) → (v || true) ≡ true
    go true = refl
    go false = refl
