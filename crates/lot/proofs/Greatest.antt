-- The greatest of the prices of bids, as a chain of iterators finds it. Assumes nothing.
use Rattle.std.proofs.Common.{◌≡◌, Bool, true, false, cond, List, [], ◌∷◌, map, fold, Some, None, Option, refl, ap, ◌∙◌, arith}
use lib.Signed.{lt_z}
use Rattle.std.proofs.lemmas.Int.{ints}
use Rattle.std.specs.List.{filter, reduce}
use Rattle.std.specs.Ordering.{max_by_ordering, int_cmp}
use Rattle.lot.specs.Price.{better, greatest}
use Rattle.lot.specs.declared.bid.Bid.{Bid}
use Rattle.lot.specs.declared.bid.Price.{Price}

-- the greater of three prices
better-assoc : (a b c : Option Price) → better (better a b) c ≡ better a (better b c)
better-assoc None b c = refl
better-assoc (Some x) None c = refl
better-assoc (Some x) (Some y) None = refl
better-assoc (Some x) (Some y) (Some z) = ap Some (chosen x y z (lt_z y.0 x.0) (lt_z z.0 y.0) refl refl)
  where
    chosen : (x y z : Price) (u v : Bool) → lt_z y.0 x.0 ≡ u → lt_z z.0 y.0 ≡ v →
        cond (lt_z z.0 (cond u x y).0) (cond u x y) z ≡ cond (lt_z (cond v y z).0 x.0) x (cond v y z)
    chosen x y z true true e f = let h : lt_z z.0 x.0 ≡ true = grind (arith, ints) in rw (h, e)
    chosen x y z true false e f = refl
    chosen x y z false true e f = rw (e, f)
    chosen x y z false false e f = let h : lt_z z.0 x.0 ≡ false = grind (arith, ints) in rw (f, h)

abbrev pub later : Price → Price → Price
later p q = max_by_ordering (int_cmp p.0 q.0) p q

later-better : (p q : Price) → later p q ≡ cond (lt_z q.0 p.0) p q
later-better p q = grind (arith, ints)

-- the greatest of a list of prices
abbrev best : List Price → Option Price
best [] = None
best (p ∷ ps) = better (Some p) (best ps)

kept : (p : Price) (ps : List Price) → Some (fold later p ps) ≡ better (Some p) (best ps)
kept p [] = refl
kept p (q ∷ ps) = kept (later p q) ps ∙ ap (λ r. better (Some r) (best ps)) (later-better p q) ∙ better-assoc (Some p) (Some q) (best ps)

reduced : (ps : List Price) → reduce later ps ≡ best ps
reduced [] = refl
reduced (p ∷ ps) = kept p ps

passing : (f : Bid → Bool) (bs : List Bid) → best (map (λ b. b.price) (filter f bs)) ≡ greatest f bs
passing f [] = refl
passing f (b ∷ bs) = by (f b) refl (passing f bs)
  where
    by : (v : Bool) → f b ≡ v → best (map (λ b. b.price) (filter f bs)) ≡ greatest f bs → best (map (λ b. b.price) (filter f (b ∷ bs))) ≡ greatest f (b ∷ bs)
    by true e rest = rw e (ap (better (Some b.price)) rest)
    by false e rest = rw e rest

pub greatest-is : (f : Bid → Bool) (bs : List Bid) → reduce later (map (λ b. b.price) (filter f bs)) ≡ greatest f bs
greatest-is f bs = reduced (map (λ b. b.price) (filter f bs)) ∙ passing f bs
