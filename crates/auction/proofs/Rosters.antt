-- The places of a roster, as the code holds them. Assumes nothing.
use Rattle.std.proofs.Common.{◌≡◌, ℕ, suc, ◌+◌, ◌-◌, ◌*◌, ◌/◌, ◌<◌, ◌≤◌, List, [], ◌∷◌, map, length, get_or, set, None, Option, sym, refl, ap, ◌∙◌, arith}
use Rattle.std.proofs.lemmas.List.{length-map, get_or-map, get_or_past, map-set, take_all}
use Rattle.share.specs.Rule.{total, limit, upto, share_of}
use Rattle.auction.specs.Enrolling.{put}
use Rattle.auction.specs.Places.{places_of}
use Rattle.auction.specs.Roster.{most_amount, held, place, fund_of, fund_in, funds, Funded}
use Rattle.auction.specs.declared.member.Member.{Member}
use Rattle.auction.specs.declared.place.Place.{Place}
use Rattle.auction.specs.declared.roster.Roster.{Roster}
use Rattle.auction.proofs.Parts.{total-cons}

-- who stands at a place that is there, and past the last
pub place_in : (ps : List Place) (m i : ℕ) (d : Place) → i ≡ m - 1 → i < length ps → held (get_or ps i d) ≡ place (map held ps) m
place_in ps m i d e h = sym (get_or-map held ps i d None h) ∙ ap (λ k. get_or (map held ps) k None) e

pub place-past : (ps : List Place) (m i : ℕ) → i ≡ m - 1 → length ps ≤ i → None ≡ place (map held ps) m
place-past ps m i e h = sym (get_or_past (map held ps) (m - 1) None (omega (arith, length-map ps held)))

-- another entry at a place that is there
pub put_in : (ps : List Place) (m i : ℕ) (x : Option Member) → i ≡ m - 1 → map held (set ps i (record { 0 = x })) ≡ put (map held ps) m x
put_in ps m i x e = map-set held ps i (record { 0 = x }) ∙ ap (λ k. set (map held ps) k x) e

-- the funds of the places
pub funds-held : (ps : List Place) → map fund_in ps ≡ funds (map held ps)
funds-held [] = refl
funds-held (p ∷ ps) = ap (λ ws. fund_in p ∷ ws) (funds-held ps)

-- all funds together
funds-bounded : (r : List (Option Member)) → Funded r → total (funds r) ≤ length r * most_amount
funds-bounded [] h = omega arith
funds-bounded (x ∷ r) h = omega (arith, total-cons (fund_of x) (funds r), (h 0).0, funds-bounded r (λ k. h (suc k)))

pub funds-within : (ps : List Place) → length ps ≡ 32 → Funded (map held ps) → total (map fund_in ps) ≤ limit
funds-within ps whole h = omega (arith, funds-bounded (map held ps) h, length-map ps held, ap total (funds-held ps))

-- past the last weight there is no share
pub share-past : (a : ℕ) (ws : List ℕ) (i : ℕ) → length ws ≤ i → share_of a ws i ≡ 0
share-past a ws i h =
    let here : upto a ws i ≡ a * total ws / total ws = ap (λ xs. a * total xs / total ws) (take_all i ws h) in
    let next : upto a ws (i + 1) ≡ a * total ws / total ws = ap (λ xs. a * total xs / total ws) (take_all (i + 1) ws (omega arith)) in
    omega (arith, here, next)

-- a roster has 32 places
pub length-places : (r : Roster) → length (places_of r) ≡ 32
length-places r = length-map r.places held ∙ r.whole
