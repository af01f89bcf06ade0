-- Sums over the numbers of a roster, and shares at every place. Assumes nothing.
use Rattle.std.proofs.Common.{◌≡◌, ℕ, zero, suc, ◌+◌, ◌-◌, ◌*◌, ◌/◌, ◌<◌, ◌≤◌, List, [], ◌∷◌, map, length, get_or, replicate, None, sum_by, Option, sym, refl, ap, ◌∙◌, ap₂, inl, inr, arith}
use Rattle.std.specs.List.{range_with_len}
use Rattle.std.proofs.lemmas.List.FromFn.{fill_by_all}
use Rattle.std.proofs.lemmas.List.{take_all, get_or_past}
use Rattle.std.proofs.lemmas.List.Sums.{sum_by-cons, sum-map}
use Rattle.std.proofs.lemmas.Bool.{cases_lt}
use Rattle.share.specs.Laws.{Within}
use Rattle.share.specs.Rule.{total, upto, share_of}
use Rattle.share.proofs.Shares.{adds_up_within, within-weight, near}
use Rattle.auction.specs.Roster.{place, numbers}
use Rattle.auction.specs.declared.member.Member.{Member}

-- a list of one element alone has it at every place, and where it ends
pub all-alike : {X : Type 0} (n i : ℕ) (x : X) → get_or (replicate n x) i x ≡ x
all-alike zero i x = refl
all-alike (suc n) zero x = refl
all-alike (suc n) (suc i) x = all-alike n i x

pub sum_by-same : {X : Type 0} (f g : X → ℕ) (xs : List X) → ((x : X) → f x ≡ g x) → sum_by f xs ≡ sum_by g xs
sum_by-same f g [] e = refl
sum_by-same f g (x ∷ xs) e = sum_by-cons f x xs ∙ ap₂ ◌+◌ (e x) (sum_by-same f g xs e) ∙ sym (sum_by-cons g x xs)

pub sum_by-plus : {X : Type 0} (f g : X → ℕ) (xs : List X) → sum_by (λ x. f x + g x) xs ≡ sum_by f xs + sum_by g xs
sum_by-plus f g [] = refl
sum_by-plus f g (x ∷ xs) = omega (arith, sum_by-cons (λ x. f x + g x) x xs, sum_by-cons f x xs, sum_by-cons g x xs, sum_by-plus f g xs)

pub sum_by-map : {X Y : Type 0} (f : Y → ℕ) (h : X → Y) (xs : List X) → sum_by f (map h xs) ≡ sum_by (λ x. f (h x)) xs
sum_by-map f h [] = refl
sum_by-map f h (x ∷ xs) = sum_by-cons f (h x) (map h xs) ∙ ap (λ n. f (h x) + n) (sum_by-map f h xs) ∙ sym (sum_by-cons (λ x. f (h x)) x xs)

-- a sum over places counted from 0 is one over numbers counted from 1
by_number : (f : ℕ → ℕ) (a b n : ℕ) → b ≡ a + 1 → sum_by f (range_with_len a n) ≡ sum_by (λ m. f (m - 1)) (range_with_len b n)
by_number f a b zero e = refl
by_number f a b (suc n) e =
    let same : a ≡ b - 1 = omega arith in
    sum_by-cons f a (range_with_len (a + 1) n)
    ∙ ap₂ ◌+◌ (ap f same) (by_number f (a + 1) (b + 1) n (omega arith))
    ∙ sym (sum_by-cons (λ m. f (m - 1)) b (range_with_len (b + 1) n))

-- the shares of what is within the weights, by number
pub shares-by-number : (t : ℕ) (ws : List ℕ) (n : ℕ) → length ws ≡ n → t ≤ total ws → sum_by (λ m. share_of t ws (m - 1)) (range_with_len 1 n) ≡ t
shares-by-number t ws n e h =
    sym (by_number (share_of t ws) 0 1 n refl)
    ∙ ap (λ k. sum_by (share_of t ws) (range_with_len 0 k)) (sym e)
    ∙ sym (sum-map (share_of t ws) (range_with_len 0 (length ws)))
    ∙ adds_up_within t ws h

-- a sum over the members, by number
pub roster-by-number : (f : Option Member → ℕ) (r : List (Option Member)) → sum_by f r ≡ sum_by (λ m. f (place r m)) (numbers r)
roster-by-number f r =
    ap (sum_by f) (fill_by_all (λ i. get_or r i None) r (length r) None refl (λ k h. refl))
    ∙ sum_by-map f (λ i. get_or r i None) (range_with_len 0 (length r))
    ∙ by_number (λ i. f (get_or r i None)) 0 1 (length r) refl

-- past the last weight there is no share
share-past : (t : ℕ) (ws : List ℕ) (i : ℕ) → length ws ≤ i → share_of t ws i ≡ 0
share-past t ws i h =
    let here : upto t ws i ≡ upto t ws (length ws) = ap (λ l. t * total l / total ws) (take_all i ws h ∙ sym (take_all (length ws) ws (omega arith))) in
    let next : upto t ws (i + 1) ≡ upto t ws (length ws) = ap (λ l. t * total l / total ws) (take_all (i + 1) ws (omega arith) ∙ sym (take_all (length ws) ws (omega arith))) in
    omega arith

-- at every place a share is within its weight, where the amount is within the sum of the weights
pub share-within : (t : ℕ) (ws : List ℕ) (i : ℕ) → t ≤ total ws → share_of t ws i ≤ get_or ws i 0
share-within t ws i h = elim (cases_lt i (length ws)) [
  | inl here ↦ within-weight t ws i here h
  | inr past ↦ omega (arith, share-past t ws i past)
]

-- at every place a share is less than 1 from its proportion
pub share-near : (t : ℕ) (ws : List ℕ) (i : ℕ) → 0 < total ws → Within (share_of t ws i * total ws) (t * get_or ws i 0) (total ws)
share-near t ws i some = elim (cases_lt i (length ws)) [
  | inl here ↦ near t ws i here some
  | inr past ↦ rw (share-past t ws i past, get_or_past ws i 0 past) (omega arith, omega arith)
]
