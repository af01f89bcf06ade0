-- What is free, and what is borne: together they are what the members and the house have. Assumes nothing.
use Rattle.std.proofs.Common.{◌≡◌, ℕ, ◌+◌, ◌-◌, ◌<◌, ◌≤◌, List, [], ◌∷◌, length, get_or, replicate, Some, None, sum_by, Option, sym, refl, ap, ◌∙◌, ap₂, arith}
use Rattle.std.proofs.lemmas.List.FromFn.{length-map-range_with_len}
use Rattle.std.proofs.lemmas.List.Sums.{sum_by-set}
use Rattle.share.specs.Rule.{total, share_of}
use Rattle.share.proofs.Shares.{share-at_most}
use Rattle.auction.specs.Lots.{Listing}
use Rattle.auction.specs.Enrolling.{less, put}
use Rattle.auction.specs.Roster.{place, fund_of, assessment_of, numbers}
use Rattle.auction.specs.Weights.{fill, each_weight, first_weight, second_weight, third_weight}
use Rattle.auction.specs.declared.member.Member.{Member}
use Rattle.auction.proofs.Parts.{weights-at_most, length-weights}
use Rattle.book.specs.Money.{free_of, free}
use Rattle.book.specs.Standing.{stand, capacities_of, at_loss, fund_bears, assessment_bears, lowered_roster}
use Rattle.book.specs.State.{State, still}
use Rattle.book.specs.declared.phase.Phase.{Phase}
use Rattle.book.proofs.Seating.{stand-whole, stand-within}
use Rattle.book.proofs.Sums.{sum_by-same, sum_by-plus, sum_by-map, shares-by-number, roster-by-number, share-within}

-- what a member has, and what all members have
unfoldable pub has : Option Member → ℕ
has x = fund_of x + assessment_of x

unfoldable pub amounts : List (Option Member) → ℕ
amounts r = sum_by has r

-- a book in Charging with its own pools
abbrev pub loss_at : List (Option Member) → List Listing → ℕ → ℕ → State
loss_at r ls c n = at_loss r ls (fill r ls) c n

-- what is free of the members and what they bear is what they have, where nobody bears more than it has
free-and-borne : (b : State) → ((m : ℕ) → (fund_bears b m ≤ fund_of (place b.roster m)) × (assessment_bears b m ≤ assessment_of (place b.roster m))) →
    sum_by (free_of b) (numbers b.roster) + sum_by (λ m. fund_bears b m + assessment_bears b m) (numbers b.roster) ≡ amounts b.roster
unfolding amounts has
free-and-borne b within =
    sym (sum_by-plus (free_of b) (λ m. fund_bears b m + assessment_bears b m) (numbers b.roster))
    ∙ sum_by-same (λ m. free_of b m + (fund_bears b m + assessment_bears b m)) (λ m. has (place b.roster m)) (numbers b.roster)
    (λ m. apart (fund_of (place b.roster m)) (assessment_of (place b.roster m)) (fund_bears b m) (assessment_bears b m) (within m).0 (within m).1)
    ∙ sym (roster-by-number has b.roster)
  where
    apart : (f a x y : ℕ) → x ≤ f → y ≤ a → ((f - x) + (a - y)) + (x + y) ≡ f + a
    apart f a x y h k = omega arith

-- three pools over the members, whose weights never add up to more than an amount
record Fills (r : List (Option Member)) (amount : Option Member → ℕ) (u v w : List ℕ) : Type 0 where
  u_length : length u ≡ length r
  v_length : length v ≡ length r
  w_length : length w ≡ length r
  bounded : (i : ℕ) → get_or u i 0 + (get_or v i 0 + get_or w i 0) ≤ amount (get_or r i None)

fills : (r : List (Option Member)) (ls : List Listing) (amount : Option Member → ℕ) →
    Fills r amount (each_weight (first_weight r ls) amount r) (each_weight (second_weight r ls) amount r) (each_weight (third_weight r ls) amount r)
fills r ls amount = record {
  u_length = length-weights (first_weight r ls) amount r;
  v_length = length-weights (second_weight r ls) amount r;
  w_length = length-weights (third_weight r ls) amount r;
  bounded = weights-at_most r ls amount;
}

-- what the members bear in three pools at their standings
abbrev borne_of : ℕ → ℕ → ℕ → List ℕ → List ℕ → List ℕ → ℕ → ℕ
borne_of a b c u v w m = share_of a u (m - 1) + (share_of b v (m - 1) + share_of c w (m - 1))

-- it is all that stands, and no member bears more than it has
module _ {r : List (Option Member)} {amount : Option Member → ℕ} {u v w : List ℕ} (fit : Fills r amount u v w) (a b c : ℕ) (ha : a ≤ total u) (hb : b ≤ total v) (hc : c ≤ total w) where
  borne-whole : sum_by (borne_of a b c u v w) (numbers r) ≡ a + (b + c)
  borne-whole =
      sum_by-plus (λ m. share_of a u (m - 1)) (λ m. share_of b v (m - 1) + share_of c w (m - 1)) (numbers r)
      ∙ ap₂ ◌+◌ (shares-by-number a u (length r) fit.u_length ha)
      (sum_by-plus (λ m. share_of b v (m - 1)) (λ m. share_of c w (m - 1)) (numbers r)
      ∙ ap₂ ◌+◌ (shares-by-number b v (length r) fit.v_length hb) (shares-by-number c w (length r) fit.w_length hc))

  borne-within : (m : ℕ) → borne_of a b c u v w m ≤ amount (place r m)
  borne-within m = omega (arith, fit.bounded (m - 1), share-within a u (m - 1) ha, share-within b v (m - 1) hb, share-within c w (m - 1) hc)

-- the arithmetic of seven standings
seven-standings : (free borne have c n t u v w x y z : ℕ) → free + borne ≡ have → borne ≡ (t + (u + v)) + (x + (y + z)) → total (t ∷ u ∷ v ∷ w ∷ x ∷ y ∷ z ∷ []) ≡ n → w ≤ c →
    free + (c - w) + n ≡ have + c
seven-standings free borne have c n t u v w x y z e f g h = omega arith

module _ (r : List (Option Member)) (ls : List Listing) (c n : ℕ) where
  -- how the seats stand, counted from 0
  abbrev stands : ℕ → ℕ
  stands s = get_or (stand (capacities_of (fill r ls) c) n) s 0

  room : (s : ℕ) → stands s ≤ get_or (capacities_of (fill r ls) c) s 0
  room s = stand-within (capacities_of (fill r ls) c) n s

  -- no member bears more than it has
  pub within-means : (m : ℕ) → (fund_bears (loss_at r ls c n) m ≤ fund_of (place r m)) × (assessment_bears (loss_at r ls c n) m ≤ assessment_of (place r m))
  within-means m = (
    borne-within (fills r ls fund_of) (stands 0) (stands 1) (stands 2) (room 0) (room 1) (room 2) m,
    borne-within (fills r ls assessment_of) (stands 4) (stands 5) (stands 6) (room 4) (room 5) (room 6) m,
  )

  all-borne : sum_by (λ m. fund_bears (loss_at r ls c n) m + assessment_bears (loss_at r ls c n) m) (numbers r) ≡ (stands 0 + (stands 1 + stands 2)) + (stands 4 + (stands 5 + stands 6))
  all-borne =
      sum_by-plus (fund_bears (loss_at r ls c n)) (assessment_bears (loss_at r ls c n)) (numbers r)
      ∙ ap₂ ◌+◌ (borne-whole (fills r ls fund_of) (stands 0) (stands 1) (stands 2) (room 0) (room 1) (room 2))
      (borne-whole (fills r ls assessment_of) (stands 4) (stands 5) (stands 6) (room 4) (room 5) (room 6))

  -- what is free and what stands are all that the members and the house have
  pub free-at_loss : n ≤ total (capacities_of (fill r ls) c) → free (loss_at r ls c n) + n ≡ amounts r + c
  free-at_loss h =
      seven-standings (sum_by (free_of (loss_at r ls c n)) (numbers r)) (sum_by (λ m. fund_bears (loss_at r ls c n) m + assessment_bears (loss_at r ls c n) m) (numbers r)) (amounts r) c n
      (stands 0) (stands 1) (stands 2) (stands 3) (stands 4) (stands 5) (stands 6)
      (free-and-borne (loss_at r ls c n) within-means) all-borne (stand-whole (capacities_of (fill r ls) c) n h) (room 3)

-- outside Charging nobody bears anything
pub idle-bears : (p : Phase) (r : List (Option Member)) (ls : List Listing) (c m : ℕ) → (fund_bears (still p r ls c) m ≡ 0) × (assessment_bears (still p r ls c) m ≡ 0)
idle-bears p r ls c m = let none = share-at_most 0 (replicate 32 0) (m - 1) in (omega arith, omega arith)

pub free-still : (p : Phase) (r : List (Option Member)) (ls : List Listing) (c : ℕ) → free (still p r ls c) ≡ amounts r + c
unfolding amounts has
free-still p r ls c =
    ap (λ n. n + (c - 0)) (sum_by-same (free_of (still p r ls c)) (λ m. has (place r m)) (numbers r) (λ m. whole (fund_of (place r m)) (assessment_of (place r m)) _ _ (idle-bears p r ls c m).0 (idle-bears p r ls c m).1) ∙ sym (roster-by-number has r))
    ∙ ap (λ n. amounts r + n) (omega arith)
  where
    whole : (f a x y : ℕ) → x ≡ 0 → y ≡ 0 → (f - x) + (a - y) ≡ f + a
    whole f a x y e h = omega arith

-- conclude leaves each member what is free of it
pub amounts-lowered : (b : State) → amounts (lowered_roster b) ≡ sum_by (free_of b) (numbers b.roster)
unfolding amounts has
amounts-lowered b =
    sum_by-map has (λ m. less (place b.roster m) (fund_bears b m) (assessment_bears b m)) (numbers b.roster)
    ∙ sum_by-same (λ m. has (less (place b.roster m) (fund_bears b m) (assessment_bears b m))) (free_of b) (numbers b.roster) (λ m. left (place b.roster m) (fund_bears b m) (assessment_bears b m))
  where
    left : (x : Option Member) (f a : ℕ) → has (less x f a) ≡ (fund_of x - f) + (assessment_of x - a)
    left None f a = omega arith
    left (Some x) f a = refl

pub length-lowered : (b : State) → length (lowered_roster b) ≡ length b.roster
length-lowered b = length-map-range_with_len (λ m. less (place b.roster m) (fund_bears b m) (assessment_bears b m)) 1 (length b.roster)

-- another entry at one place of the roster
pub amounts-put : (r : List (Option Member)) (m : ℕ) (x : Option Member) → 0 < m → m ≤ length r →
    amounts (put r m x) + (fund_of (place r m) + assessment_of (place r m)) ≡ amounts r + (fund_of x + assessment_of x)
unfolding amounts has
amounts-put r m x low high = sum_by-set has r (m - 1) x None (omega arith)
