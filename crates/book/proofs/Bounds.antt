-- Every amount, weight and capacity of a book that has lived is within its limit, and its pools are filled by the rules. Assumes nothing.
use Rattle.std.proofs.Common.{◌≡◌, ℕ, zero, suc, ◌+◌, ◌-◌, ◌<◌, ◌≤◌, List, [], ◌∷◌, length, get_or, replicate, None, Option, refl, ap, ◌∙◌, arith}
use Rattle.std.specs.List.{AllByRecursion}
use Rattle.std.proofs.lemmas.Bool.{cond_both}
use Rattle.share.specs.Rule.{limit, total}
use Rattle.resource.specs.declared.resource.Resource.{Ghosts}
use Rattle.resource.specs.Totals.{light-total}
use Rattle.auction.specs.Lots.{Listing, all_fail}
use Rattle.auction.specs.Laws.{in_no_seat}
use Rattle.auction.specs.Roster.{most_amount, place, fund_of, assessment_of}
use Rattle.auction.specs.Weights.{lot_weights, fill, each_weight, first_weight, second_weight, third_weight}
use Rattle.auction.specs.declared.member.Member.{Member}
use Rattle.auction.proofs.Parts.{weights-at_most, length-weights, weights-whole}
use Rattle.book.specs.Bounds.{MeansLaw, LimitsLaw, FillingLaw}
use Rattle.book.specs.Lived.{Lived, new, lived}
use Rattle.book.specs.Next.{all_standing, with_lots, filled, after}
use Rattle.book.specs.Runs.{Entry}
use Rattle.book.specs.Standing.{capacities_of, weights_in, capacities, capacity_in, standing_in, nobody, by_seat, pool_in, weight_in, fund_bears, assessment_bears}
use Rattle.book.specs.State.{State, view}
use Rattle.book.specs.declared.book.Book.{Book}
use Rattle.book.specs.declared.calls.Call.{Call}
use Rattle.book.specs.declared.calls.Call.TheVariants as call
use Rattle.book.specs.declared.phase.Phase.TheVariants.{Resting, Bidding, Charging}
use Rattle.book.proofs.Free.{within-means, idle-bears}
use Rattle.book.proofs.Histories.{keeps, nothing-stands}
use Rattle.book.proofs.Sums.{all-alike}
use Rattle.book.proofs.Seating.{stand-within}
use Rattle.book.proofs.Steps.{Fit, Sound, at_rest, at_bids, at_charge, either_way, stands-whole}

-- no seat stands above its capacity
seats-within : (b : State) → Sound b → (s : ℕ) → standing_in b s ≤ capacity_in b s
seats-within b (at_rest r c e) s = omega (arith, nothing-stands (s - 1))
seats-within b (at_bids r ls c e w) s = omega (arith, nothing-stands (s - 1))
seats-within b (at_charge r ls c n e w fits) s = stand-within (capacities_of (fill r ls) c) n (s - 1)

-- what stands is the net loss
stands-as-loss : (b : State) → Sound b → all_standing b ≡ b.loss
stands-as-loss b (at_rest r c e) = refl
stands-as-loss b (at_bids r ls c e w) = refl
stands-as-loss b (at_charge r ls c n e w fits) = stands-whole r ls c e w n fits

-- no member bears more than it has
means : (b : State) → Sound b → (m : ℕ) → (fund_bears b m ≤ fund_of (place b.roster m)) × (assessment_bears b m ≤ assessment_of (place b.roster m))
means b (at_rest r c e) m = let none = idle-bears Resting r [] c m in (omega (arith, none.0), omega (arith, none.1))
means b (at_bids r ls c e w) m = let none = idle-bears Bidding r ls c m in (omega (arith, none.0), omega (arith, none.1))
means b (at_charge r ls c n e w fits) m = within-means r ls c n m

pub means-law : {R : Type 0} (g : Ghosts R) → MeansLaw g
means-law g = record {
  seats = λ c h b life. seats-within (view g b) (keeps g c life).0;
  whole = λ c h b life. stands-as-loss (view g b) (keeps g c life).0;
  funds = λ c h b life m. (means (view g b) (keeps g c life).0 m).0;
  assessments = λ c h b life m. (means (view g b) (keeps g c life).0 m).1;
}

roster-fits : {b : State} → Sound b → Fit b.roster
roster-fits (at_rest r c e) = e
roster-fits (at_bids r ls c e w) = e
roster-fits (at_charge r ls c n e w h) = e

-- a pool with 32 payers and no weight above its limit
record Sized (ws : List ℕ) : Type 0 where
  long : length ws ≡ 32
  light : (i : ℕ) → get_or ws i 0 ≤ most_amount

sized-total : (ws : List ℕ) → Sized ws → total ws ≤ limit
sized-total ws z = light-total ws (λ k h. z.light k) (omega (arith, z.long))

sized-idle : Sized (replicate 32 0)
sized-idle = record { long = refl; light = λ i. omega (arith, all-alike {X = ℕ} 32 i 0) }

-- the three pools of an amount within its limit
module _ (r : List (Option Member)) (ls : List Listing) (places : length r ≡ 32) (amount : Option Member → ℕ) (within : (i : ℕ) → amount (get_or r i None) ≤ most_amount) where
  sized-first : Sized (each_weight (first_weight r ls) amount r)
  sized-first = record { long = length-weights (first_weight r ls) amount r ∙ places; light = λ i. omega (arith, weights-at_most r ls amount i, within i) }

  sized-second : Sized (each_weight (second_weight r ls) amount r)
  sized-second = record { long = length-weights (second_weight r ls) amount r ∙ places; light = λ i. omega (arith, weights-at_most r ls amount i, within i) }

  sized-third : Sized (each_weight (third_weight r ls) amount r)
  sized-third = record { long = length-weights (third_weight r ls) amount r ∙ places; light = λ i. omega (arith, weights-at_most r ls amount i, within i) }

-- the pools of a book by seat
record Pools (b : State) : Type 0 where
  first : Sized b.stakes.first.payers
  second : Sized b.stakes.second.payers
  third : Sized b.stakes.third.payers
  fifth : Sized b.stakes.fifth.payers
  sixth : Sized b.stakes.sixth.payers
  seventh : Sized b.stakes.seventh.payers

pools : (b : State) → Sound b → Pools b
pools b (at_rest r c e) = record { first = sized-idle; second = sized-idle; third = sized-idle; fifth = sized-idle; sixth = sized-idle; seventh = sized-idle }
pools b (at_bids r ls c e w) = record { first = sized-idle; second = sized-idle; third = sized-idle; fifth = sized-idle; sixth = sized-idle; seventh = sized-idle }
pools b (at_charge r ls c n e w h) = record {
  first = sized-first r ls e.places fund_of (λ i. (e.funded i).0);
  second = sized-second r ls e.places fund_of (λ i. (e.funded i).0);
  third = sized-third r ls e.places fund_of (λ i. (e.funded i).0);
  fifth = sized-first r ls e.places assessment_of (λ i. (e.funded i).1);
  sixth = sized-second r ls e.places assessment_of (λ i. (e.funded i).1);
  seventh = sized-third r ls e.places assessment_of (λ i. (e.funded i).1);
}

all-at : {A : Type 0} (P : A → Type 0) (xs : List A) (d : A) → AllByRecursion P xs → P d → (i : ℕ) → P (get_or xs i d)
all-at P [] d each other i = other
all-at P (x ∷ xs) d each other zero = each.0
all-at P (x ∷ xs) d each other (suc i) = all-at P xs d each.1 other i

weight-bounded : (b : State) → Pools b → (s m : ℕ) → weight_in b s m ≤ most_amount
weight-bounded b p s m = all-at (λ k. get_or k.payers (m - 1) 0 ≤ most_amount) (by_seat b.stakes) nobody each (omega arith) (s - 1)
  where
    each : AllByRecursion (λ k. get_or k.payers (m - 1) 0 ≤ most_amount) (by_seat b.stakes)
    each = (p.first.light (m - 1), (p.second.light (m - 1), (p.third.light (m - 1), (omega arith, (p.fifth.light (m - 1), (p.sixth.light (m - 1), (p.seventh.light (m - 1), tt)))))))

capacity-bounded : (b : State) → Pools b → b.capacity ≤ limit → (s : ℕ) → capacity_in b s ≤ limit
capacity-bounded b p h s = all-at (λ n. n ≤ limit) (capacities b) 0 each (omega arith) (s - 1)
  where
    each : AllByRecursion (λ n. n ≤ limit) (capacities b)
    each =
        (sized-total _ p.first, (sized-total _ p.second, (sized-total _ p.third, (h, (sized-total _ p.fifth, (sized-total _ p.sixth, (sized-total _ p.seventh, tt)))))))

-- the house's capacity never grows
house-after : (b : State) (k : Call) → (after b k).capacity ≤ b.capacity
house-after b (call.Enrol m f a) = omega arith
house-after b (call.TopUp m f a) = omega arith
house-after b (call.Release m) = omega arith
house-after b (call.Open o) = omega arith
house-after b (call.Excuse m l) = omega arith
house-after b (call.Bid m l k n p) = omega arith
house-after b call.Close = cond_both (all_fail b.lots) (with_lots b Resting []) (filled b) (λ d. d.capacity ≤ b.capacity) (λ _. omega arith) (λ _. omega arith)
house-after b (call.Charge n) = omega arith
house-after b (call.Recover n) = omega arith
house-after b call.Conclude = omega arith

house-within : {R : Type 0} (g : Ghosts R) (c : ℕ) {h : List Entry} {b : Book R} → Lived g c h b → (view g b).capacity ≤ c
house-within g c (new b e) = omega (arith, ap (λ s. s.capacity) e)
house-within g c (lived b d k a h life does) =
    omega (arith, house-within g c life, either_way (view g b) k a (view g d) does.answered does.moved (λ x s. s.capacity ≤ (view g b).capacity) (λ x. omega arith) (λ ok. house-after (view g b) k))

few-lots : (b : State) → Sound b → length b.lots ≤ 4
few-lots b (at_rest r c e) = omega arith
few-lots b (at_bids r ls c e w) = w.few
few-lots b (at_charge r ls c n e w h) = w.few

pub limits-law : {R : Type 0} (g : Ghosts R) → LimitsLaw g
limits-law g = record {
  funds = λ c h b life m. ((roster-fits (keeps g c life).0).funded (m - 1)).0;
  assessments = λ c h b life m. ((roster-fits (keeps g c life).0).funded (m - 1)).1;
  weights = λ c h b life. weight-bounded (view g b) (pools (view g b) (keeps g c life).0);
  capacities = λ c h b house life. capacity-bounded (view g b) (pools (view g b) (keeps g c life).0) (omega (arith, house-within g c life));
  lots = λ c h b life. few-lots (view g b) (keeps g c life).0;
}

filled-by-rules : (b : State) → Sound b → b.phase ≡ Charging → weights_in b.stakes ≡ fill b.roster b.lots
filled-by-rules b (at_rest r c e) is = let z : ◌≡◌ {A = ℕ} 0 1 = cc in absurd (omega arith)
filled-by-rules b (at_bids r ls c e w) is = let z : ◌≡◌ {A = ℕ} 0 1 = cc in absurd (omega arith)
filled-by-rules b (at_charge r ls c n e w h) is = refl

lots-whole : (b : State) → Sound b → b.phase ≡ Charging → total (lot_weights b.lots) ≡ 10000
lots-whole b (at_rest r c e) is = let z : ◌≡◌ {A = ℕ} 0 1 = cc in absurd (omega arith)
lots-whole b (at_bids r ls c e w) is = let z : ◌≡◌ {A = ℕ} 0 1 = cc in absurd (omega arith)
lots-whole b (at_charge r ls c n e w h) is = w.whole

payers-long : (b : State) → Pools b → (s : ℕ) → 0 < s → s ≤ 7 → (s ≡ 4 → ⊥) → length (pool_in b s).payers ≡ 32
payers-long b p zero low high ne = absurd (omega arith)
payers-long b p (suc zero) low high ne = p.first.long
payers-long b p (suc (suc zero)) low high ne = p.second.long
payers-long b p (suc (suc (suc zero))) low high ne = p.third.long
payers-long b p (suc (suc (suc (suc zero)))) low high ne = absurd (ne refl)
payers-long b p (suc (suc (suc (suc (suc zero))))) low high ne = p.fifth.long
payers-long b p (suc (suc (suc (suc (suc (suc zero)))))) low high ne = p.sixth.long
payers-long b p (suc (suc (suc (suc (suc (suc (suc zero))))))) low high ne = p.seventh.long
payers-long b p (suc (suc (suc (suc (suc (suc (suc (suc s)))))))) low high ne = absurd (omega arith)

-- a member's weights in the seats of its fund and in those of its assessment
weights-add-up : (b : State) → Sound b → b.phase ≡ Charging → (m : ℕ) → 0 < m → m ≤ 32 →
    (weight_in b 1 m + (weight_in b 2 m + weight_in b 3 m) + in_no_seat b.roster b.lots m (fund_of (place b.roster m)) ≡ fund_of (place b.roster m)) ×
    (weight_in b 5 m + (weight_in b 6 m + weight_in b 7 m) + in_no_seat b.roster b.lots m (assessment_of (place b.roster m)) ≡ assessment_of (place b.roster m))
weights-add-up b (at_rest r c e) is m low high = let z : ◌≡◌ {A = ℕ} 0 1 = cc in absurd (omega arith)
weights-add-up b (at_bids r ls c e w) is m low high = let z : ◌≡◌ {A = ℕ} 0 1 = cc in absurd (omega arith)
weights-add-up b (at_charge r ls c n e w h) is m low high = (
  weights-whole r ls fund_of (omega (arith, w.whole)) m low (omega (arith, e.places)),
  weights-whole r ls assessment_of (omega (arith, w.whole)) m low (omega (arith, e.places)),
)

pub filling-law : {R : Type 0} (g : Ghosts R) → FillingLaw g
filling-law g = record {
  filled = λ c h b life. filled-by-rules (view g b) (keeps g c life).0;
  lots = λ c h b life. lots-whole (view g b) (keeps g c life).0;
  payers = λ c h b life. payers-long (view g b) (pools (view g b) (keeps g c life).0);
  funds = λ c h b life is m low high. (weights-add-up (view g b) (keeps g c life).0 is m low high).0;
  assessments = λ c h b life is m low high. (weights-add-up (view g b) (keeps g c life).0 is m low high).1;
}
