-- One call: the books that come about have one of three shapes, and each call keeps the shape and the money. Assumes nothing.
use Rattle.std.proofs.Common.{◌≡◌, ℕ, zero, suc, ◌+◌, ◌-◌, ◌<◌, ◌≤◌, min, Bool, true, false, cond, not, ◌||◌, eqb, List, [], ◌∷◌, map, length, get_or, set, is_some, Some, None, Ok, Err, Option, Result, sym, refl, ap, ◌∙◌, subst, inl, inr, arith}
use Rattle.std.proofs.lemmas.List.FromFn.{get_or-map-range_with_len}
use Rattle.std.proofs.lemmas.List.{length-set, length-map, length-take, get_or_past}
use Rattle.std.proofs.lemmas.Bool.{cases_lt}
use Rattle.std.proofs.lemmas.Bool.Decides.{nat_tests}
use Rattle.share.specs.Refusals.{numbered, unless, left_by, if_so, first_nonzero, in_range}
use Rattle.share.specs.Rule.{total}
use Rattle.share.specs.declared.refusal.Refusal.{Refusal}
use Rattle.share.specs.declared.refusal.Refusal.TheVariants.{OutOfRange, NotEnrolled, AlreadyEnrolled, OutsideLimits, LotTerms}
use Rattle.share.specs.declared.units.Dollars.{Dollars}
use Rattle.auction.specs.Enrolling.{less, put, member_with, topped_up, no_member, absent, too_much}
use Rattle.auction.specs.Lots.{Listing, unlisted, all_fail, opened, excusing, entering, with_lot}
use Rattle.auction.specs.Offers.{terms_of, bad_offer, some_bad}
use Rattle.auction.specs.Roster.{most_amount, place, fund_of, assessment_of, Funded}
use Rattle.auction.specs.Weights.{lot_weights, fill}
use Rattle.auction.specs.declared.member.Member.{Member}
use Rattle.auction.specs.declared.offer.Offer.{Offer}
use Rattle.auction.specs.declared.terms.Terms.{Terms}
use Rattle.auction.proofs.Funds.{funded-set}
use Rattle.book.specs.Calls.{bid_of}
use Rattle.book.specs.Money.{free}
use Rattle.book.specs.Next.{all_standing, covers, after, reply, answer, next}
use Rattle.book.specs.Refusals.{declined}
use Rattle.book.specs.Runs.{paid_in_by, paid_out_by, covered_by, returned_by}
use Rattle.book.specs.Standing.{capacities_of, fund_bears, assessment_bears, lowered_roster}
use Rattle.book.specs.State.{State, still}
use Rattle.book.specs.declared.answers.Answer.{Answer}
use Rattle.book.specs.declared.answers.Answer.TheVariants as ans
use Rattle.book.specs.declared.answers.Closing.{Closing}
use Rattle.book.specs.declared.calls.Call.{Call}
use Rattle.book.specs.declared.calls.Call.TheVariants as call
use Rattle.book.specs.declared.phase.Phase.{Phase}
use Rattle.book.specs.declared.phase.Phase.TheVariants.{Resting, Bidding}
use Rattle.book.proofs.Seating.{stand-whole}
use Rattle.book.proofs.Free.{loss_at, free-at_loss, free-still, amounts-lowered, length-lowered, amounts-put}

-- a roster has 32 places, and no amount in it is above its limit
pub record Fit (r : List (Option Member)) : Type 0 where
  pub places : length r ≡ 32
  pub funded : Funded r

-- what is left of a member is no more than it was
less-bounded : (x : Option Member) (f a : ℕ) → (fund_of (less x f a) ≤ fund_of x) × (assessment_of (less x f a) ≤ assessment_of x)
less-bounded None f a = (omega arith, omega arith)
less-bounded (Some x) f a = (omega arith, omega arith)

lowered-bounded : (b : State) (i : ℕ) →
    (fund_of (get_or (lowered_roster b) i None) ≤ fund_of (get_or b.roster i None)) × (assessment_of (get_or (lowered_roster b) i None) ≤ assessment_of (get_or b.roster i None))
lowered-bounded b i = elim (cases_lt i (length b.roster)) [
  | inl h ↦
      let f : ℕ = fund_bears b (1 + i) in
      let a : ℕ = assessment_bears b (1 + i) in
      let same : 1 + i - 1 ≡ i = omega arith in
      let is : get_or (lowered_roster b) i None ≡ less (get_or b.roster i None) f a =
      get_or-map-range_with_len (λ m. less (place b.roster m) (fund_bears b m) (assessment_bears b m)) 1 (length b.roster) i (1 + i) None h refl
      ∙ ap (λ j. less (get_or b.roster j None) f a) same in
      subst (λ x. (fund_of x ≤ fund_of (get_or b.roster i None)) × (assessment_of x ≤ assessment_of (get_or b.roster i None))) (sym is) (less-bounded (get_or b.roster i None) f a)
  | inr h ↦
      let is : get_or (lowered_roster b) i None ≡ None = get_or_past (lowered_roster b) i None (omega (arith, length-lowered b)) in
      subst (λ x. (fund_of x ≤ fund_of (get_or b.roster i None)) × (assessment_of x ≤ assessment_of (get_or b.roster i None))) (sym is) (omega arith, omega arith)
]

fit-lowered : (b : State) → Fit b.roster → Fit (lowered_roster b)
fit-lowered b e = record {
  places = length-lowered b ∙ e.places;
  funded = λ i. (omega (arith, (lowered-bounded b i).0, (e.funded i).0), omega (arith, (lowered-bounded b i).1, (e.funded i).1));
}

-- the lots of an auction: at most four, and their weights add up to 10,000
pub record Listed (ls : List Listing) : Type 0 where
  pub few : length ls ≤ 4
  pub whole : total (lot_weights ls) ≡ 10000

-- one lot may change in all but its terms
weights-with : (f : Listing → Listing) → ((l : Listing) → (f l).terms ≡ l.terms) → (ls : List Listing) (i : ℕ) → lot_weights (set ls i (f (get_or ls i unlisted))) ≡ lot_weights ls
weights-with f same [] i = refl
weights-with f same (l ∷ ls) zero = ap (λ t. t.weight ∷ lot_weights ls) (same l)
weights-with f same (l ∷ ls) (suc i) = ap (λ ws. l.terms.weight ∷ ws) (weights-with f same ls i)

listed-with : (f : Listing → Listing) → ((l : Listing) → (f l).terms ≡ l.terms) → (ls : List Listing) (l : ℕ) → Listed ls → Listed (with_lot f l ls)
listed-with f same ls l w = record {
  few = omega (arith, length-set ls (l - 1) (f (get_or ls (l - 1) unlisted)), w.few);
  whole = ap total (weights-with f same ls (l - 1)) ∙ w.whole;
}

weights-opened : (ts : List Terms) → lot_weights (map opened ts) ≡ map (λ t. t.weight) ts
weights-opened [] = refl
weights-opened (t ∷ ts) = ap (λ ws. t.weight ∷ ws) (weights-opened ts)

offered : (o : Offer) → ◌≡◌ {A = ℕ} (if_so (bad_offer o) LotTerms) 0 → (o.count ≤ 4) × (total (map (λ t. t.weight) (terms_of o)) ≡ 10000)
offered o h = go o.count (some_bad (terms_of o)) (total (map (λ t. t.weight) (terms_of o))) h
  where
    go : (n : ℕ) (v : Bool) (w : ℕ) → ◌≡◌ {A = ℕ} (if_so (not (in_range n 4) || (v || not (eqb w 10000))) LotTerms) 0 → (n ≤ 4) × (w ≡ 10000)
    go n v w h = grind (arith, nat_tests)

listed-opened : (o : Offer) → ◌≡◌ {A = ℕ} (if_so (bad_offer o) LotTerms) 0 → Listed (map opened (terms_of o))
listed-opened o h = record {
  few = omega (arith, length-map (terms_of o) opened, length-take o.count o.terms, (offered o h).0);
  whole = ap total (weights-opened (terms_of o)) ∙ (offered o h).1;
}

-- the books that come about
pub data Sound : State → Type 0 where
  at_rest : (r : List (Option Member)) (c : ℕ) → Fit r → Sound (still Resting r [] c)
  at_bids : (r : List (Option Member)) (ls : List Listing) (c : ℕ) → Fit r → Listed ls → Sound (still Bidding r ls c)
  at_charge : (r : List (Option Member)) (ls : List Listing) (c n : ℕ) → Fit r → Listed ls → n ≤ total (capacities_of (fill r ls) c) → Sound (loss_at r ls c n)

-- what one call keeps
pub record Kept (b : State) (k : Call) (a : Result Answer Refusal) (d : State) : Type 0 where
  pub sound : Sound d
  pub money : free b + paid_in_by k a + returned_by a ≡ paid_out_by a + covered_by a + free d

-- an answer that is no refusal, and one that is
numbered-ok : (a : Result Answer Refusal) (x : Answer) → numbered a ≡ Ok x → a ≡ Ok x
numbered-ok (Ok y) x h = cc
numbered-ok (Err e) x h = let z : ◌≡◌ {A = ℕ} 0 1 = cc in absurd (omega arith)

numbered-err : (a : Result Answer Refusal) (n : ℕ) → numbered a ≡ Err n → (P : Result Answer Refusal → Type 0) → ((e : Refusal) → P (Err e)) → P a
numbered-err (Ok y) n h P each = let z : ◌≡◌ {A = ℕ} 0 1 = cc in absurd (omega arith)
numbered-err (Err e) n h P each = each e

-- what holds of every refusal and of an acceptance holds of the call
pub either_way : (b : State) (k : Call) (a : Result Answer Refusal) (d : State) → numbered a ≡ answer b k → d ≡ next b k → (P : Result Answer Refusal → State → Type 0) →
    ((e : Refusal) → P (Err e) b) → (declined b k ≡ 0 → P (Ok (reply b k)) (after b k)) → P a d
either_way b k a d said moved P refuses accepts = go (declined b k) refl said moved
  where
    go : (n : ℕ) → declined b k ≡ n → numbered a ≡ unless n (reply b k) → d ≡ left_by n b (after b k) → P a d
    go zero e s m = subst (P a) (sym m) (subst (λ x. P x (after b k)) (sym (numbered-ok a (reply b k) s)) (accepts e))
    go (suc n) e s m = subst (P a) (sym m) (numbered-err a (suc n) s (λ x. P x b) refuses)

-- where no refusal is among some, none is the first of them
first-none : (n : ℕ) (ns : List ℕ) → first_nonzero (n ∷ ns) ≡ 0 → (n ≡ 0) × (first_nonzero ns ≡ 0)
first-none zero ns h = (refl, h)
first-none (suc n) ns h = absurd (omega arith)

none-of-three : (x y z : ℕ) → first_nonzero (x ∷ y ∷ z ∷ []) ≡ 0 → (x ≡ 0) × (y ≡ 0) × (z ≡ 0)
none-of-three x y z h =
    let one = first-none x (y ∷ z ∷ []) h in
    let two = first-none y (z ∷ []) one.1 in
    (one.0, two.0, (first-none z [] two.1).0)

-- what an accepted call with a member's number knows of it
placed : (m : ℕ) → ◌≡◌ {A = ℕ} (if_so (no_member m) OutOfRange) 0 → (0 < m) × (m ≤ 32)
placed m h = grind (arith, nat_tests)

vacant : (o : Option Member) → ◌≡◌ {A = ℕ} (if_so (is_some o) AlreadyEnrolled) 0 → fund_of o + assessment_of o ≡ 0
vacant None h = refl
vacant (Some x) h = absurd (omega arith)

both-within : (f a : ℕ) → ◌≡◌ {A = ℕ} (if_so (too_much f a) OutsideLimits) 0 → (f ≤ most_amount) × (a ≤ most_amount)
both-within f a h = grind (arith, nat_tests)

all-within : (f a g b : ℕ) → ◌≡◌ {A = ℕ} (if_so (too_much f a || too_much g b) OutsideLimits) 0 → (g ≤ most_amount) × (b ≤ most_amount)
all-within f a g b h = grind (arith, nat_tests)

abbrev Steps : State → Call → Type 0
Steps b k = declined b k ≡ 0 → Kept b k (Ok (reply b k)) (after b k)

module _ (r : List (Option Member)) (c : ℕ) (e : Fit r) where
  seat-taken : (m : ℕ) (x : Option Member) → fund_of x ≤ most_amount → assessment_of x ≤ most_amount → Sound (still Resting (put r m x) [] c)
  seat-taken m x f a = at_rest (put r m x) c (record {
    places = length-set r (m - 1) x ∙ e.places;
    funded = funded-set r (m - 1) x f a e.funded;
  })

  put-free : (m : ℕ) (x : Option Member) → 0 < m → m ≤ 32 →
      free (still Resting (put r m x) [] c) + (fund_of (place r m) + assessment_of (place r m)) ≡ free (still Resting r [] c) + (fund_of x + assessment_of x)
  put-free m x h k = rw (free-still Resting (put r m x) [] c, free-still Resting r [] c) (omega (arith, amounts-put r m x h (omega (arith, e.places))))

  enrolled : (m : ℕ) (f a : Dollars) → Steps (still Resting r [] c) (call.Enrol m f a)
  enrolled m f a ok =
      let none = none-of-three (if_so (no_member m) OutOfRange) (if_so (is_some (place r m)) AlreadyEnrolled) (if_so (too_much f.0 a.0) OutsideLimits) ok in
      let p = placed m none.0 in
      let x : Option Member = member_with f.0 a.0 in
      let w = both-within f.0 a.0 none.2 in
      record { sound = seat-taken m x w.0 w.1; money = omega (arith, put-free m x p.0 p.1, vacant (place r m) none.1) }

  topped : (m : ℕ) (f a : Dollars) → Steps (still Resting r [] c) (call.TopUp m f a)
  topped m f a ok =
      let g : ℕ = fund_of (place r m) + f.0 in
      let b : ℕ = assessment_of (place r m) + a.0 in
      let none = none-of-three (if_so (no_member m) OutOfRange) (if_so (absent r m) NotEnrolled) (if_so (too_much f.0 a.0 || too_much g b) OutsideLimits) ok in
      let p = placed m none.0 in
      let x : Option Member = topped_up (place r m) f.0 a.0 in
      let w = all-within f.0 a.0 g b none.2 in
      record { sound = seat-taken m x w.0 w.1; money = omega (arith, put-free m x p.0 p.1) }

  let_go : (m : ℕ) → Steps (still Resting r [] c) (call.Release m)
  let_go m ok =
      let p = placed m (first-none (if_so (no_member m) OutOfRange) (if_so (absent r m) NotEnrolled ∷ []) ok).0 in
      record { sound = seat-taken m None (omega arith) (omega arith); money = omega (arith, put-free m None p.0 p.1) }

-- outside Charging the lots and the phase move nothing
unmoved : (p q : Phase) (r : List (Option Member)) (ls ms : List Listing) (c : ℕ) → free (still p r ls c) ≡ free (still q r ms c)
unmoved p q r ls ms c = free-still p r ls c ∙ sym (free-still q r ms c)

-- what stands and what a charge covers are within the capacity
room-left : (s n x c : ℕ) → s ≡ n → n ≤ c → s + min x (c - s) ≤ c
room-left s n x c e h = omega arith

-- the money of a charge and of a recovery
charge-money : (old new s n m all : ℕ) → old + n ≡ all → new + (s + m) ≡ all → s ≡ n → old + 0 + 0 ≡ 0 + m + new
charge-money old new s n m all e f g = omega arith

recover-money : (old new n m all : ℕ) → m ≤ n → old + n ≡ all → new + (n - m) ≡ all → old + 0 + m ≡ 0 + 0 + new
recover-money old new n m all h e f = omega arith

-- and of a conclude
conclude-money : (left c t new : ℕ) → new ≡ left + (c - t) → left + (c - t) + 0 + 0 ≡ 0 + 0 + new
conclude-money left c t new e = omega arith

module _ (r : List (Option Member)) (ls : List Listing) (c : ℕ) (e : Fit r) (w : Listed ls) where
  shut : (v : Bool) (x : Closing) → Kept (still Bidding r ls c) call.Close (Ok (ans.Closed x)) (cond v (still Resting r [] c) (loss_at r ls c 0))
  shut true x = record { sound = at_rest r c e; money = omega (arith, unmoved Bidding Resting r ls [] c) }
  shut false x = record { sound = at_charge r ls c 0 e w (omega arith); money = omega (arith, free-still Bidding r ls c, free-at_loss r ls c 0 (omega arith)) }

  module _ (n : ℕ) (h : n ≤ total (capacities_of (fill r ls) c)) where
    -- in Charging what stands is the net loss
    pub stands-whole : all_standing (loss_at r ls c n) ≡ n
    stands-whole = stand-whole (capacities_of (fill r ls) c) n h

    -- a charge keeps within the capacity
    pub charge-within : (x : ℕ) → all_standing (loss_at r ls c n) + covers (loss_at r ls c n) x ≤ total (capacities_of (fill r ls) c)
    charge-within x = room-left (all_standing (loss_at r ls c n)) n x (total (capacities_of (fill r ls) c)) stands-whole h

    charged : (x : Dollars) → Steps (loss_at r ls c n) (call.Charge x)
    charged x ok =
        let b : State = loss_at r ls c n in
        record {
          sound = at_charge r ls c (all_standing b + covers b x.0) e w (charge-within x.0);
          money = charge-money (free b) (free (loss_at r ls c (all_standing b + covers b x.0))) (all_standing b) n (covers b x.0) _
              (free-at_loss r ls c n h) (free-at_loss r ls c (all_standing b + covers b x.0) (charge-within x.0)) stands-whole;
        }

    recovered : (x : Dollars) → Steps (loss_at r ls c n) (call.Recover x)
    recovered x ok =
        let m : ℕ = min x.0 n in
        let k : n - m ≤ total (capacities_of (fill r ls) c) = omega arith in
        record {
          sound = at_charge r ls c (n - m) e w k;
          money = recover-money (free (loss_at r ls c n)) (free (loss_at r ls c (n - m))) n m _ (omega arith) (free-at_loss r ls c n h) (free-at_loss r ls c (n - m) k);
        }

    ended : Steps (loss_at r ls c n) call.Conclude
    ended ok =
        let b : State = loss_at r ls c n in
        record {
          sound = at_rest (lowered_roster b) (c - b.standing) (fit-lowered b e);
          money = conclude-money _ c b.standing (free (still Resting (lowered_roster b) [] (c - b.standing))) (free-still Resting (lowered_roster b) [] (c - b.standing) ∙ ap (λ x. x + (c - b.standing)) (amounts-lowered b));
        }

  relisted : (p : Phase) (ks : List Listing) (k : Call) (a : Result Answer Refusal) → paid_in_by k a ≡ 0 → returned_by a ≡ 0 → paid_out_by a ≡ 0 → covered_by a ≡ 0 →
      Kept (still p r ks c) k a (still Bidding r ls c)
  relisted p ks k a i j l m = record { sound = at_bids r ls c e w; money = omega (arith, unmoved p Bidding r ks ls c) }

accepted : (b : State) → Sound b → (k : Call) → Steps b k
accepted b (at_rest r c e) (call.Enrol m f a) ok = enrolled r c e m f a ok
accepted b (at_rest r c e) (call.TopUp m f a) ok = topped r c e m f a ok
accepted b (at_rest r c e) (call.Release m) ok = let_go r c e m ok
accepted b (at_rest r c e) (call.Open o) ok = relisted r _ c e (listed-opened o (first-none (if_so (bad_offer o) LotTerms) [] ok).0) Resting [] (call.Open o) _ refl refl refl refl
accepted b (at_rest r c e) (call.Excuse m l) ok = absurd (omega arith)
accepted b (at_rest r c e) (call.Bid m l t x p) ok = absurd (omega arith)
accepted b (at_rest r c e) call.Close ok = absurd (omega arith)
accepted b (at_rest r c e) (call.Charge x) ok = absurd (omega arith)
accepted b (at_rest r c e) (call.Recover x) ok = absurd (omega arith)
accepted b (at_rest r c e) call.Conclude ok = absurd (omega arith)
accepted b (at_bids r ls c e w) (call.Enrol m f a) ok = absurd (omega arith)
accepted b (at_bids r ls c e w) (call.TopUp m f a) ok = absurd (omega arith)
accepted b (at_bids r ls c e w) (call.Release m) ok = absurd (omega arith)
accepted b (at_bids r ls c e w) (call.Open o) ok = absurd (omega arith)
accepted b (at_bids r ls c e w) (call.Excuse m l) ok = relisted r _ c e (listed-with (excusing m) (λ _. refl) ls l w) Bidding ls (call.Excuse m l) _ refl refl refl refl
accepted b (at_bids r ls c e w) (call.Bid m l t x p) ok = relisted r _ c e (listed-with (entering (bid_of m t x p)) (λ _. refl) ls l w) Bidding ls (call.Bid m l t x p) _ refl refl refl refl
accepted b (at_bids r ls c e w) call.Close ok = shut r ls c e w (all_fail ls) _
accepted b (at_bids r ls c e w) (call.Charge x) ok = absurd (omega arith)
accepted b (at_bids r ls c e w) (call.Recover x) ok = absurd (omega arith)
accepted b (at_bids r ls c e w) call.Conclude ok = absurd (omega arith)
accepted b (at_charge r ls c n e w h) (call.Enrol m f a) ok = absurd (omega arith)
accepted b (at_charge r ls c n e w h) (call.TopUp m f a) ok = absurd (omega arith)
accepted b (at_charge r ls c n e w h) (call.Release m) ok = absurd (omega arith)
accepted b (at_charge r ls c n e w h) (call.Open o) ok = absurd (omega arith)
accepted b (at_charge r ls c n e w h) (call.Excuse m l) ok = absurd (omega arith)
accepted b (at_charge r ls c n e w h) (call.Bid m l t x p) ok = absurd (omega arith)
accepted b (at_charge r ls c n e w h) call.Close ok = absurd (omega arith)
accepted b (at_charge r ls c n e w h) (call.Charge x) ok = charged r ls c e w n h x ok
accepted b (at_charge r ls c n e w h) (call.Recover x) ok = recovered r ls c e w n h x ok
accepted b (at_charge r ls c n e w h) call.Conclude ok = ended r ls c e w n h ok

-- one call with the answer and the effect that the rules give
pub step : (b : State) (k : Call) (a : Result Answer Refusal) (d : State) → numbered a ≡ answer b k → d ≡ next b k → Sound b → Kept b k a d
step b k a d said moved s = either_way b k a d said moved (Kept b k) (λ _. record { sound = s; money = omega arith }) (accepted b s k)
