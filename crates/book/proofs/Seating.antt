-- How a loss stands in the seats, and what it leaves each member to bear. Assumes nothing.
use Rattle.std.proofs.Common.{◌≡◌, ℕ, zero, suc, ◌-◌, ◌*◌, ◌<◌, ◌≤◌, min, false, not, List, [], ◌∷◌, get_or, Ok, sym, refl, ap, ◌∙◌, ap₂, arith}
use Rattle.std.proofs.lemmas.Bool.Decides.{nat_tests}
use Rattle.share.specs.Laws.{Within}
use Rattle.share.specs.Refusals.{unless, if_so, first_nonzero, in_range}
use Rattle.share.specs.declared.refusal.Refusal.TheVariants.{OutOfRange}
use Rattle.share.specs.Rule.{total, share_of}
use Rattle.share.proofs.Shares.{nothing}
use Rattle.resource.specs.Pools.{Stake}
use Rattle.auction.proofs.Parts.{total-cons}
use Rattle.book.specs.Calls.{dollars}
use Rattle.book.specs.Law.{Proportional}
use Rattle.book.specs.Questions.{of_seat}
use Rattle.book.specs.Refusals.{out_of_phase}
use Rattle.book.specs.Standing.{stand, no_pool, pool_in, capacity_in, standing_in}
use Rattle.book.specs.State.{State}
use Rattle.book.specs.declared.answers.Seat.{Seat}
use Rattle.book.specs.declared.phase.Phase.TheVariants.{Charging}
use Rattle.book.proofs.Sums.{share-near}

-- no seat stands above what is to stand
stand-below : (cs : List ℕ) (n i : ℕ) → get_or (stand cs n) i 0 ≤ n
stand-below [] n i = omega arith
stand-below (c ∷ cs) n zero = omega arith
stand-below (c ∷ cs) n (suc i) = omega (arith, stand-below cs (n - c) i)

-- nor above its capacity
pub stand-within : (cs : List ℕ) (n i : ℕ) → get_or (stand cs n) i 0 ≤ get_or cs i 0
stand-within [] n i = omega arith
stand-within (c ∷ cs) n zero = omega arith
stand-within (c ∷ cs) n (suc i) = stand-within cs (n - c) i

-- all of it stands somewhere, if there is room
pub stand-whole : (cs : List ℕ) (n : ℕ) → n ≤ total cs → total (stand cs n) ≡ n
stand-whole [] n h = omega arith
stand-whole (c ∷ cs) n h =
    let all = total-cons c cs in
    omega (arith, total-cons (min c n) (stand cs (n - c)), stand-whole cs (n - c) (omega arith))

-- a seat is full before the next one stands
pub stand-in_order : (cs : List ℕ) (n i j : ℕ) → i < j → 0 < get_or (stand cs n) j 0 → get_or (stand cs n) i 0 ≡ get_or cs i 0
stand-in_order [] n i j h some = refl
stand-in_order (c ∷ cs) n i zero h some = absurd (omega arith)
stand-in_order (c ∷ cs) n zero (suc j) h some = omega (arith, stand-below cs (n - c) j)
stand-in_order (c ∷ cs) n (suc i) (suc j) h some = stand-in_order cs (n - c) i j (omega arith) some

-- a seat but the fourth shows its pool
seat-pool : (b : State) (s : ℕ) → 0 < s → s ≤ 7 → (s ≡ 4 → ⊥) → (capacity_in b s ≡ total (pool_in b s).payers) × (standing_in b s ≡ (pool_in b s).standing)
seat-pool b zero low high ne = absurd (omega arith)
seat-pool b (suc zero) low high ne = (refl, refl)
seat-pool b (suc (suc zero)) low high ne = (refl, refl)
seat-pool b (suc (suc (suc zero))) low high ne = (refl, refl)
seat-pool b (suc (suc (suc (suc zero)))) low high ne = absurd (ne refl)
seat-pool b (suc (suc (suc (suc (suc zero))))) low high ne = (refl, refl)
seat-pool b (suc (suc (suc (suc (suc (suc zero)))))) low high ne = (refl, refl)
seat-pool b (suc (suc (suc (suc (suc (suc (suc zero))))))) low high ne = (refl, refl)
seat-pool b (suc (suc (suc (suc (suc (suc (suc (suc s)))))))) low high ne = absurd (omega arith)

-- a seat that has a pool is one of the seven, and not the fourth
pooled : (s : ℕ) → no_pool s ≡ false → (0 < s) × (s ≤ 7) × (s ≡ 4 → ⊥) × (if_so (not (in_range s 7)) OutOfRange ≡ 0)
pooled s h = (grind (arith, nat_tests), grind (arith, nat_tests), λ e. grind (arith, nat_tests), grind (arith, nat_tests))

-- such a seat answers what its pool can stand for and what it stands for
pub seat-asked : (b : State) (s : ℕ) (p : Stake) (r : Seat) → out_of_phase b Charging ≡ 0 → no_pool s ≡ false → p ≡ pool_in b s → r.capacity.0 ≡ total p.payers → r.standing.0 ≡ p.standing →
    Ok r ≡ of_seat b s
seat-asked b s p r charging some is most now =
    let here = pooled s some in
    let shows = seat-pool b s here.0 here.1 here.2 in
    answers (out_of_phase b Charging) (if_so (not (in_range s 7)) OutOfRange) (capacity_in b s) (standing_in b s) charging here.3
    (most ∙ ap (λ k. total k.payers) is ∙ sym shows.0) (now ∙ ap (λ k. k.standing) is ∙ sym shows.1)
  where
    answers : (n m c t : ℕ) → n ≡ 0 → m ≡ 0 → r.capacity.0 ≡ c → r.standing.0 ≡ t → Ok r ≡ unless (first_nonzero (n ∷ m ∷ [])) (record { capacity = dollars c; standing = dollars t })
    answers n m c t e f g h = rw (e, f) (ap₂ (λ x y. Ok (record { capacity = dollars x; standing = dollars y })) g h)

proportion : (ws : List ℕ) (c t u : ℕ) → c ≡ total ws → t ≡ u → (i : ℕ) → (0 < c → Within (share_of u ws i * c) (t * get_or ws i 0) c) × (c ≡ 0 → share_of u ws i ≡ 0)
proportion ws c t u e f i = rw (e, f) (λ some. share-near u ws i some, λ none. nothing u ws i none)

-- in every book a member bears in a pool by its weight
pub proportional : (b : State) (s m : ℕ) → 0 < s → s ≤ 7 → (s ≡ 4 → ⊥) → Proportional b s m
proportional b s m low high ne =
    let shows = seat-pool b s low high ne in
    proportion (pool_in b s).payers (capacity_in b s) (standing_in b s) (pool_in b s).standing shows.0 shows.1 (m - 1)
