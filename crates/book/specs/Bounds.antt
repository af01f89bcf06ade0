-- What bounds every book that has lived: what its seats and members can bear, its limits, and how its pools are filled. Assumes nothing.
use Rattle.std.specs.Prelude.{◌≡◌, ℕ, ◌+◌, ◌<◌, ◌≤◌, List, length, ◌≢◌}
use Rattle.share.specs.Rule.{limit, total}
use Rattle.resource.specs.declared.resource.Resource.{Ghosts}
use Rattle.auction.specs.Laws.{in_no_seat}
use Rattle.auction.specs.Roster.{most_amount, place, fund_of, assessment_of}
use Rattle.auction.specs.Weights.{lot_weights, fill}
use Rattle.book.specs.Lived.{Lived}
use Rattle.book.specs.Next.{all_standing}
use Rattle.book.specs.Runs.{Entry}
use Rattle.book.specs.Standing.{weights_in, capacity_in, standing_in, weight_in, pool_in, fund_bears, assessment_bears}
use Rattle.book.specs.State.{State, view}
use Rattle.book.specs.declared.book.Book.{Book}
use Rattle.book.specs.declared.phase.Phase.TheVariants.{Charging}

-- a fact of every book that has lived
abbrev pub Always : {R : Type 0} → Ghosts R → (State → Type 0) → Type 0
Always {R} g P = (c : ℕ) (h : List Entry) (b : Book R) → Lived g c h b → P (view g b)

-- no seat stands above its capacity, what stands is the net loss, and no fund or assessment bears more than it is
pub record MeansLaw {R : Type 0} (g : Ghosts R) : Type 0 where
  pub seats : Always g (λ b. (s : ℕ) → standing_in b s ≤ capacity_in b s)
  pub whole : Always g (λ b. all_standing b ≡ b.loss)
  pub funds : Always g (λ b. (m : ℕ) → fund_bears b m ≤ fund_of (place b.roster m))
  pub assessments : Always g (λ b. (m : ℕ) → assessment_bears b m ≤ assessment_of (place b.roster m))

-- no fund, assessment or payer's weight is above its limit, and over a house within the limit of a resource no seat's capacity is above it
pub record LimitsLaw {R : Type 0} (g : Ghosts R) : Type 0 where
  pub funds : Always g (λ b. (m : ℕ) → fund_of (place b.roster m) ≤ most_amount)
  pub assessments : Always g (λ b. (m : ℕ) → assessment_of (place b.roster m) ≤ most_amount)
  pub weights : Always g (λ b. (s m : ℕ) → weight_in b s m ≤ most_amount)
  pub capacities : (c : ℕ) (h : List Entry) (b : Book R) → c ≤ limit → Lived g c h b → (s : ℕ) → capacity_in (view g b) s ≤ limit
  pub lots : Always g (λ b. length b.lots ≤ 4)

-- in Charging the pools have the weights that the filling rules give, over lots whose weights add up to 10,000; every pool has 32 payers
pub record FillingLaw {R : Type 0} (g : Ghosts R) : Type 0 where
  pub filled : Always g (λ b. b.phase ≡ Charging → weights_in b.stakes ≡ fill b.roster b.lots)
  pub lots : Always g (λ b. b.phase ≡ Charging → total (lot_weights b.lots) ≡ 10000)
  pub payers : Always g (λ b. (s : ℕ) → 0 < s → s ≤ 7 → (s ≢ 4) → length (pool_in b s).payers ≡ 32)
  -- a member's weights in seats 1 to 3 are its fund less what of it is in no seat, and in seats 5 to 7 its assessment likewise
  pub funds : Always g (λ b. b.phase ≡ Charging → (m : ℕ) → 0 < m → m ≤ 32 →
      weight_in b 1 m + (weight_in b 2 m + weight_in b 3 m) + in_no_seat b.roster b.lots m (fund_of (place b.roster m)) ≡ fund_of (place b.roster m))
  pub assessments : Always g (λ b. b.phase ≡ Charging → (m : ℕ) → 0 < m → m ≤ 32 →
      weight_in b 5 m + (weight_in b 6 m + weight_in b 7 m) + in_no_seat b.roster b.lots m (assessment_of (place b.roster m)) ≡ assessment_of (place b.roster m))
