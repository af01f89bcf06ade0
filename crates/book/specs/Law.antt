-- What holds of every book that has lived, whatever it lived through and over whatever resource. Assumes nothing.
use Rattle.std.specs.Prelude.{◌≡◌, ℕ, ◌+◌, ◌*◌, ◌<◌, ◌≤◌, List, ◌≢◌}
use Rattle.share.specs.Laws.{Within}
use Rattle.resource.specs.declared.resource.Resource.{Ghosts}
use Rattle.book.specs.Lived.{Lived, Charged}
use Rattle.book.specs.Money.{free}
use Rattle.book.specs.Runs.{Entry, calls, paid_in, paid_out, covered_in, returned_in}
use Rattle.book.specs.Standing.{capacity_in, standing_in, weight_in, bears_in}
use Rattle.book.specs.State.{State, view}
use Rattle.book.specs.declared.book.Book.{Book}

-- money is kept: the house's first capacity, what was paid in and what was returned are what was paid out, what was covered and what is free
abbrev pub Conserves : {R : Type 0} → Ghosts R → Type 0
Conserves {R} g = (c : ℕ) (h : List Entry) (b : Book R) → Lived g c h b → c + paid_in h + returned_in h ≡ paid_out h + covered_in h + free (view g b)

-- seats in order: no seat bears a dollar while an earlier seat has a dollar free
abbrev pub InOrder : {R : Type 0} → Ghosts R → Type 0
InOrder {R} g = (c : ℕ) (h : List Entry) (b : Book R) → Lived g c h b →
    (s t : ℕ) → 0 < s → s < t → t ≤ 7 → 0 < standing_in (view g b) t → standing_in (view g b) s ≡ capacity_in (view g b) s

-- a member bears in a seat its exact proportion, less than a dollar more or less, and nothing where the capacity is 0
abbrev pub Proportional : State → ℕ → ℕ → Type 0
Proportional b s m =
    (0 < capacity_in b s → Within (bears_in b s m * capacity_in b s) (standing_in b s * weight_in b s m) (capacity_in b s)) × (capacity_in b s ≡ 0 → bears_in b s m ≡ 0)

-- in proportion: so does every member in every seat but the fourth
abbrev pub InProportion : {R : Type 0} → Ghosts R → Type 0
InProportion {R} g = (c : ℕ) (h : List Entry) (b : Book R) → Lived g c h b →
    (s m : ℕ) → 0 < s → s ≤ 7 → (s ≢ 4) → 0 < m → m ≤ 32 → Proportional (view g b) s m

-- two books alike in all seats: capacity, standing and what each member bears
abbrev pub Alike : State → State → Type 0
Alike b d = (s : ℕ) → 0 < s → s ≤ 7 →
    (capacity_in b s ≡ capacity_in d s) × (standing_in b s ≡ standing_in d s) × ((m : ℕ) → 0 < m → m ≤ 32 → bears_in b s m ≡ bears_in d s m)

-- the loss alone decides: two books over any two resources, after the same calls up to the close and as much covered less returned since, are alike
abbrev pub ByLossAlone : {R S : Type 0} → Ghosts R → Ghosts S → Type 0
ByLossAlone {R} {S} g k = (c : ℕ) (h i s t : List Entry) (b : Book R) (d : Book S) → Charged g c h s b → Charged k c i t d → calls h ≡ calls i →
    covered_in s + returned_in t ≡ covered_in t + returned_in s → Alike (view g b) (view k d)

-- the law of the book
pub record Law {R S : Type 0} (g : Ghosts R) (k : Ghosts S) : Type 0 where
  pub conserves : Conserves g
  pub in_order : InOrder g
  pub in_proportion : InProportion g
  pub by_loss_alone : ByLossAlone g k
