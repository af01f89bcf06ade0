-- What each bid gets of a lot, in parts. Assumes nothing.
use Rattle.std.specs.Prelude.{◌≡◌, ℕ, ◌+◌, ◌-◌, ◌*◌, ◌<◌, ◌≤◌, Bool, true, false, cond, not, ◌&&◌, List, [], ◌∷◌, map, length, ◌<ℤ◌, is_some, Some, None, Option, slice_index, slice_index_or}
use Rattle.share.specs.Laws.{Within}
use Rattle.share.specs.Rule.{total, shares_of}
use Rattle.lot.specs.Bids.{whole, standard, is_standard, same_price, asked, all_asked}
use Rattle.lot.specs.Price.{lot_price, by_standard, by_all_or_nothing, clearing}
use Rattle.lot.specs.declared.bid.Bid.{Bid}
use Rattle.lot.specs.declared.bid.Kind.{Kind}
use Rattle.lot.specs.declared.bid.Kind.TheVariants.{Standard, AllOrNothing}
use Rattle.lot.specs.declared.bid.Level.TheVariants.{Above, Exactly}
use Rattle.lot.specs.declared.bid.Price.{Price}
use Rattle.lot.specs.declared.bid.Whose.{Whose}
use Rattle.lot.specs.declared.bid.Whose.TheVariants.{Everyone}
use Rattle.lot.specs.declared.bids.price.Cleared.{Cleared}

-- the parts of a bid above a price, and those at it
abbrev pub above : Whose → Price → Bid → ℕ
above w p b = asked w (Above p) b

abbrev pub tied : Whose → Price → Bid → ℕ
tied w p b = asked w (Exactly p) b

-- the parts of their Standard bids above a price, and of those at it
abbrev pub all_above : Whose → Price → List Bid → ℕ
all_above w p bs = all_asked w (Above p) bs

abbrev pub all_tied : Whose → Price → List Bid → ℕ
all_tied w p bs = all_asked w (Exactly p) bs

-- two lists added place by place
abbrev pub plus : List ℕ → List ℕ → List ℕ
plus [] ys = ys
plus (x ∷ xs) [] = x ∷ xs
plus (x ∷ xs) (y ∷ ys) = (x + y) ∷ plus xs ys

-- m parts given to their Standard bids down to a price: those above it get their size, and those at it their shares of the rest
abbrev pub down_to : Whose → ℕ → Price → List Bid → List ℕ
down_to w m p bs = plus (map (above w p) bs) (shares_of (m - all_above w p bs) (map (tied w p) bs))

-- nothing for each bid
abbrev pub nothing : List Bid → List ℕ
nothing bs = map (λ b. 0) bs

-- whether a bid is an All or Nothing bid at a price
abbrev pub takes_all : Price → Bid → Bool
takes_all p b = not (is_standard b) && same_price p b.price

-- the earliest entered All or Nothing bid at a price takes the whole lot, and every other bid nothing
abbrev pub first_takes : Price → List Bid → List ℕ
first_takes p [] = []
first_takes p (b ∷ bs) = cond (takes_all p b) (whole ∷ nothing bs) (0 ∷ first_takes p bs)

-- what each bid gets where a kind sets the price
abbrev pub allotted_by : Kind → Price → List Bid → List ℕ
allotted_by Standard p bs = down_to Everyone whole p bs
allotted_by AllOrNothing p bs = first_takes p bs

-- what each bid gets by how the lot is cleared
abbrev pub allotted : Option Cleared → List Bid → List ℕ
allotted None bs = nothing bs
allotted (Some c) bs = allotted_by c.by c.price bs

-- what each bid gets, in entry order
abbrev pub allocations : List Bid → List ℕ
allocations bs = allotted (clearing bs) bs

-- the size of a bid
abbrev pub size_of : Bid → ℕ
size_of b = b.size.0

-- b is the bid at place i
abbrev pub BidAt : List Bid → ℕ → Bid → Type 0
BidAt bs i b = (i < length bs) × (b ≡ slice_index_or bs i b)

-- whether two kinds are the same
abbrev pub same_kind : Kind → Kind → Bool
same_kind Standard k = standard k
same_kind AllOrNothing k = not (standard k)

-- whether it is this kind that sets the price
abbrev pub sets_price : Option Cleared → Kind → Bool
sets_price None k = false
sets_price (Some c) k = same_kind c.by k

-- no All or Nothing bid at a price was entered before place i
abbrev pub NoneBefore : Price → List Bid → ℕ → Type 0
NoneBefore p bs i = (k : ℕ) (c : Bid) → k < i → BidAt bs k c → takes_all p c ≡ false

-- what each bid gets of a lot
pub record AllocationLaw (bs : List Bid) (ks : List ℕ) : Type 0 where
  -- each bid has its allocation
  pub each : length ks ≡ length bs
  -- they are the whole lot where it has a price, and nothing where it has none
  pub sum : total ks ≡ cond (is_some (lot_price bs)) whole 0
  -- no bid gets more than its size
  pub within : (i : ℕ) → slice_index ks i ≤ slice_index (map size_of bs) i
  -- a bid below the lot's price gets nothing
  pub below : (p : Price) → lot_price bs ≡ Some p → (i : ℕ) (b : Bid) → BidAt bs i b → b.price.0 <ℤ p.0 → slice_index ks i ≡ 0
  -- a bid of a kind that does not set the price gets nothing
  pub other_kind : (i : ℕ) (b : Bid) → BidAt bs i b → sets_price (clearing bs) b.kind ≡ false → slice_index ks i ≡ 0
  -- where Standard bids set the price, a Standard bid above it gets its size
  pub served : (p : Price) → clearing bs ≡ by_standard p → (i : ℕ) (b : Bid) → BidAt bs i b → is_standard b ≡ true → p.0 <ℤ b.price.0 → slice_index ks i ≡ size_of b
  -- where Standard bids set the price, a Standard bid at it gets its proportion of the rest, less than one part more or less
  pub near : (p : Price) → clearing bs ≡ by_standard p → (i : ℕ) (b : Bid) → BidAt bs i b → is_standard b ≡ true → b.price.0 ≡ p.0 →
      Within (slice_index ks i * all_tied Everyone p bs) ((whole - all_above Everyone p bs) * size_of b) (all_tied Everyone p bs)
  -- where an All or Nothing bid sets the price, what gets anything is the earliest entered All or Nothing bid at it
  pub earliest : (p : Price) → clearing bs ≡ by_all_or_nothing p → (i : ℕ) (b : Bid) → BidAt bs i b → 0 < slice_index ks i → (takes_all p b ≡ true) × NoneBefore p bs i
