-- The average price of a member in a lot, its BP. Assumes nothing.
use Rattle.std.specs.Prelude.{◌≡◌, ℕ, zero, suc, ◌-◌, ◌/◌, ◌≤◌, List, [], ◌∷◌, ℤ, pos, negsuc, ◌+ℤ◌, ◌*ℤ◌, ◌≤ℤ◌, ◌<ℤ◌, is_some, Some, None, fold, Option, nat_le}
use Rattle.share.specs.Rule.{total}
use Rattle.lot.specs.Bids.{offered, all_offered}
use Rattle.lot.specs.Price.{better, reached, all_or_nothing_price}
use Rattle.lot.specs.Allocation.{above, all_above}
use Rattle.lot.specs.declared.bid.Bid.{Bid}
use Rattle.lot.specs.declared.bid.Price.{Price}
use Rattle.lot.specs.declared.bid.Whose.{Whose}
use Rattle.lot.specs.declared.bid.Whose.TheVariants.{One}

-- the quotient rounded down, toward minus infinity
abbrev pub floor : ℤ → ℕ → ℤ
floor (pos n) m = pos (n / m)
floor (negsuc n) m = negsuc (n / m)

-- the parts that an average is taken over: the requirement, or 1 where it is 0
abbrev pub averaged : ℕ → ℕ
averaged zero = 1
averaged (suc n) = suc n

-- price × parts of a bid that is above a price
abbrev pub worth_above : Whose → Price → Bid → ℤ
worth_above w q b = b.price.0 *ℤ pos (above w q b)

-- price × parts over all their parts above a price
abbrev pub all_worth_above : Whose → Price → List Bid → ℤ
all_worth_above w q bs = fold (λ z b. z +ℤ worth_above w q b) (pos 0) bs

-- price × parts over the best m parts: all parts above the price q where the bids reach m, and the rest at q
abbrev pub worth_down_to : Whose → ℕ → List Bid → Price → ℤ
worth_down_to w m bs q = all_worth_above w q bs +ℤ (q.0 *ℤ pos (m - all_above w q bs))

-- the average over the best m parts, where the bids reach as many
abbrev pub average_from : Whose → ℕ → List Bid → Option Price → Option Price
average_from w m bs None = None
average_from w m bs (Some q) = Some (record { 0 = floor (worth_down_to w m bs q) m })

-- the average price of their best m parts
abbrev pub average : Whose → ℕ → List Bid → Option Price
average w m bs = average_from w m bs (reached w m bs)

-- BP: the greater of the average, where the Standard bids reach the requirement, and of the price of the All or Nothing bid
abbrev pub best_price : ℕ → ℕ → List Bid → Option Price
best_price member requirement bs = better (average (One member) (averaged requirement) bs) (all_or_nothing_price (One member) bs)

-- a choice of parts of their Standard bids: of each bid at most what it offers
abbrev pub Choice : Whose → List Bid → List ℕ → Type 0
Choice w [] [] = Unit {0}
Choice w [] (k ∷ ks) = ⊥
Choice w (b ∷ bs) [] = ⊥
Choice w (b ∷ bs) (k ∷ ks) = (k ≤ offered w b) × Choice w bs ks

-- price × parts over a choice
abbrev pub worth : List Bid → List ℕ → ℤ
worth [] ks = pos 0
worth (b ∷ bs) [] = pos 0
worth (b ∷ bs) (k ∷ ks) = (b.price.0 *ℤ pos k) +ℤ worth bs ks

-- z is the greatest price × parts that a choice of m parts has
pub record Best (w : Whose) (m : ℕ) (bs : List Bid) (z : ℤ) : Type 0 where
  pub attained : (ks : List ℕ) × Choice w bs ks × (total ks ≡ m) × (worth bs ks ≡ z)
  pub greatest_one : (ks : List ℕ) → Choice w bs ks → total ks ≡ m → worth bs ks ≤ℤ z

-- an average over m parts is there exactly if their Standard bids add up to m or more; it is the greatest worth of m parts, divided by m and rounded down
pub record AverageLaw (w : Whose) (m : ℕ) (bs : List Bid) (r : Option Price) : Type 0 where
  pub counts : is_some r ≡ nat_le m (all_offered w bs)
  pub rounded : (a : Price) → r ≡ Some a → (z : ℤ) × Best w m bs z × ((a.0 *ℤ pos m) ≤ℤ z) × (z <ℤ ((a.0 +ℤ pos 1) *ℤ pos m))
