-- The price that the bids of a lot make. Assumes nothing.
use Rattle.std.specs.Prelude.{◌≡◌, ℕ, ◌≤◌, Bool, false, cond, ◌&&◌, ◌⊎◌, List, [], ◌∷◌, ◌≤ℤ◌, Some, None, Option, Contains, int_lt, nat_le}
use Rattle.lot.specs.Bids.{whole, is_standard, standard_of, all_or_nothing_of, asked, all_asked}
use Rattle.lot.specs.declared.bid.Bid.{Bid}
use Rattle.lot.specs.declared.bid.Kind.TheVariants.{Standard, AllOrNothing}
use Rattle.lot.specs.declared.bid.Level.TheVariants.{AtOrBetter}
use Rattle.lot.specs.declared.bid.Price.{Price}
use Rattle.lot.specs.declared.bid.Whose.{Whose}
use Rattle.lot.specs.declared.bid.Whose.TheVariants.{Everyone}
use Rattle.lot.specs.declared.bids.price.Cleared.{Cleared}

-- a bid's parts at a price or better
abbrev pub at_or_better : Whose → Price → Bid → ℕ
at_or_better w p b = asked w (AtOrBetter p) b

-- the parts of their Standard bids at a price or better
abbrev pub demand : Whose → Price → List Bid → ℕ
demand w p bs = all_asked w (AtOrBetter p) bs

-- the greater of two prices, where both are there
abbrev pub better : Option Price → Option Price → Option Price
better None q = q
better (Some p) None = Some p
better (Some p) (Some q) = Some (cond (int_lt q.0 p.0) p q)

-- the price of a bid, if it passes
abbrev pub price_if : Bool → Bid → Option Price
price_if passes b = cond passes (Some b.price) None

-- the greatest of the prices of the bids that pass a test
abbrev pub greatest : (Bid → Bool) → List Bid → Option Price
greatest passes [] = None
greatest passes (b ∷ bs) = better (price_if (passes b) b) (greatest passes bs)

-- a price is the greatest of those of the bids that pass a test, which is known by what it answers of a bid
abbrev pub IsGreatest : (Bid → Bool → Type 0) → List Bid → Option Price → Type 0
IsGreatest Answers bs r = (passes : Bid → Bool) → ((b : Bid) (t : Bool) → Answers b t → t ≡ passes b) → r ≡ greatest passes bs

-- whether a bid is a Standard bid of theirs at whose price these bids reach a number of parts
abbrev pub reaches : Whose → ℕ → List Bid → Bid → Bool
reaches w m bs b = standard_of w b && nat_le m (demand w b.price bs)

-- the greatest price of their Standard bids at which these reach a number of parts
abbrev pub reached : Whose → ℕ → List Bid → Option Price
reached w m bs = greatest (reaches w m bs) bs

-- the Standard price: where the Standard bids reach the whole lot
abbrev pub standard_price : List Bid → Option Price
standard_price bs = reached Everyone whole bs

-- the greatest price of their All or Nothing bids
abbrev pub all_or_nothing_price : Whose → List Bid → Option Price
all_or_nothing_price w bs = greatest (all_or_nothing_of w) bs

-- the lot's price: the greater of the Standard and the All or Nothing price; the lot fails where there is neither
abbrev pub lot_price : List Bid → Option Price
lot_price bs = better (standard_price bs) (all_or_nothing_price Everyone bs)

-- Standard bids set the price, or an All or Nothing bid does
abbrev pub by_standard : Price → Option Cleared
by_standard p = Some (record { price = p; by = Standard })

abbrev pub by_all_or_nothing : Price → Option Cleared
by_all_or_nothing p = Some (record { price = p; by = AllOrNothing })

-- which kind sets the price: All or Nothing if its price is at least the Standard price or stands alone; the lot fails where there is neither
abbrev pub cleared : Option Price → Option Price → Option Cleared
cleared None None = None
cleared (Some s) None = by_standard s
cleared None (Some a) = by_all_or_nothing a
cleared (Some s) (Some a) = cond (int_lt a.0 s.0) (by_standard s) (by_all_or_nothing a)

-- how a lot is cleared
abbrev pub clearing : List Bid → Option Cleared
clearing bs = cleared (standard_price bs) (all_or_nothing_price Everyone bs)

-- the price at which a lot is cleared
abbrev pub price_of : Option Cleared → Option Price
price_of None = None
price_of (Some c) = Some c.price

-- a price sells the lot: the Standard bids at it or better are for the whole lot or more, or an All or Nothing bid is at it or better
abbrev pub Sells : List Bid → Price → Type 0
Sells bs p = (whole ≤ demand Everyone p bs) ⊎ ((b : Bid) × Contains bs b × (is_standard b ≡ false) × (p.0 ≤ℤ b.price.0))

-- the lot's price is the greatest that sells it, and there is none exactly where none sells it
pub record PriceLaw (bs : List Bid) (r : Option Price) : Type 0 where
  pub sells : (p : Price) → r ≡ Some p → Sells bs p
  pub greatest_one : (p q : Price) → r ≡ Some p → Sells bs q → q.0 ≤ℤ p.0
  pub fails : r ≡ None → (q : Price) → Sells bs q → ⊥
  pub unsold : ((q : Price) → Sells bs q → ⊥) → r ≡ None
