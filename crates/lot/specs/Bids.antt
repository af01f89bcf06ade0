-- Bids: which are meant, and how many parts they ask for. Assumes nothing.
use Rattle.std.specs.Prelude.{ℕ, Bool, true, false, cond, not, ◌&&◌, List, sum_by, ◌==◌, int_le, int_lt}
use Rattle.lot.specs.declared.bid.Bid.{Bid}
use Rattle.lot.specs.declared.bid.Kind.{Kind}
use Rattle.lot.specs.declared.bid.Kind.TheVariants.{Standard, AllOrNothing}
use Rattle.lot.specs.declared.bid.Level.{Level}
use Rattle.lot.specs.declared.bid.Level.TheVariants.{AtOrBetter, Above, Exactly}
use Rattle.lot.specs.declared.bid.Price.{Price}
use Rattle.lot.specs.declared.bid.Whose.{Whose}
use Rattle.lot.specs.declared.bid.Whose.TheVariants.{Everyone, One}

-- whether a kind is Standard
abbrev pub standard : Kind → Bool
standard Standard = true
standard AllOrNothing = false

-- whether a bid is Standard
abbrev pub is_standard : Bid → Bool
is_standard b = standard b.kind

-- whether a bid is one of those that are meant
abbrev pub is_of : Whose → Bid → Bool
is_of Everyone b = true
is_of (One member) b = b.member == member

-- whether a bid is a Standard bid of theirs
abbrev pub standard_of : Whose → Bid → Bool
standard_of w b = is_standard b && is_of w b

-- whether a bid is an All or Nothing bid of theirs
abbrev pub all_or_nothing_of : Whose → Bid → Bool
all_or_nothing_of w b = not (is_standard b) && is_of w b

-- whether two prices are the same
abbrev pub same_price : Price → Price → Bool
same_price p q = int_le p.0 q.0 && int_le q.0 p.0

-- a whole lot, in parts
abbrev pub whole : ℕ
whole = 10000

-- whether a price is one of those that are meant
abbrev pub meets : Level → Price → Bool
meets (AtOrBetter p) q = int_le p.0 q.0
meets (Above p) q = int_lt p.0 q.0
meets (Exactly p) q = same_price p q

-- the parts that a bid asks for: its size if it is a Standard bid of theirs at a price that is meant
abbrev pub asked : Whose → Level → Bid → ℕ
asked w l b = cond (standard_of w b && meets l b.price) b.size.0 0

-- the parts that all bids ask for
abbrev pub all_asked : Whose → Level → List Bid → ℕ
all_asked w l bs = sum_by (asked w l) bs

-- the parts that a bid offers at any price, if it is a Standard bid of theirs
abbrev pub offered : Whose → Bid → ℕ
offered w b = cond (standard_of w b) b.size.0 0

-- the parts that their Standard bids offer
abbrev pub all_offered : Whose → List Bid → ℕ
all_offered w bs = sum_by (offered w) bs
