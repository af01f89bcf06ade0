-- The class of a member in a lot, and what of an amount is senior in it. Assumes nothing.
use Rattle.std.specs.Prelude.{ℕ, ◌*◌, ◌/◌, ◌%◌, cond, not, ◌||◌, ℤ, pos, negsuc, ◌-ℤ◌, Some, None, Option, ◌==◌, int_lt, nat_lt}
use Rattle.lot.specs.declared.bid.Price.{Price}
use Rattle.lot.specs.declared.class.Class.{Class}
use Rattle.lot.specs.declared.class.Class.TheVariants.{Senior, Split, Subordinate, Excused, NonBidding}

-- the number of the refusal of a PRI: 6 where it is odd or outside 2 to 2,000,000,000, else 0
abbrev pub pri_refusal : ℕ → ℕ
pri_refusal n = cond (not (n % 2 == 0) || (nat_lt n 2 || nat_lt 2000000000 n)) 6 0

-- half a PRI below the lot's price
abbrev pub senior_threshold : ℤ → ℕ → ℤ
senior_threshold p pri = p -ℤ pos (pri / 2)

-- one PRI below the senior threshold
abbrev pub subordinate_threshold : ℤ → ℕ → ℤ
subordinate_threshold p pri = senior_threshold p pri -ℤ pos pri

-- the class by BP: Senior above the one threshold, Subordinate below the other, Split between them and at both
abbrev pub by_price : ℤ → ℕ → ℤ → Class
by_price p pri bp = cond (int_lt (senior_threshold p pri) bp) Senior (cond (int_lt bp (subordinate_threshold p pri)) Subordinate Split)

-- the class of a member with a requirement and perhaps a BP
abbrev pub class_of : Price → ℕ → ℕ → Option Price → Class
class_of p pri requirement None = cond (requirement == 0) Excused NonBidding
class_of p pri requirement (Some bp) = by_price p.0 pri bp.0

-- a number that is not negative, and 0 for one that is
abbrev pub natural : ℤ → ℕ
natural (pos n) = n
natural (negsuc n) = 0

-- amount × (BP − the subordinate threshold) ÷ PRI, rounded down
abbrev pub split_part : Price → ℕ → Option Price → ℕ → ℕ
split_part p pri None amount = 0
split_part p pri (Some bp) amount = amount * natural (bp.0 -ℤ subordinate_threshold p.0 pri) / pri

-- the senior part of an amount by class, where a Split's is `part`
abbrev pub by_class : Class → ℕ → ℕ → ℕ
by_class Senior part amount = amount
by_class Split part amount = part
by_class Subordinate part amount = 0
by_class Excused part amount = amount
by_class NonBidding part amount = 0

-- the senior part of an amount of a member with a requirement and perhaps a BP
abbrev pub senior_part : Price → ℕ → ℕ → Option Price → ℕ → ℕ
senior_part p pri requirement bp amount = by_class (class_of p pri requirement bp) (split_part p pri bp amount) amount
