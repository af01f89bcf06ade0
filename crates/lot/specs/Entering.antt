-- Which bids a lot takes. Assumes nothing.
use Rattle.std.specs.Prelude.{ℕ, Bool, true, cond, not, ◌&&◌, ◌||◌, List, [], ◌∷◌, ◌++◌, length, ℤ, pos, negsuc, is_some, ◌==◌, int_lt, nat_le, nat_lt}
use Rattle.lot.specs.Bids.{whole, is_standard}
use Rattle.lot.specs.Price.{all_or_nothing_price}
use Rattle.lot.specs.declared.bid.Bid.{Bid}
use Rattle.lot.specs.declared.bid.Whose.TheVariants.{One}

-- how many bids a lot holds at most
abbrev pub most_bids : ℕ
most_bids = 64

-- the greatest and the least price that may be bid
abbrev pub highest : ℤ
highest = pos 2000000000

abbrev pub lowest : ℤ
lowest = negsuc 1999999999

-- whether a member number is outside 1 to 32
abbrev pub stranger : Bid → Bool
stranger b = nat_lt b.member 1 || nat_lt 32 b.member

-- whether a size or a price is outside its limits
abbrev pub out_of_limits : Bid → Bool
out_of_limits b = nat_lt b.size.0 1 || (nat_lt whole b.size.0 || (int_lt b.price.0 lowest || int_lt highest b.price.0))

-- whether an All or Nothing bid is not for the whole lot
abbrev pub in_part : Bid → Bool
in_part b = not (is_standard b) && not (b.size.0 == whole)

-- whether a bid is its member's second All or Nothing bid
abbrev pub second : List Bid → Bid → Bool
second bs b = not (is_standard b) && is_some (all_or_nothing_price (One b.member) bs)

-- the number of the first refusal that applies to a bid which comes to a lot that holds bids; 0 where it is taken
abbrev pub refusal : List Bid → Bid → ℕ
refusal bs b =
    cond (stranger b) 2 (cond (out_of_limits b) 5 (cond (in_part b) 7 (cond (second bs b) 8 (cond (nat_le most_bids (length bs)) 9 0))))

-- whether each bid of a list was taken, one after another, by a lot that held some before
abbrev pub taken_after : List Bid → List Bid → Bool
taken_after before [] = true
taken_after before (b ∷ bs) = refusal before b == 0 && taken_after (before ++ b ∷ []) bs

-- the bids of a lot after one has come
abbrev pub entered : List Bid → Bid → List Bid
entered bs b = cond (refusal bs b == 0) (bs ++ b ∷ []) bs
