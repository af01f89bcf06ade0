-- What a member's bids earn it in a lot, as the code holds it. Assumes nothing.
use Rattle.std.specs.Prelude.{ℕ, ◌+◌, Bool, cond, not, ◌&&◌, List, [], ◌∷◌, is_some, Option, ◌==◌}
use Rattle.std.specs.List.{list_any}
use Rattle.auction.specs.Classes.{senior_at, subordinate_at}
use Rattle.auction.specs.Counting.{bp_of}
use Rattle.auction.specs.Lots.{Listing, price_in}
use Rattle.auction.specs.Requirements.{requirement_of}
use Rattle.auction.specs.Weights.{lot_amounts}
use Rattle.auction.specs.declared.earned.Earned.{Earned}
use Rattle.auction.specs.declared.filling.Tiers.{Tiers}
use Rattle.auction.specs.declared.member.Member.{Member}

-- a member's requirement and BP in a lot
abbrev pub earned_of : List (Option Member) → ℕ → Listing → Earned
earned_of r m l = record { requirement = record { 0 = requirement_of r l m }; bp = bp_of r l m }

-- whether nothing counts although something is required
abbrev pub says_nothing : Earned → Bool
says_nothing e = not (is_some e.bp) && not (e.requirement.0 == 0)

-- whether it is so in some lot
abbrev pub some_silent : List Earned → Bool
some_silent es = list_any says_nothing es

-- the senior and the subordinate part of a lot amount by what is earned in the lot
abbrev pub senior_by : Listing → Earned → ℕ → ℕ
senior_by l e amount = senior_at (price_in l) l.terms.pri e.requirement.0 e.bp amount

abbrev pub subordinate_by : Listing → Earned → ℕ → ℕ
subordinate_by l e amount = subordinate_at (price_in l) l.terms.pri e.requirement.0 e.bp amount

-- a part of each lot amount, added up over the lots
abbrev pub over_earned : (Listing → Earned → ℕ → ℕ) → List Listing → List Earned → List ℕ → ℕ
over_earned part [] es amounts = 0
over_earned part (l ∷ ls) [] amounts = 0
over_earned part (l ∷ ls) (e ∷ es) [] = 0
over_earned part (l ∷ ls) (e ∷ es) (a ∷ amounts) = part l e a + over_earned part ls es amounts

-- an amount by the seats that it fills, by what its member earned in each lot
abbrev pub tiers_by : List Listing → List Earned → ℕ → Tiers
tiers_by ls es amount = record {
  first = record { 0 = cond (some_silent es) amount 0 };
  second = record { 0 = cond (some_silent es) 0 (over_earned subordinate_by ls es (lot_amounts ls amount)) };
  third = record { 0 = cond (some_silent es) 0 (over_earned senior_by ls es (lot_amounts ls amount)) };
}
