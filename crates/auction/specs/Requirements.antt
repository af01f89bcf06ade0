-- What each member must bid for in a lot. Assumes nothing.
use Rattle.std.specs.Prelude.{ℕ, ◌-◌, cond, List, Option}
use Rattle.share.specs.Rule.{share_of}
use Rattle.auction.specs.Lots.{Listing, excused_by_call}
use Rattle.auction.specs.Roster.{funds}
use Rattle.auction.specs.declared.member.Member.{Member}

-- the parts that a member must bid for: its share of the lot's requirement over all funds in number order, 0 where a call excused it
abbrev pub requirement_of : List (Option Member) → Listing → ℕ → ℕ
requirement_of r l m = cond (excused_by_call l m) 0 (share_of l.terms.requirement (funds r) (m - 1))
