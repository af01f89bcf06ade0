-- The places of a roster. Assumes nothing.
use Rattle.std.specs.Prelude.{List, map, Option}
use Rattle.auction.specs.Roster.{held}
use Rattle.auction.specs.declared.member.Member.{Member}
use Rattle.auction.specs.declared.roster.Roster.{Roster}

-- what stands at each number, in number order
abbrev pub places_of : Roster → List (Option Member)
places_of r = map held r.places
