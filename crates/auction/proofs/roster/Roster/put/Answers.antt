use Rattle.std.proofs.Common.{map, sym, ◌∙◌, subst}
use Rattle.std.proofs.lemmas.List.{length-set, map-set}
use Rattle.auction.specs.Roster.{held, Funded}
use Rattle.auction.proofs.Funds.{funded-set}
use Rattle.auction.proofs.Rosters.{put_in}
use Rattle.auction.proofs.roster.Roster.put.Goals as goal

pub invariant_of-self : goal.invariant_of-self
invariant_of-self c =
    let self = c.args.self.now in
    let i = c.index-i.result in
    let entry = c.args.entry in
    record {
      whole = length-set self.places i (record { 0 = entry }) ∙ self.whole;
      funded = subst Funded (sym (map-set held self.places i (record { 0 = entry }))) (funded-set (map held self.places) i entry c.requires.fund c.requires.assessment self.funded);
    }

pub returns-then-i-lt32 : goal.returns-then-i-lt32
returns-then-i-lt32 c = put_in c.args.self.now.places c.args.member c.index-i.result c.args.entry c.index-i.ensures
