use Rattle.std.proofs.Common.{◌-◌, map, ap, ◌∙◌}
use Rattle.share.specs.Rule.{share_of}
use Rattle.auction.specs.Roster.{fund_in}
use Rattle.auction.proofs.Rosters.{funds-within, funds-held}
use Rattle.auction.proofs.roster.Roster.part.Goals as goal

pub share-requires-clause-summed : goal.share-requires-clause-summed
share-requires-clause-summed c =
    let self = c.args.self.now in
    funds-within self.places self.whole self.funded

pub returns-then-i-lt32-clause-value : goal.returns-then-i-lt32-clause-value
returns-then-i-lt32-clause-value c =
    let self = c.args.self.now in
    c.share.ensures.value
    ∙ ap (λ n. share_of n (map fund_in self.places) c.index-i.result) c.from.ensures
    ∙ ap (λ i. share_of c.args.parts (map fund_in self.places) i) c.index-i.ensures
    ∙ ap (λ ws. share_of c.args.parts ws (c.args.member - 1)) (funds-held self.places)
