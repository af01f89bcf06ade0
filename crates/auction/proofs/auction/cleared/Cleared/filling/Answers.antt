use Rattle.std.proofs.Common.{sym, subst, ◌∙◌, rules}
use Rattle.auction.specs.Auctions.{listings_of}
use Rattle.auction.specs.Brought.{WithinLimits}
use Rattle.auction.specs.Places.{places_of}
use Rattle.auction.proofs.Fillings.{weights-filled, fill-limits, made-of-all}
use Rattle.auction.proofs.auction.cleared.Cleared.filling.Goals as goal

pub of-requires : goal.of-requires
of-requires c =
    let members = c.args.self.now.members.now in
    let r = places_of members in
    let ls = listings_of c.args.self.now.auction.now in
    let bs = c.from_fn.result in
    let rows = made-of-all members ls bs (λ i b q low called. search rules) c.from_fn.ensures.items in
    subst WithinLimits (sym (weights-filled r ls bs rows)) (fill-limits r ls members.funded)

pub returns : goal.returns
returns c =
    let self = c.args.self.now in
    c.of.ensures ∙ made-of-all self.members.now (listings_of self.auction.now) c.from_fn.result (λ i b q low called. search rules) c.from_fn.ensures.items
