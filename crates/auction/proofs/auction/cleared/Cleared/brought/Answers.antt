use Rattle.std.proofs.Common.{◌≡◌, ◌∙◌, ap₂}
use Rattle.auction.specs.Auctions.{listings_of}
use Rattle.auction.specs.Earning.{tiers_by}
use Rattle.auction.specs.Filling.{tiers_of}
use Rattle.auction.specs.Places.{places_of}
use Rattle.auction.specs.Roster.{place, fund_of, assessment_of}
use Rattle.auction.specs.declared.filling.Tiers.{Tiers}
use Rattle.auction.proofs.Earnings.{tiers-earned}
use Rattle.auction.proofs.auction.cleared.Cleared.brought.Goals as goal

pub returns : goal.returns
returns c =
    let self = c.args.self.now in
    let r = places_of self.members.now in
    let m = c.args.member in
    let ls = listings_of self.auction.now in
    let fund : c.tiers.result ≡ tiers_of r ls m (fund_of (place r m)) = c.tiers.ensures ∙ ap₂ (tiers_by ls) (c.deref.ensures.0 ∙ c.earned-earned.ensures) c.amounts-amounts.ensures.fund ∙ tiers-earned r m ls (fund_of (place r m)) in
    let assessment : c.tiers-2.result ≡ tiers_of r ls m (assessment_of (place r m)) = c.tiers-2.ensures ∙ ap₂ (tiers_by ls) (c.deref-2.ensures.0 ∙ c.earned-earned.ensures) c.amounts-amounts.ensures.assessment ∙ tiers-earned r m ls (assessment_of (place r m)) in
    ap₂ (λ (f a : Tiers). record { fund = f; assessment = a }) fund assessment
