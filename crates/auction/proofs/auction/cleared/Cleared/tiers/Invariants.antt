use Rattle.std.proofs.Common.{◌≡◌}
use Rattle.auction.specs.Auctions.{listings_of}
use Rattle.auction.specs.Earning.{senior_by, subordinate_by}
use Rattle.auction.proofs.Earnings.{so_far}
use Rattle.auction.proofs.auction.cleared.Cleared.tiers.Given as goal

abbrev pub invariant-loop-i : goal.invariant-loop-i
invariant-loop-i l = record {
  first : l.tiers.first.0 ≡ 0;
  second : l.tiers.second.0 ≡ so_far subordinate_by (listings_of l.self.auction.now) l.earned l.amount.0 l.i;
  third : l.tiers.third.0 ≡ so_far senior_by (listings_of l.self.auction.now) l.earned l.amount.0 l.i;
}
