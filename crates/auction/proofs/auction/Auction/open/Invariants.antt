use Rattle.std.proofs.Common.{◌≡◌, false, map, length, take}
use Rattle.auction.specs.Lots.{listing_of, opened}
use Rattle.auction.specs.Offers.{some_bad}
use Rattle.auction.proofs.auction.Auction.open.Given as goal

abbrev pub invariant-loop-i : goal.invariant-loop-i
invariant-loop-i l = record {
  four : length l.lots ≡ 4;
  same : map listing_of (take l.i l.lots) ≡ map opened (take l.i l.terms);
  good : some_bad (take l.i l.terms) ≡ false;
}
