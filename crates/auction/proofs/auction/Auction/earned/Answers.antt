use Rattle.std.proofs.Common.{lit<}
use Rattle.auction.specs.Earning.{earned_of}
use Rattle.auction.specs.Places.{places_of}
use Rattle.auction.proofs.Tallies.{lot-room, lot-all}
use Rattle.auction.proofs.auction.Auction.earned.Goals as goal

pub push-requires : goal.push-requires
push-requires c = (lit< tt, lot-room (earned_of (places_of c.args.members.now) c.args.member) c.args.self.now c.lots-lot-items.result.now c.lots-lot-items.ensures c.loop-lot.earned.items c.loop-lot.lot-index c.loop-lot-test.true c.loop-lot.invariant)

pub returns : goal.returns
returns c = lot-all (earned_of (places_of c.args.members.now) c.args.member) c.args.self.now c.lots-lot-items.result.now c.lots-lot-items.ensures c.loop-lot.earned.items c.loop-lot.lot-index c.loop-lot-test.false c.loop-lot.invariant
