use Rattle.std.proofs.Common.{◌∙◌, arith}
use Rattle.auction.specs.Auctions.{listings_of}
use Rattle.auction.specs.Earning.{senior_by, subordinate_by}
use Rattle.auction.proofs.Earnings.{so_far-all, step, tiers-is}
use Rattle.auction.proofs.auction.cleared.Cleared.tiers.Goals as goal

pub overflow_add-tiers : goal.overflow_add-tiers
overflow_add-tiers c =
    let next = step (listings_of c.args.self.now.auction.now) c.args.earned.now c.args.amount.0 c.loop-i.i c.loop-i.tiers.second.0 c.loop-i.tiers.third.0 c.own-own.result.subordinate.0 c.own-own.result.senior.0
    c.requires.long (omega (arith, c.loop-i-test.true, c.requires.long)) c.loop-i.invariant.second c.loop-i.invariant.third c.own-own.ensures.subordinate c.own-own.ensures.senior in
    omega (arith, next.2, c.requires.bounded)

pub overflow_add-tiers-in-loop-i : goal.overflow_add-tiers-in-loop-i
overflow_add-tiers-in-loop-i c =
    let next = step (listings_of c.args.self.now.auction.now) c.args.earned.now c.args.amount.0 c.loop-i.i c.loop-i.tiers.second.0 c.loop-i.tiers.third.0 c.own-own.result.subordinate.0 c.own-own.result.senior.0
    c.requires.long (omega (arith, c.loop-i-test.true, c.requires.long)) c.loop-i.invariant.second c.loop-i.invariant.third c.own-own.ensures.subordinate c.own-own.ensures.senior in
    omega (arith, next.3, c.requires.bounded)

pub loop-i-preserved : goal.loop-i-preserved
loop-i-preserved c =
    let next = step (listings_of c.args.self.now.auction.now) c.args.earned.now c.args.amount.0 c.loop-i.i c.loop-i.tiers.second.0 c.loop-i.tiers.third.0 c.own-own.result.subordinate.0 c.own-own.result.senior.0
    c.requires.long (omega (arith, c.loop-i-test.true, c.requires.long)) c.loop-i.invariant.second c.loop-i.invariant.third c.own-own.ensures.subordinate c.own-own.ensures.senior in
    record { first = c.loop-i.invariant.first; second = next.0; third = next.1 }

pub returns : goal.returns
returns c =
    let ls = listings_of c.args.self.now.auction.now in
    let es = c.args.earned.now in
    let amount = c.args.amount.0 in
    tiers-is ls es amount c.loop-i.tiers.first.0 c.loop-i.tiers.second.0 c.loop-i.tiers.third.0 c.if-is_silent.ensures c.loop-i.invariant.first
    (c.loop-i.invariant.second ∙ so_far-all subordinate_by ls es amount c.requires.long c.loop-i.i (omega (arith, c.loop-i-test.false, c.requires.long)))
    (c.loop-i.invariant.third ∙ so_far-all senior_by ls es amount c.requires.long c.loop-i.i (omega (arith, c.loop-i-test.false, c.requires.long)))
