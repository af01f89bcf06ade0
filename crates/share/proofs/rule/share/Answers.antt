use Rattle.std.proofs.Common.{◌≡◌, ◌+◌, map, take, ◌∙◌, arith}
use Rattle.share.specs.Rule.{total}
use Rattle.share.proofs.Shares.{share-at_most, total-item, total-take-le, total-front}
use Rattle.share.proofs.rule.share.Goals as goal

pub sum-requires : goal.sum-requires
sum-requires g c =
    let f = g.T.Weighted.heft in
    let front = total-front f c.args.items.now c.args.i in
    let most = total-take-le (map f c.args.items.now) c.args.i in
    omega arith

pub cut-requires : goal.cut-requires
cut-requires g c =
    let f = g.T.Weighted.heft in
    let front = total-front f c.args.items.now c.args.i in
    let next = total-item f c.args.items.now c.args.i _ c.requires.within c.index-items-i.is in
    let most = total-take-le (map f c.args.items.now) (c.args.i + 1) in
    record { bounded = c.requires.bounded; summed = omega arith; within = omega arith }

pub returns : goal.returns
returns g c =
    let f = g.T.Weighted.heft in
    let ws = map f c.args.items.now in
    let before : c.sum.result ≡ total (take c.args.i ws) = c.sum.ensures ∙ total-front f c.args.items.now c.args.i in
    let next = total-item f c.args.items.now c.args.i _ c.requires.within c.index-items-i.is in
    let after : c.sum.result + c.weight.result ≡ total (take (c.args.i + 1) ws) = omega arith in
    let value = c.cut.ensures ∙ rw (after, before, c.sum-2.ensures) in
    record { value = value; bound = rw value (share-at_most c.args.amount ws c.args.i) }
