use Rattle.std.proofs.Common.{◌∙◌, sym, arith}
use Rattle.std.proofs.lemmas.List.{length-map}
use Rattle.resource.specs.Payers.{worth, weights_of}
use Rattle.resource.specs.Totals.{light-total}
use Rattle.resource.proofs.Weights.{heavy-light}
use Rattle.resource.proofs.pool.Pool.new.Goals as goal

pub sum-requires : goal.sum-requires
sum-requires c =
    let ws = weights_of c.args.payers.now in
    let light = heavy-light ws (sym c.some_heavy.ensures ∙ c.if-some_heavy.false) in
    light-total ws light (omega (arith, length-map c.args.payers.now worth))
