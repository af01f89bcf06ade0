use Rattle.std.proofs.Common.{◌∙◌}
use Rattle.std.proofs.lemmas.List.{length-map}
use Rattle.resource.specs.Payers.{worth, weights_of, pool_refusal}
use Rattle.resource.specs.Pools.{fresh}
use Rattle.book.proofs.Pools.{taken, is_made}
use Rattle.book.proofs.seats.pool.Goals as goal

pub unwrap-requires : goal.unwrap-requires
unwrap-requires c =
    let ws = weights_of c.args.weights.now in
    is_made c.new.result (pool_refusal ws) (fresh ws) c.new.ensures (taken ws (length-map c.args.weights.now worth ∙ c.requires.all) c.requires.light)
