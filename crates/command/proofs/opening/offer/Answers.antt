use Rattle.command.proofs.Offering.{by-held, kept, offered}
use Rattle.command.proofs.opening.offer.Goals as goal

pub invariant_of-result : goal.invariant_of-result
invariant_of-result c =
    let terms = by-held c.of.result c.in_ok-held.held _ c.args.rest.now c.deref.result.now c.in_ok-held.ensures c.deref.ensures.0 c.of.ensures.count c.of.ensures.terms in
    let held = kept _ c.min.result c.of.result.terms c.args.rest.now c.min.ensures terms in
    record { four = held.0; plain = held.1.0 }

pub returns : goal.returns
returns c =
    let terms = by-held c.of.result c.in_ok-held.held _ c.args.rest.now c.deref.result.now c.in_ok-held.ensures c.deref.ensures.0 c.of.ensures.count c.of.ensures.terms in
    offered c.count_words-words.result c.min.result c.of.result.terms c.args.rest.now _ _ c.count_words-words.ensures c.if-words-eq0.false c.if-words-ne0.false c.min.ensures terms
