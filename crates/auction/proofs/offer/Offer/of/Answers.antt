use Rattle.std.proofs.Common.{◌≡◌, ◌-◌, replicate, length, length-append, ap, ◌∙◌, rules, arith}
use Rattle.std.proofs.lemmas.List.{drop-replicate, length-drop, length-take}
use Rattle.std.proofs.lemmas.Slice.{drop-append-drop}
use Rattle.auction.specs.declared.terms.Terms.{Terms}
use Rattle.auction.proofs.offer.Offer.of.Goals as goal

pub invariant_of-result : goal.invariant_of-result
invariant_of-result c =
    let z = c.default-terms.result in
    let zero : ◌≡◌ {A = Terms} z (record { weight = 0; requirement = 0; pri = 0 }) = grind (arith, rules) in
    let long : length c.copy_from_slice.new.self ≡ c.min-held.result = grind (arith, length-take, rules) in
    record {
      four = length-append c.copy_from_slice.new.self _ ∙ omega (arith, length-drop c.min-held.result (replicate 4 z), long, c.min-held.ensures);
      plain = drop-append-drop c.min-held.result (replicate 4 z) _ c.min.result (omega (arith, c.min-held.ensures, c.min.ensures)) long ∙ drop-replicate c.min.result 4 z ∙ ap (replicate (4 - c.min.result)) zero;
    }
