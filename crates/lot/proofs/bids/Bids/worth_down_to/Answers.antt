use Rattle.std.proofs.Common.{◌≡◌, ◌-◌, pos, ◌+ℤ◌, ◌*ℤ◌, ap, ◌∙◌, ap₂, arith, w32, w64, SFits, to_z, of_z, rules}
use Rattle.std.proofs.lemmas.Int.{to_z-of_z}
use Rattle.lot.specs.Average.{worth_down_to}
use Rattle.lot.specs.Lots.{entries_of}
use Rattle.lot.proofs.Magnitudes.{times-fits, fits-64}
use Rattle.lot.proofs.Worths.{above_within, parts-few, down_to-small}
use Rattle.lot.proofs.bids.Bids.worth_down_to.Goals as goal

pub overflow_sub-rest : goal.overflow_sub-rest
overflow_sub-rest c = omega (arith, above_within c.args.whose c.args.parts c.args.self.now c.args.last c.requires.some c.requires.reaches)

last_fits : (c : goal.After-from-2) → SFits w32 c.args.last.0
last_fits c = search rules

-- the factors, and that their product fits
factors : (c : goal.After-from-2) → to_z w64 (of_z w64 c.from.result) *ℤ to_z w64 (of_z w64 c.from-2.result) ≡ c.args.last.0 *ℤ pos (c.args.parts - c.asked.result)
factors c = ap₂ ◌*ℤ◌
    (to_z-of_z w64 c.from.result (record { sfits = c.from.type_inv }) ∙ c.from.ensures ∙ to_z-of_z w32 _ (last_fits c))
    (to_z-of_z w64 c.from-2.result (record { sfits = c.from-2.type_inv }) ∙ c.from-2.ensures)

product-fits : (c : goal.After-from-2) → SFits w64 (c.args.last.0 *ℤ pos (c.args.parts - c.asked.result))
product-fits c =
    let small = parts-few c.args.whose c.args.parts c.args.self.now c.args.last c.requires.some c.requires.reaches in
    times-fits c.args.last.0 (c.args.parts - c.asked.result) (last_fits c) (omega arith)

-- the sum, and that it fits
sum : (c : goal.After-from-2) →
    to_z w64 (of_z w64 c.worth_above.result) +ℤ to_z w64 (of_z w64 (to_z w64 (of_z w64 c.from.result) *ℤ to_z w64 (of_z w64 c.from-2.result)))
    ≡ worth_down_to c.args.whose c.args.parts (entries_of c.args.self.now) c.args.last
sum c = ap₂ ◌+ℤ◌
    (to_z-of_z w64 c.worth_above.result (record { sfits = c.worth_above.type_inv }) ∙ c.worth_above.ensures)
    (
    ap (λ z. to_z w64 (of_z w64 z)) (factors c)
    ∙ to_z-of_z w64 _ (product-fits c)
    ∙ ap (λ n. c.args.last.0 *ℤ pos (c.args.parts - n)) c.asked.ensures
    )

sum_fits : (c : goal.After-from-2) → SFits w64 (worth_down_to c.args.whose c.args.parts (entries_of c.args.self.now) c.args.last)
sum_fits c = fits-64 _ (omega (
  arith,
  parts-few c.args.whose c.args.parts c.args.self.now c.args.last c.requires.some c.requires.reaches,
  down_to-small c.args.whose c.args.parts c.args.self.now c.args.last c.requires.some c.requires.reaches,
))

pub overflow_add-result : goal.overflow_add-result
overflow_add-result c = rw (sum c) (sum_fits c)

pub returns : goal.returns
returns c = ap (λ z. to_z w64 (of_z w64 z)) (sum c) ∙ to_z-of_z w64 _ (sum_fits c)
