use Rattle.std.proofs.Common.{◌≡◌, pos, ◌*ℤ◌, ap, ◌∙◌, ap₂, w32, w64, SFits, to_z, of_z, rules}
use Rattle.std.proofs.lemmas.Int.{to_z-of_z}
use Rattle.lot.proofs.Magnitudes.{times-fits}
use Rattle.lot.proofs.bid.Whose.worth_above.Goals as goal

price-fits : (c : goal.After-from-2) → SFits w32 c.args.bid.now.price.0
price-fits c = search rules

-- the factors, and that their product fits
factors : (c : goal.After-from-2) → to_z w64 (of_z w64 c.from.result) *ℤ to_z w64 (of_z w64 c.from-2.result) ≡ c.args.bid.now.price.0 *ℤ pos c.asked.result
factors c = ap₂ ◌*ℤ◌
    (to_z-of_z w64 c.from.result (record { sfits = c.from.type_inv }) ∙ c.from.ensures ∙ to_z-of_z w32 _ (price-fits c))
    (to_z-of_z w64 c.from-2.result (record { sfits = c.from-2.type_inv }) ∙ c.from-2.ensures)

fits : (c : goal.After-from-2) → SFits w64 (c.args.bid.now.price.0 *ℤ pos c.asked.result)
fits c = times-fits c.args.bid.now.price.0 c.asked.result (price-fits c) c.asked.type_inv

pub returns : goal.returns
returns c = rw (factors c) (to_z-of_z w64 _ (fits c) ∙ ap (λ n. c.args.bid.now.price.0 *ℤ pos n) c.asked.ensures)
