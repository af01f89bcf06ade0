use Rattle.std.proofs.Common.{◌≡◌, ◌*◌, ◌/◌, ◌≤◌, ◌-ℤ◌, nat_abs, ap, ◌∙◌, ap₂, arith, w32, w64, Fits, SFits, to_z, of_z, rules}
use Rattle.std.proofs.lemmas.Int.{to_z-of_z}
use Rattle.lot.specs.Class.{natural, subordinate_threshold}
use Rattle.lot.proofs.Splits.{distance_read, distance-small, part-at_most}
use Rattle.lot.proofs.pri.Pri.split_part.Goals as goal

bp-fits : (c : goal.After-from-2) → SFits w32 c.args.bp.0
bp-fits c = search rules

pub overflow_cast-part : goal.overflow_cast-part
overflow_cast-part c =
    let small = distance-small c.args.price.0 c.args.self.dollars c.args.bp.0 c.requires in
    let read = distance_read c.args.price.0 c.args.self.dollars c.args.bp.0 c.requires c.from.result c.subordinate_threshold.result c.args.self.high
    (record { sfits = c.from.type_inv }) (c.from.ensures ∙ to_z-of_z w32 _ (bp-fits c)) (record { sfits = c.subordinate_threshold.type_inv }) c.subordinate_threshold.ensures in
    rw read (tt, omega (arith, c.args.self.high))

-- the part, as the code works it out
part-is : (c : goal.After-from-3) →
    c.from-2.result * nat_abs (to_z w64 (of_z w64 (to_z w64 (of_z w64 c.from.result) -ℤ to_z w64 (of_z w64 c.subordinate_threshold.result)))) / c.from-3.result
    ≡ c.args.amount.0 * natural (c.args.bp.0 -ℤ subordinate_threshold c.args.price.0 c.args.self.dollars) / c.args.self.dollars
part-is c =
    let fits : SFits w32 c.args.bp.0 = search rules in
    let read = distance_read c.args.price.0 c.args.self.dollars c.args.bp.0 c.requires c.from.result c.subordinate_threshold.result c.args.self.high
    (record { sfits = c.from.type_inv }) (c.from.ensures ∙ to_z-of_z w32 _ fits) (record { sfits = c.subordinate_threshold.type_inv }) c.subordinate_threshold.ensures in
    ap₂ (λ a z. a * nat_abs z / c.from-3.result) c.from-2.ensures read
    ∙ ap (λ n. c.args.amount.0 * natural (c.args.bp.0 -ℤ subordinate_threshold c.args.price.0 c.args.self.dollars) / n) c.from-3.ensures

bounded : (c : goal.After-from-3) → c.args.amount.0 * natural (c.args.bp.0 -ℤ subordinate_threshold c.args.price.0 c.args.self.dollars) / c.args.self.dollars ≤ c.args.amount.0
bounded c = part-at_most c.args.amount.0 _ c.args.self.dollars (distance-small c.args.price.0 c.args.self.dollars c.args.bp.0 c.requires)

pub overflow_cast-result : goal.overflow_cast-result
overflow_cast-result c = let whole : Fits w64 c.args.amount.0 = search rules in rw (part-is c) (omega (arith, bounded c))

pub returns : goal.returns
returns c = record { value = part-is c; bound = rw (part-is c) (bounded c) }
