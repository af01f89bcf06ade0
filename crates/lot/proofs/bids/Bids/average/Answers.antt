use Rattle.std.proofs.Common.{◌≡◌, ℤ, pos, Some, None, Option, sym, ap, ◌∙◌, subst, w32, w64, SFits, to_z, of_z, rules}
use Rattle.std.proofs.lemmas.Int.{to_z-of_z}
use Rattle.std.specs.Int.{int_div_euclid}
use Rattle.lot.specs.Average.{floor, worth_down_to, average_from, average, AverageLaw}
use Rattle.lot.specs.Lots.{entries_of}
use Rattle.lot.specs.Price.{reached}
use Rattle.lot.specs.declared.bid.Price.{Price}
use Rattle.lot.proofs.Averages.{average-law}
use Rattle.lot.proofs.Magnitudes.{floor-is, fits-32}
use Rattle.lot.proofs.Worths.{average-small}
use Rattle.lot.proofs.bids.Bids.average.Goals as goal

-- the price at which the bids reach the parts
last-is : (c : goal.After-mean) → reached c.args.whose c.args.parts (entries_of c.args.self.now) ≡ Some c.in-Some.last
last-is c = sym c.in-Some.ensures

-- the quotient, and that it fits a price
quotient : (c : goal.After-mean) → c.mean.result ≡ floor (worth_down_to c.args.whose c.args.parts (entries_of c.args.self.now) c.in-Some.last) c.args.parts
quotient c =
    c.mean.ensures
    ∙ ap (λ z. int_div_euclid z (pos c.args.parts)) (to_z-of_z w64 _ (record { sfits = c.worth_down_to-worth.type_inv }) ∙ c.worth_down_to-worth.ensures)
    ∙ floor-is _ c.args.parts

quotient_fits : (c : goal.After-mean) → SFits w32 (floor (worth_down_to c.args.whose c.args.parts (entries_of c.args.self.now) c.in-Some.last) c.args.parts)
quotient_fits c = fits-32 _ (average-small c.args.whose c.args.parts c.args.self.now c.in-Some.last c.requires (last-is c))

read : (c : goal.After-mean) → to_z w64 (of_z w64 c.mean.result) ≡ floor (worth_down_to c.args.whose c.args.parts (entries_of c.args.self.now) c.in-Some.last) c.args.parts
read c = to_z-of_z w64 _ (record { sfits = c.mean.type_inv }) ∙ quotient c

pub overflow_cast-result : goal.overflow_cast-result
overflow_cast-result c = rw (read c) (quotient_fits c)

pub returns-in_default-clause-law : goal.returns-in_default-clause-law
returns-in_default-clause-law c =
    let bs = entries_of c.args.self.now in
    let value : None ≡ average c.args.whose c.args.parts bs = search rules in
    subst (AverageLaw c.args.whose c.args.parts bs) (sym value) (average-law c.args.whose c.args.parts bs c.requires)

pub returns : goal.returns
returns c =
    let bs = entries_of c.args.self.now in
    let some : ℤ → Option Price = λ z. Some (record { 0 = z }) in
    let value = ap (λ z. some (to_z w32 (of_z w32 z))) (read c) ∙ ap some (to_z-of_z w32 _ (quotient_fits c)) ∙ ap (average_from c.args.whose c.args.parts bs) (sym (last-is c)) in
    record { value = value; law = subst (AverageLaw c.args.whose c.args.parts bs) (sym value) (average-law c.args.whose c.args.parts bs c.requires) }
