-- Parts as numbers. Assumes nothing.
use Rattle.std.specs.Prelude.{ℕ, List, map, take}
use Rattle.share.specs.declared.units.Parts.{Parts}
use Rattle.lot.specs.declared.allocations.Allocations.{Allocations}

-- the numbers that parts are
abbrev pub numbers : List Parts → List ℕ
numbers ps = map (λ p. p.0) ps

-- what each bid gets
abbrev pub parts_of : Allocations → List ℕ
parts_of a = numbers (take a.count a.parts)
