-- Classes as they are printed. Assumes nothing.
use Rattle.std.specs.Prelude.{ℕ, List, codes}
use Rattle.lot.specs.declared.class.Class.{Class}
use Rattle.lot.specs.declared.class.Class.TheVariants.{Senior, Split, Subordinate, Excused, NonBidding}

-- the name of each class
abbrev pub class_text : Class → List ℕ
class_text Senior = codes "Senior"
class_text Split = codes "Split"
class_text Subordinate = codes "Subordinate"
class_text Excused = codes "Excused"
class_text NonBidding = codes "Non-bidding"
