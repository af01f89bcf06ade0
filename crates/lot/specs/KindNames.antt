-- The names of the kinds of bids. Assumes nothing.
use Rattle.std.specs.Prelude.{ℕ, cond, List, Some, None, codes, Option}
use Rattle.std.specs.Str.{bytes_eq}
use Rattle.lot.specs.declared.bid.Kind.{Kind}
use Rattle.lot.specs.declared.bid.Kind.TheVariants.{Standard, AllOrNothing}

-- the name of each kind
abbrev pub kind_name : Kind → List ℕ
kind_name Standard = codes "standard"
kind_name AllOrNothing = codes "all"

-- the kind of a name
abbrev pub kind_named : List ℕ → Option Kind
kind_named name = cond (bytes_eq name (codes "standard")) (Some Standard) (cond (bytes_eq name (codes "all")) (Some AllOrNothing) None)
