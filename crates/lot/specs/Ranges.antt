-- The price range of a lot as a number. Assumes nothing.
use Rattle.std.specs.Prelude.{ℕ, Ok, Err, Result}
use Rattle.lot.specs.declared.pri.Pri.{Pri}

-- a PRI in dollars
abbrev pub pri_of : Pri → ℕ
pri_of p = p.dollars

-- the dollars of a PRI that was made, if it was
abbrev pub dollars_of : {E : Type 0} → Result Pri E → Result ℕ E
dollars_of (Ok p) = Ok (pri_of p)
dollars_of (Err e) = Err e
