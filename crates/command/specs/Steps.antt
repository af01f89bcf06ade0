-- What the steps of reading a line promise one another. Assumes nothing.
use Rattle.std.specs.Prelude.{◌≡◌, ℕ, List, Ok, Err, Result, MatchResult}
use Rattle.std.specs.Borrow.{Bor}
use Rattle.auction.specs.declared.terms.Terms.{Terms}
use Rattle.command.specs.Opening.{behind_lot, terms_by}
use Rattle.command.specs.declared.fault.Fault.{Fault}

-- the terms of a first lot and what stands behind its words, or the fault of one of them
abbrev pub ReadLot : List ℕ → Result (Terms × Bor (List ℕ)) Fault → Type 0
ReadLot rest r = MatchResult r (λ read. (terms_by rest ≡ Ok read.0) × (read.1.now ≡ behind_lot rest)) (λ fault. terms_by rest ≡ Err fault)
