-- What holds of the lines of a lot sheet. Assumes nothing.
use Rattle.std.specs.Prelude.{◌≡◌, ℕ, ◌^◌, ◌<◌, ◌≤◌, List, [], ◌∷◌, ℤ, Ok, codes, decimal}
use Rattle.std.specs.Int.Signed.{mag}
use Rattle.lot_sheet.specs.Commands.{command_of}
use Rattle.lot_sheet.specs.declared.command.Command.TheVariants.{Bid}
use Rattle.lot.specs.declared.bid.Kind.{Kind}
use Rattle.lot.specs.KindNames.{kind_name}
use Rattle.std.specs.Fmt.{signed_decimal}
use Rattle.words.specs.Words.{spaced}

-- the line of a bid
abbrev pub bid_line : ℕ → Kind → ℕ → ℤ → List ℕ
bid_line member kind size price = spaced (codes "bid" ∷ decimal member ∷ kind_name kind ∷ decimal size ∷ signed_decimal price ∷ [])

-- the laws of lines
pub record SheetLaw : Type 0 where
  -- every bid is read back from its line
  pub reads : (member : ℕ) (kind : Kind) (size : ℕ) (price : ℤ) → member ≤ 65535 → size ≤ 65535 → mag price < 2 ^ 31 → command_of (bid_line member kind size price) ≡ Ok (Bid (record { member = member; kind = kind; size = record { 0 = size }; price = record { 0 = price } }))
