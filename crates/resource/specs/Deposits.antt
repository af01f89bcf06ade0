-- What a deposit is. Assumes nothing.
use Rattle.std.specs.Prelude.{ℕ, cond, Ok, Err, Result, nat_lt}
use Rattle.share.specs.Rule.{limit}
use Rattle.resource.specs.declared.deposit.Deposit.{Deposit}

-- the amount that was paid in and not written off, and how much of it stands for a loss
abbrev pub paid_of : Deposit → ℕ
paid_of d = d.paid.0

abbrev pub standing_of : Deposit → ℕ
standing_of d = d.standing.0

-- the number of the refusal of a deposit of n: 5 above 3,200,000,000, else 0
abbrev pub deposit_refusal : ℕ → ℕ
deposit_refusal n = cond (nat_lt limit n) 5 0

-- a deposit by its two numbers
pub record Amounts : Type 0 where
  pub paid : ℕ
  pub standing : ℕ

-- a deposit of n as it is made: nothing stands
abbrev pub fresh : ℕ → Amounts
fresh n = record { paid = n; standing = 0 }

-- a deposit that was made, if it was, by its two numbers
abbrev pub as_made : {E : Type 0} → Result Deposit E → Result Amounts E
as_made (Ok d) = Ok (record { paid = paid_of d; standing = standing_of d })
as_made (Err e) = Err e
