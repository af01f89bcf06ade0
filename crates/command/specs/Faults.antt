-- Why a line is no command, in words. Assumes nothing.
use Rattle.std.specs.Prelude.{ℕ, List, codes}
use Rattle.command.specs.declared.fault.Fault.{Fault}
use Rattle.command.specs.declared.fault.Fault.TheVariants.{NoSuchCommand, Count, Kind, Number, Pri, Price, Amount}

-- the words for each reason
abbrev pub reason_of : Fault → List ℕ
reason_of NoSuchCommand = codes "no such command"
reason_of Count = codes "wrong count of words"
reason_of Kind = codes "not standard or all"
reason_of Number = codes "not a number from 0 to 65535"
reason_of Pri = codes "not a number from 0 to 4294967295"
reason_of Price = codes "not a number from -2147483648 to 2147483647"
reason_of Amount = codes "not a number from 0 to 18446744073709551615"
