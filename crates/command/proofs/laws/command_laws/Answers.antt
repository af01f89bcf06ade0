use Rattle.command.proofs.Firsts.{comment, empty, exact, exact_amount, fits_price, named}
use Rattle.command.proofs.Written.{asks, calls, houses, opens}
use Rattle.command.specs.declared.fault.Fault.TheVariants.{Amount, Number, Pri}
use Rattle.command.proofs.laws.command_laws.Goals as goal

pub returns : goal.returns
returns c =
    record {
      empty = empty;
      comment = comment;
      named = named;
      exact = exact 65535 Number;
      exact_pri = exact 4294967295 Pri;
      exact_amount = exact_amount 18446744073709551615 Amount;
      fits_price = fits_price;
      calls = calls;
      questions = asks;
      house = houses;
      opens = opens;
    }
