-- What holds of every line and of every command. Assumes nothing.
use Rattle.std.specs.Prelude.{◌≡◌, ℕ, ◌<◌, ◌≤◌, true, List, [], ◌∷◌, length, ℤ, Ok, codes}
use Rattle.std.specs.List.{All}
use Rattle.share.specs.declared.units.Dollars.{Dollars}
use Rattle.words.specs.Laws.{Fits32}
use Rattle.words.specs.Numbers.{numeral, value}
use Rattle.words.specs.Words.{no_word, spaced, word_of}
use Rattle.auction.specs.declared.terms.Terms.{Terms}
use Rattle.book.specs.declared.calls.Call.{Call}
use Rattle.book.specs.declared.calls.Call.TheVariants as call
use Rattle.command.specs.Commands.{command_of}
use Rattle.command.specs.Lines.{Askable, Begins, Long, Sized, Writable, amount, call_name, call_words, lots_words, question_name, question_words}
use Rattle.command.specs.Opening.{offering}
use Rattle.command.specs.Readings.{dollars_of, number_of, pri_of, price_of}
use Rattle.command.specs.declared.command.Command.{Command}
use Rattle.command.specs.declared.command.Command.TheVariants as command
use Rattle.command.specs.declared.question.Question.{Question}

-- the laws of commands
pub record CommandLaw : Type 0 where
  -- a line with no word does nothing
  pub empty : (line : List ℕ) → no_word line ≡ true → command_of line ≡ Ok command.Nothing
  -- and so does one whose first word begins with `#` (35)
  pub comment : (line more : List ℕ) → word_of line ≡ 35 ∷ more → command_of line ≡ Ok command.Nothing
  -- the first word is the name of the command, and no other line does nothing
  pub named : (line : List ℕ) (c : Command) → command_of line ≡ Ok c → Begins c (word_of line)
  -- a number is read as what its digits write, and only within its width
  pub exact : (word : List ℕ) (n : ℕ) → number_of word ≡ Ok n → (numeral word ≡ true) × (value word ≡ n) × (n ≤ 65535)
  -- and so is a PRI
  pub exact_pri : (word : List ℕ) (n : ℕ) → pri_of word ≡ Ok n → (numeral word ≡ true) × (value word ≡ n) × (n ≤ 4294967295)
  -- and an amount
  pub exact_amount : (word : List ℕ) (d : Dollars) → dollars_of word ≡ Ok d → (numeral word ≡ true) × (value word ≡ d.0) × (d.0 ≤ 18446744073709551615)
  -- and a price fits 32 bits with its sign
  pub fits_price : (word : List ℕ) (z : ℤ) → price_of word ≡ Ok z → Fits32 z
  -- every call is read back from its line
  pub calls : (c : Call) → Writable c → command_of (spaced (call_name c ∷ call_words c)) ≡ Ok (command.Call c)
  -- and every question
  pub questions : (q : Question) → Askable q → command_of (spaced (question_name q ∷ question_words q)) ≡ Ok (command.Ask q)
  -- and the house
  pub house : (d : Dollars) → Long d → command_of (spaced (codes "house" ∷ amount d ∷ [])) ≡ Ok (command.House d)
  -- an `open` with any number of lots is the offer of them
  pub opens : (lots : List Terms) → 0 < length lots → All Sized lots → command_of (spaced (codes "open" ∷ lots_words lots)) ≡ Ok (command.Call (call.Open (offering lots)))
