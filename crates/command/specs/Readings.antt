-- Words read as the values of a command. Assumes nothing.
use Rattle.std.specs.Prelude.{ℕ, cond, List, ℤ, Some, None, Ok, Err, Option, Result, ◌==◌}
use Rattle.share.specs.declared.units.Dollars.{Dollars}
use Rattle.lot.specs.declared.bid.Kind.{Kind}
use Rattle.lot.specs.KindNames.{kind_named}
use Rattle.words.specs.Numbers.{natural_upto, signed_of}
use Rattle.words.specs.Words.{word_at, word_count}
use Rattle.book.specs.declared.calls.Call.{Call}
use Rattle.book.specs.declared.calls.Call.TheVariants.{Enrol, TopUp, Bid}
use Rattle.command.specs.declared.fault.Fault.{Fault}
use Rattle.command.specs.declared.fault.Fault.TheVariants.{Count, Number, Pri, Price, Amount, Kind as NoKind}

-- a value, or the fault where there is none
abbrev pub or_fault : {A : Type 0} → Fault → Option A → Result A Fault
or_fault fault None = Err fault
or_fault fault (Some x) = Ok x

-- goes on with a value, or ends with its fault
abbrev pub given : {A B : Type 0} → Result A Fault → (A → Result B Fault) → Result B Fault
given (Err fault) next = Err fault
given (Ok x) next = next x

-- a word as a number of a member, a lot, an entry, a seat, or of parts
abbrev pub number_of : List ℕ → Result ℕ Fault
number_of word = or_fault Number (natural_upto 65535 word)

-- a word as a PRI
abbrev pub pri_of : List ℕ → Result ℕ Fault
pri_of word = or_fault Pri (natural_upto 4294967295 word)

-- a word as a price
abbrev pub price_of : List ℕ → Result ℤ Fault
price_of word = or_fault Price (signed_of word)

-- a word as an amount of dollars
abbrev pub dollars_of : List ℕ → Result Dollars Fault
dollars_of word = given (or_fault Amount (natural_upto 18446744073709551615 word)) (λ n. Ok (record { 0 = n }))

-- a word as the kind of a bid
abbrev pub kind_of : List ℕ → Result Kind Fault
kind_of word = or_fault NoKind (kind_named word)

-- goes on if a line has just so many words
abbrev pub counted : {A : Type 0} → ℕ → List ℕ → Result A Fault → Result A Fault
counted n rest next = cond (word_count rest == n) next (Err Count)

-- one value, by how its word is read
abbrev pub one_of : {A : Type 0} → (List ℕ → Result A Fault) → List ℕ → Result A Fault
one_of read rest = counted 1 rest (read (word_at 0 rest))

-- two values
abbrev pub two_of : {A B : Type 0} → (List ℕ → Result A Fault) → (List ℕ → Result B Fault) → List ℕ → Result (A × B) Fault
two_of first second rest =
    counted 2 rest (
    given (first (word_at 0 rest)) (λ a.
    given (second (word_at 1 rest)) (λ b.
    Ok (a, b))))

-- three values
abbrev pub three_of : {A B C : Type 0} → (List ℕ → Result A Fault) → (List ℕ → Result B Fault) → (List ℕ → Result C Fault) → List ℕ → Result (A × B × C) Fault
three_of first second third rest =
    counted 3 rest (
    given (first (word_at 0 rest)) (λ a.
    given (second (word_at 1 rest)) (λ b.
    given (third (word_at 2 rest)) (λ c.
    Ok (a, b, c)))))

-- one number
abbrev pub one_number : List ℕ → Result ℕ Fault
one_number = one_of number_of

-- two numbers
abbrev pub two_numbers : List ℕ → Result (ℕ × ℕ) Fault
two_numbers = two_of number_of number_of

-- one amount of dollars
abbrev pub one_amount : List ℕ → Result Dollars Fault
one_amount = one_of dollars_of

-- a member, its fund and its assessment
abbrev pub holding_of : List ℕ → Result (ℕ × Dollars × Dollars) Fault
holding_of = three_of number_of dollars_of dollars_of

-- an enrolment
abbrev pub enrol_of : List ℕ → Result Call Fault
enrol_of rest = given (holding_of rest) (λ h. Ok (Enrol h.0 h.1 h.2))

-- a top-up
abbrev pub top_up_of : List ℕ → Result Call Fault
top_up_of rest = given (holding_of rest) (λ h. Ok (TopUp h.0 h.1 h.2))

-- a bid: member, lot, kind, size and price
abbrev pub bid_of : List ℕ → Result Call Fault
bid_of rest =
    counted 5 rest (
    given (number_of (word_at 0 rest)) (λ member.
    given (number_of (word_at 1 rest)) (λ lot.
    given (kind_of (word_at 2 rest)) (λ kind.
    given (number_of (word_at 3 rest)) (λ size.
    given (price_of (word_at 4 rest)) (λ price.
    Ok (Bid member lot kind size price)))))))
