-- Which command each line is. Assumes nothing.
use Rattle.std.specs.Prelude.{ℕ, Bool, cond, ◌||◌, List, [], ◌∷◌, length, take, Ok, Err, codes, Result, ◌==◌}
use Rattle.std.specs.Str.{bytes_eq}
use Rattle.words.specs.Words.{word_of, after_word}
use Rattle.book.specs.declared.calls.Call.TheVariants as call
use Rattle.command.specs.Opening.{offer_of}
use Rattle.command.specs.Readings.{given, counted, one_number, two_numbers, one_amount, enrol_of, top_up_of, bid_of}
use Rattle.command.specs.declared.command.Command.{Command}
use Rattle.command.specs.declared.command.Command.TheVariants.{Nothing, House, Call, Ask}
use Rattle.command.specs.declared.fault.Fault.{Fault}
use Rattle.command.specs.declared.fault.Fault.TheVariants.{NoSuchCommand}
use Rattle.command.specs.declared.question.Question.TheVariants as question

-- what stands beside a name in a table, or else the last
abbrev pub choose : {A : Type 0} → List ℕ → List (List ℕ × A) → A → A
choose name [] last = last
choose name (row ∷ rows) last = cond (bytes_eq name row.0) row.1 (choose name rows last)

-- the commands that change a book, with the words behind each
abbrev pub orders : List ℕ → List (List ℕ × Result Command Fault)
orders rest =
    (codes "house", given (one_amount rest) (λ n. Ok (House n)))
    ∷ (codes "enrol", given (enrol_of rest) (λ c. Ok (Call c)))
    ∷ (codes "top-up", given (top_up_of rest) (λ c. Ok (Call c)))
    ∷ (codes "release", given (one_number rest) (λ m. Ok (Call (call.Release m))))
    ∷ (codes "open", given (offer_of rest) (λ o. Ok (Call (call.Open o))))
    ∷ (codes "excuse", given (two_numbers rest) (λ w. Ok (Call (call.Excuse w.0 w.1))))
    ∷ (codes "bid", given (bid_of rest) (λ c. Ok (Call c)))
    ∷ (codes "close", counted 0 rest (Ok (Call call.Close)))
    ∷ (codes "charge", given (one_amount rest) (λ n. Ok (Call (call.Charge n))))
    ∷ (codes "recover", given (one_amount rest) (λ n. Ok (Call (call.Recover n))))
    ∷ (codes "conclude", counted 0 rest (Ok (Call call.Conclude)))
    ∷ []

-- the questions, with the words behind each
abbrev pub questions : List ℕ → List (List ℕ × Result Command Fault)
questions rest =
    (codes "phase", counted 0 rest (Ok (Ask question.Phase)))
    ∷ (codes "member", given (one_number rest) (λ m. Ok (Ask (question.Member m))))
    ∷ (codes "requirement", given (two_numbers rest) (λ w. Ok (Ask (question.Requirement w.0 w.1))))
    ∷ (codes "price", given (one_number rest) (λ l. Ok (Ask (question.Price l))))
    ∷ (codes "allocation", given (two_numbers rest) (λ w. Ok (Ask (question.Allocation w.0 w.1))))
    ∷ (codes "average", given (two_numbers rest) (λ w. Ok (Ask (question.Average w.0 w.1))))
    ∷ (codes "class", given (two_numbers rest) (λ w. Ok (Ask (question.Class w.0 w.1))))
    ∷ (codes "seat", given (one_number rest) (λ s. Ok (Ask (question.Seat s))))
    ∷ (codes "bears", given (two_numbers rest) (λ w. Ok (Ask (question.Bears w.0 w.1))))
    ∷ []

-- the question of a name
abbrev pub question_of : List ℕ → List ℕ → Result Command Fault
question_of name rest = choose name (questions rest) (Err NoSuchCommand)

-- the command of a name
abbrev pub order_of : List ℕ → List ℕ → Result Command Fault
order_of name rest = choose name (orders rest) (question_of name rest)

-- whether a line with this first word does nothing: there is none, or it begins with `#`
abbrev pub silent : List ℕ → Bool
silent word = length word == 0 || bytes_eq (codes "#") (take 1 word)

-- which command a line is
abbrev pub command_of : List ℕ → Result Command Fault
command_of line = cond (silent (word_of line)) (Ok Nothing) (order_of (word_of line) (after_word line))
