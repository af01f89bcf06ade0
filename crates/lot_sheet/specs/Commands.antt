-- What each line of a lot sheet asks for. Assumes nothing.
use Rattle.std.specs.Prelude.{◌≡◌, ℕ, Bool, true, false, cond, ◌||◌, List, length, take, Some, None, Ok, Err, codes, Option, Result, MatchOption, ◌==◌}
use Rattle.lot_sheet.specs.declared.command.BidWords.{BidWords}
use Rattle.lot_sheet.specs.declared.command.Command.{Command}
use Rattle.lot_sheet.specs.declared.command.Command.TheVariants.{Nothing, Lot, Bid}
use Rattle.lot_sheet.specs.declared.command.Fault.{Fault}
use Rattle.lot_sheet.specs.declared.command.Fault.TheVariants.{NoSuchCommand, LotWords, Member, Size, Price, Kind as KindFault, BidWords as BidFault}
use Rattle.lot.specs.KindNames.{kind_named}
use Rattle.std.specs.Str.{bytes_eq}
use Rattle.words.specs.Numbers.{natural_upto, signed_of}
use Rattle.words.specs.Words.{word_of, after_word, word_at, has_words}

-- the words for each reason
abbrev pub reason_of : Fault → List ℕ
reason_of NoSuchCommand = codes "no such command"
reason_of LotWords = codes "a lot line has one word"
reason_of BidFault = codes "a bid line has five words"
reason_of Member = codes "the member is not a number from 0 to 65535"
reason_of KindFault = codes "the kind is not standard or all"
reason_of Size = codes "the size is not a number from 0 to 65535"
reason_of Price = codes "the price is not a number from -2147483648 to 2147483647"

-- goes on with a value, or ends with the reason for which there is none
abbrev pub given : {A B : Type 0} → Option A → Fault → (A → Result B Fault) → Result B Fault
given None fault next = Err fault
given (Some x) fault next = next x

-- a bid by its four words, or the reason for the first of them that is wrong
abbrev pub bid_by : List ℕ → List ℕ → List ℕ → List ℕ → Result Command Fault
bid_by member kind size price =
    given (natural_upto 65535 member) Member (λ m.
    given (kind_named kind) KindFault (λ k.
    given (natural_upto 65535 size) Size (λ s.
    given (signed_of price) Price (λ p.
    Ok (Bid (record { member = m; kind = k; size = record { 0 = s }; price = record { 0 = p } }))))))

-- a bid line, by what stands behind `bid`
abbrev pub bid_of : List ℕ → Result Command Fault
bid_of rest = cond (has_words 4 rest) (bid_by (word_at 0 rest) (word_at 1 rest) (word_at 2 rest) (word_at 3 rest)) (Err BidFault)

-- a lot line, by what stands behind `lot`
abbrev pub lot_of : List ℕ → Result Command Fault
lot_of rest = cond (has_words 0 rest) (Ok Lot) (Err LotWords)

-- whether a line with this first word does nothing: there is none, or it begins with `#`
abbrev pub silent : List ℕ → Bool
silent word = length word == 0 || bytes_eq (codes "#") (take 1 word)

-- what a line asks for
abbrev pub command_of : List ℕ → Result Command Fault
command_of line =
    cond (silent (word_of line)) (Ok Nothing)
    (cond (bytes_eq (word_of line) (codes "lot")) (lot_of (after_word line))
    (cond (bytes_eq (word_of line) (codes "bid")) (bid_of (after_word line))
    (Err NoSuchCommand)))

-- the four words of what stands behind `bid`, if they are four
abbrev pub Four : List ℕ → Option BidWords → Type 0
Four rest r = MatchOption r (has_words 4 rest ≡ false) (λ w. (has_words 4 rest ≡ true) × (w.member.now ≡ word_at 0 rest) × (w.kind.now ≡ word_at 1 rest) × (w.size.now ≡ word_at 2 rest) × (w.price.now ≡ word_at 3 rest))
