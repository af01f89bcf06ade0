-- How commands are written. Assumes nothing.
use Rattle.std.specs.Prelude.{◌≡◌, ℕ, ◌^◌, ◌<◌, ◌≤◌, true, List, [], ◌∷◌, take, codes, decimal}
use Rattle.std.specs.Fmt.{signed_decimal}
use Rattle.std.specs.List.{All}
use Rattle.share.specs.declared.units.Dollars.{Dollars}
use Rattle.lot.specs.KindNames.{kind_name}
use Rattle.words.specs.Laws.{Fits32}
use Rattle.auction.specs.declared.terms.Terms.{Terms}
use Rattle.book.specs.declared.calls.Call.TheVariants as call
use Rattle.book.specs.declared.calls.Call.{Call}
use Rattle.command.specs.Commands.{silent}
use Rattle.command.specs.declared.command.Command.TheVariants as command
use Rattle.command.specs.declared.command.Command.{Command}
use Rattle.command.specs.declared.question.Question.TheVariants as question
use Rattle.command.specs.declared.question.Question.{Question}

-- the name of each call
abbrev pub call_name : Call → List ℕ
call_name (call.Enrol m f a) = codes "enrol"
call_name (call.TopUp m f a) = codes "top-up"
call_name (call.Release m) = codes "release"
call_name (call.Open o) = codes "open"
call_name (call.Excuse m l) = codes "excuse"
call_name (call.Bid m l k n p) = codes "bid"
call_name call.Close = codes "close"
call_name (call.Charge n) = codes "charge"
call_name (call.Recover n) = codes "recover"
call_name call.Conclude = codes "conclude"

-- the name of each question
abbrev pub question_name : Question → List ℕ
question_name question.Phase = codes "phase"
question_name (question.Member m) = codes "member"
question_name (question.Requirement m l) = codes "requirement"
question_name (question.Price l) = codes "price"
question_name (question.Allocation l e) = codes "allocation"
question_name (question.Average m l) = codes "average"
question_name (question.Class m l) = codes "class"
question_name (question.Seat s) = codes "seat"
question_name (question.Bears m s) = codes "bears"

-- the first word of a line with each command
abbrev pub Begins : Command → List ℕ → Type 0
Begins command.Nothing word = silent word ≡ true
Begins (command.House n) word = word ≡ codes "house"
Begins (command.Call c) word = word ≡ call_name c
Begins (command.Ask q) word = word ≡ question_name q

-- an amount in digits
abbrev pub amount : Dollars → List ℕ
amount d = decimal d.0

-- the words of lots, three a lot
abbrev pub lots_words : List Terms → List (List ℕ)
lots_words [] = []
lots_words (t ∷ ts) = decimal t.weight ∷ decimal t.requirement ∷ decimal t.pri ∷ lots_words ts

-- the words behind the name of a call
abbrev pub call_words : Call → List (List ℕ)
call_words (call.Enrol m f a) = decimal m ∷ amount f ∷ amount a ∷ []
call_words (call.TopUp m f a) = decimal m ∷ amount f ∷ amount a ∷ []
call_words (call.Release m) = decimal m ∷ []
call_words (call.Open o) = lots_words (take o.count o.terms)
call_words (call.Excuse m l) = decimal m ∷ decimal l ∷ []
call_words (call.Bid m l k n p) = decimal m ∷ decimal l ∷ kind_name k ∷ decimal n ∷ signed_decimal p ∷ []
call_words call.Close = []
call_words (call.Charge n) = amount n ∷ []
call_words (call.Recover n) = amount n ∷ []
call_words call.Conclude = []

-- the words behind the name of a question
abbrev pub question_words : Question → List (List ℕ)
question_words question.Phase = []
question_words (question.Member m) = decimal m ∷ []
question_words (question.Requirement m l) = decimal m ∷ decimal l ∷ []
question_words (question.Price l) = decimal l ∷ []
question_words (question.Allocation l e) = decimal l ∷ decimal e ∷ []
question_words (question.Average m l) = decimal m ∷ decimal l ∷ []
question_words (question.Class m l) = decimal m ∷ decimal l ∷ []
question_words (question.Seat s) = decimal s ∷ []
question_words (question.Bears m s) = decimal m ∷ decimal s ∷ []

-- a number of 16 bits
abbrev pub Short : ℕ → Type 0
Short n = n ≤ 65535

-- an amount of 64 bits
abbrev pub Long : Dollars → Type 0
Long d = d.0 < 2 ^ 64

-- terms of their widths
abbrev pub Sized : Terms → Type 0
Sized t = Short t.weight × Short t.requirement × (t.pri < 2 ^ 32)

-- a call whose numbers are of their widths; an offer holds all its lots, which are one to four
abbrev pub Writable : Call → Type 0
Writable (call.Enrol m f a) = Short m × Long f × Long a
Writable (call.TopUp m f a) = Short m × Long f × Long a
Writable (call.Release m) = Short m
Writable (call.Open o) = (0 < o.count) × (o.count ≤ 4) × All Sized (take o.count o.terms)
Writable (call.Excuse m l) = Short m × Short l
Writable (call.Bid m l k n p) = Short m × Short l × Short n × Fits32 p
Writable call.Close = Unit {0}
Writable (call.Charge n) = Long n
Writable (call.Recover n) = Long n
Writable call.Conclude = Unit {0}

-- a question whose numbers are of their width
abbrev pub Askable : Question → Type 0
Askable question.Phase = Unit {0}
Askable (question.Member m) = Short m
Askable (question.Requirement m l) = Short m × Short l
Askable (question.Price l) = Short l
Askable (question.Allocation l e) = Short l × Short e
Askable (question.Average m l) = Short m × Short l
Askable (question.Class m l) = Short m × Short l
Askable (question.Seat s) = Short s
Askable (question.Bears m s) = Short m × Short s
