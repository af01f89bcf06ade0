-- Lines that are written word by word. Assumes nothing.
use Rattle.std.proofs.Common.{◌≡◌, ℕ, ◌^◌, ◌<◌, ◌≤◌, false, eqb, List, [], ◌∷◌, length, ℤ, Some, Ok, codes, decimal, refl, ◌∙◌, arith, rules}
use lib.Signed.{mag}
use Rattle.lot_sheet.specs.Commands.{bid_by, bid_of, command_of}
use Rattle.lot_sheet.specs.Laws.{bid_line}
use Rattle.lot_sheet.specs.declared.command.Command.TheVariants.{Bid}
use Rattle.lot.specs.declared.bid.Kind.{Kind}
use Rattle.lot.specs.KindNames.{kind_name, kind_named}
use Rattle.lot.specs.declared.bid.Kind.TheVariants.{Standard, AllOrNothing}
use Rattle.std.proofs.lemmas.Bool.{ne_eqb}
use Rattle.std.specs.Fmt.{signed_decimal}
use Rattle.words.proofs.Cuts.{written}
use Rattle.words.proofs.Reading.{decimal-word, signed_word, reads, reads_signed}
use Rattle.words.specs.Laws.{Word}
use Rattle.words.specs.Words.{spaced, word_of, after_word}

some : (w : List ℕ) → Word w → eqb (length w) 0 ≡ false
some w h = ne_eqb (length w) 0 (λ e. omega arith)

-- a bid line by its four words
four : (a b c d : List ℕ) → Word a → Word b → Word c → Word d → bid_of (spaced (a ∷ b ∷ c ∷ d ∷ [])) ≡ bid_by a b c d
four a b c d ha hb hc hd =
    let fa = written a (b ∷ c ∷ d ∷ []) ha in
    let fb = written b (c ∷ d ∷ []) hb in
    let fc = written c (d ∷ []) hc in
    let fd = written d [] hd in
    rw (fa.0, fa.1, fb.0, fb.1, fc.0, fc.1, fd.0, fd.1, some a ha, some b hb, some c hc, some d hd)

kind-is-word : (kind : Kind) → Word (kind_name kind)
kind-is-word Standard = (search rules, omega arith)
kind-is-word AllOrNothing = (search rules, omega arith)

kind-back : (kind : Kind) → kind_named (kind_name kind) ≡ Some kind
kind-back Standard = refl
kind-back AllOrNothing = refl

-- a line whose first word is `bid`
begins : (line rest : List ℕ) → word_of line ≡ codes "bid" → after_word line ≡ rest → command_of line ≡ bid_of rest
begins line rest e f = rw (e, f)

-- every bid is read back from its line
pub reads-bid : (member : ℕ) (kind : Kind) (size : ℕ) (price : ℤ) → member ≤ 65535 → size ≤ 65535 → mag price < 2 ^ 31 → command_of (bid_line member kind size price) ≡ Ok (Bid (record { member = member; kind = kind; size = record { 0 = size }; price = record { 0 = price } }))
reads-bid member kind size price m s p =
    let a = decimal-word member (omega arith) in
    let c = decimal-word size (omega arith) in
    let rest = decimal member ∷ kind_name kind ∷ decimal size ∷ signed_decimal price ∷ [] in
    let start = written (codes "bid") rest (search rules, omega arith) in
    let words = four (decimal member) (kind_name kind) (decimal size) (signed_decimal price) a (kind-is-word kind) c (signed_word price p) in
    begins (bid_line member kind size price) (spaced rest) start.0 start.1
    ∙ words
    ∙ rw (reads member 65535 m (omega arith), kind-back kind, reads size 65535 s (omega arith), reads_signed price p)
