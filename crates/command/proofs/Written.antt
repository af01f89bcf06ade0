-- Commands that are written are read back. Assumes nothing.
use Rattle.std.proofs.Common.{◌≡◌, ℕ, ◌*◌, ◌/◌, ◌%◌, ◌^◌, ◌<◌, Bool, true, false, ◌&&◌, eqb, List, [], ◌∷◌, length, take, ℤ, Ok, codes, decimal, Result, refl, ap, ◌∙◌, arith, rules}
use Rattle.std.proofs.lemmas.Bool.{and_parts, eq-eqb, ne_eqb, not-true}
use Rattle.std.specs.Fmt.{signed_decimal}
use Rattle.std.proofs.lemmas.List.Elements.{All-nil, All-cons, All-head, All-tail}
use Rattle.std.specs.List.{All}
use Rattle.share.specs.declared.units.Dollars.{Dollars}
use Rattle.lot.specs.KindNames.{kind_name}
use Rattle.lot.specs.declared.bid.Kind.{Kind}
use Rattle.lot.specs.declared.bid.Kind.TheVariants.{Standard, AllOrNothing}
use Rattle.words.proofs.Cuts.{written, written_count}
use Rattle.words.proofs.Reading.{decimal-word, reads, reads_32, word-32}
use Rattle.words.specs.Laws.{Fits32, Solid, Word}
use Rattle.words.specs.Words.{blank, solid, spaced, word_count}
use Rattle.auction.specs.declared.terms.Terms.{Terms}
use Rattle.auction.specs.declared.offer.Offer.{Offer}
use Rattle.book.specs.declared.calls.Call.{Call}
use Rattle.book.specs.declared.calls.Call.TheVariants as call
use Rattle.command.proofs.Offering.{some-held, whole}
use Rattle.command.specs.Commands.{command_of, order_of, silent}
use Rattle.command.specs.Lines.{Askable, Long, Short, Sized, Writable, amount, call_name, call_words, lots_words, question_name, question_words}
use Rattle.command.specs.Opening.{behind_lot, lots_by, offer_of, offering, terms_by}
use Rattle.command.specs.Readings.{bid_of, counted, dollars_of, holding_of, kind_of, number_of, one_amount, one_number, price_of, pri_of, two_numbers}
use Rattle.command.specs.declared.command.Command.TheVariants as command
use Rattle.command.specs.declared.fault.Fault.{Fault}
use Rattle.command.specs.declared.question.Question.{Question}
use Rattle.command.specs.declared.question.Question.TheVariants as question

-- whether no byte of a name is a blank
abbrev unbroken : List ℕ → Bool
unbroken [] = true
unbroken (b ∷ bytes) = solid b && unbroken bytes

unbroken-solid : (bytes : List ℕ) → unbroken bytes ≡ true → Solid bytes
unbroken-solid [] h = All-nil (λ b. blank b ≡ false)
unbroken-solid (b ∷ bytes) h =
    let parts = and_parts (solid b) (unbroken bytes) h in
    All-cons (λ b. blank b ≡ false) b bytes (not-true (blank b) parts.0) (unbroken-solid bytes parts.1)

-- a line with this first word
pub begins : (name : List ℕ) (ws : List (List ℕ)) → unbroken name ≡ true → 0 < length name → silent name ≡ false → command_of (spaced (name ∷ ws)) ≡ order_of name (spaced ws)
begins name ws h some s =
    let cut = written name ws (unbroken-solid name h, some) in
    rw (cut.0, cut.1, s)

-- values are words and are read back
short-word : (n : ℕ) → Short n → Word (decimal n)
short-word n h = decimal-word n (omega arith)

number-back : (n : ℕ) → Short n → number_of (decimal n) ≡ Ok n
number-back n h = rw (reads n 65535 h (omega arith))

dollars-back : (d : Dollars) → Long d → dollars_of (amount d) ≡ Ok d
dollars-back d h = rw (reads d.0 18446744073709551615 (omega arith) (omega arith))

pri-back : (n : ℕ) → n < 2 ^ 32 → pri_of (decimal n) ≡ Ok n
pri-back n h = rw (reads n 4294967295 (omega arith) (omega arith))

price-back : (z : ℤ) → Fits32 z → price_of (signed_decimal z) ≡ Ok z
price-back z h = rw (reads_32 z h)

kind-is-word : (k : Kind) → Word (kind_name k)
kind-is-word Standard = (search rules, omega arith)
kind-is-word AllOrNothing = (search rules, omega arith)

kind-back : (k : Kind) → kind_of (kind_name k) ≡ Ok k
kind-back Standard = refl
kind-back AllOrNothing = refl

-- the words of a list one by one
abbrev EachWord : List (List ℕ) → Type 0
EachWord [] = Unit {0}
EachWord (w ∷ ws) = Word w × EachWord ws

each-word : (ws : List (List ℕ)) → EachWord ws → All Word ws
each-word [] h = All-nil Word
each-word (w ∷ ws) h = All-cons Word w ws h.0 (each-word ws h.1)

-- a line with so many words goes on
goes : {A : Type 0} (n : ℕ) (ws : List (List ℕ)) (r : Result A Fault) → EachWord ws → length ws ≡ n → counted n (spaced ws) r ≡ r
goes n ws r h e = rw (eq-eqb (word_count (spaced ws)) n (written_count ws (each-word ws h) ∙ e))

-- the words of commands are read back
pub one_number-back : (n : ℕ) → Short n → one_number (spaced (decimal n ∷ [])) ≡ Ok n
one_number-back n h =
    let w = short-word n h in
    goes 1 (decimal n ∷ []) _ (w, tt) refl ∙ rw (written (decimal n) [] w).0 (number-back n h)

pub one_amount-back : (d : Dollars) → Long d → one_amount (spaced (amount d ∷ [])) ≡ Ok d
one_amount-back d h =
    let w = decimal-word d.0 h in
    goes 1 (amount d ∷ []) _ (w, tt) refl ∙ rw (written (amount d) [] w).0 (dollars-back d h)

pub two_numbers-back : (a b : ℕ) → Short a → Short b → two_numbers (spaced (decimal a ∷ decimal b ∷ [])) ≡ Ok (a, b)
two_numbers-back a b ha hb =
    let fa = written (decimal a) (decimal b ∷ []) (short-word a ha) in
    let fb = written (decimal b) [] (short-word b hb) in
    goes 2 (decimal a ∷ decimal b ∷ []) _ (short-word a ha, (short-word b hb, tt)) refl
    ∙ rw (fa.0, fa.1, fb.0, number-back a ha, number-back b hb)

pub holding-back : (m : ℕ) (f a : Dollars) → Short m → Long f → Long a → holding_of (spaced (decimal m ∷ amount f ∷ amount a ∷ [])) ≡ Ok (m, f, a)
holding-back m f a hm hf ha =
    let wm = short-word m hm in
    let wf = decimal-word f.0 hf in
    let wa = decimal-word a.0 ha in
    let fm = written (decimal m) (amount f ∷ amount a ∷ []) wm in
    let ff = written (amount f) (amount a ∷ []) wf in
    let fa = written (amount a) [] wa in
    goes 3 (decimal m ∷ amount f ∷ amount a ∷ []) _ (wm, (wf, (wa, tt))) refl
    ∙ rw (fm.0, fm.1, ff.0, ff.1, fa.0, number-back m hm, dollars-back f hf, dollars-back a ha)

pub bid-back : (m l : ℕ) (k : Kind) (n : ℕ) (p : ℤ) → Short m → Short l → Short n → Fits32 p → bid_of (spaced (decimal m ∷ decimal l ∷ kind_name k ∷ decimal n ∷ signed_decimal p ∷ [])) ≡ Ok (call.Bid m l k n p)
bid-back m l k n p hm hl hn hp =
    let wm = short-word m hm in
    let wl = short-word l hl in
    let wk = kind-is-word k in
    let wn = short-word n hn in
    let wp = word-32 p hp in
    let fm = written (decimal m) (decimal l ∷ kind_name k ∷ decimal n ∷ signed_decimal p ∷ []) wm in
    let fl = written (decimal l) (kind_name k ∷ decimal n ∷ signed_decimal p ∷ []) wl in
    let fk = written (kind_name k) (decimal n ∷ signed_decimal p ∷ []) wk in
    let fn = written (decimal n) (signed_decimal p ∷ []) wn in
    let fp = written (signed_decimal p) [] wp in
    goes 5 (decimal m ∷ decimal l ∷ kind_name k ∷ decimal n ∷ signed_decimal p ∷ []) _ (wm, (wl, (wk, (wn, (wp, tt))))) refl
    ∙ rw (fm.0, fm.1, fl.0, fl.1, fk.0, fk.1, fn.0, fn.1, fp.0, number-back m hm, number-back l hl, kind-back k, number-back n hn, price-back p hp)

-- the terms of a lot, and what stands behind them
terms-back : (t : Terms) (ws : List (List ℕ)) → Sized t → (terms_by (spaced (decimal t.weight ∷ decimal t.requirement ∷ decimal t.pri ∷ ws)) ≡ Ok t) × (behind_lot (spaced (decimal t.weight ∷ decimal t.requirement ∷ decimal t.pri ∷ ws)) ≡ spaced ws)
terms-back t ws h =
    let fw = written (decimal t.weight) (decimal t.requirement ∷ decimal t.pri ∷ ws) (short-word t.weight h.0) in
    let fr = written (decimal t.requirement) (decimal t.pri ∷ ws) (short-word t.requirement h.1) in
    let fp = written (decimal t.pri) ws (decimal-word t.pri (omega (arith, h.2))) in
    (rw (fw.0, fw.1, fr.0, fr.1, fp.0, number-back t.weight h.0, number-back t.requirement h.1, pri-back t.pri h.2), rw (fw.1, fr.1, fp.1))

lots-back : (ts : List Terms) → All Sized ts → lots_by (length ts) (spaced (lots_words ts)) ≡ Ok ts
lots-back [] h = refl
lots-back (t ∷ ts) h =
    let first = terms-back t (lots_words ts) (All-head Sized t ts h) in
    rw (first.0, first.1, lots-back ts (All-tail Sized t ts h))

lots-are-words : (ts : List Terms) → All Sized ts → EachWord (lots_words ts)
lots-are-words [] h = tt
lots-are-words (t ∷ ts) h =
    let sized : Sized t = All-head Sized t ts h in
    (short-word t.weight sized.0, (short-word t.requirement sized.1, (decimal-word t.pri (omega (arith, sized.2)), lots-are-words ts (All-tail Sized t ts h))))

three : (ts : List Terms) → length (lots_words ts) ≡ length ts * 3
three [] = refl
three (t ∷ ts) = omega (arith, three ts)

pub offer-back : (ts : List Terms) → 0 < length ts → All Sized ts → offer_of (spaced (lots_words ts)) ≡ Ok (offering ts)
offer-back ts some h =
    let words : word_count (spaced (lots_words ts)) ≡ length ts * 3 = written_count (lots_words ts) (each-word (lots_words ts) (lots-are-words ts h)) ∙ three ts in
    let any : eqb (length ts * 3) 0 ≡ false = ne_eqb (length ts * 3) 0 (λ e. omega arith) in
    let threes : length ts * 3 % 3 ≡ 0 = omega arith in
    let each : length ts * 3 / 3 ≡ length ts = omega arith in
    rw (words, any, threes, each, lots-back ts h)

-- every call is read back
pub calls : (c : Call) → Writable c → command_of (spaced (call_name c ∷ call_words c)) ≡ Ok (command.Call c)
calls (call.Enrol m f a) h = begins (codes "enrol") (decimal m ∷ amount f ∷ amount a ∷ []) refl (omega arith) refl ∙ rw (holding-back m f a h.0 h.1 h.2)
calls (call.TopUp m f a) h = begins (codes "top-up") (decimal m ∷ amount f ∷ amount a ∷ []) refl (omega arith) refl ∙ rw (holding-back m f a h.0 h.1 h.2)
calls (call.Release m) h = begins (codes "release") (decimal m ∷ []) refl (omega arith) refl ∙ rw (one_number-back m h)
calls (call.Open o) h = begins (codes "open") (lots_words (take o.count o.terms)) refl (omega arith) refl ∙ rw (offer-back (take o.count o.terms) (some-held o h.0) h.2) (ap (λ (o : Offer). Ok (command.Call (call.Open o))) (whole o h.1))
calls (call.Excuse m l) h = begins (codes "excuse") (decimal m ∷ decimal l ∷ []) refl (omega arith) refl ∙ rw (two_numbers-back m l h.0 h.1)
calls (call.Bid m l k n p) h = begins (codes "bid") (decimal m ∷ decimal l ∷ kind_name k ∷ decimal n ∷ signed_decimal p ∷ []) refl (omega arith) refl ∙ rw (bid-back m l k n p h.0 h.1 h.2 h.3)
calls call.Close h = begins (codes "close") [] refl (omega arith) refl
calls (call.Charge n) h = begins (codes "charge") (amount n ∷ []) refl (omega arith) refl ∙ rw (one_amount-back n h)
calls (call.Recover n) h = begins (codes "recover") (amount n ∷ []) refl (omega arith) refl ∙ rw (one_amount-back n h)
calls call.Conclude h = begins (codes "conclude") [] refl (omega arith) refl

-- and every question
pub asks : (q : Question) → Askable q → command_of (spaced (question_name q ∷ question_words q)) ≡ Ok (command.Ask q)
asks question.Phase h = begins (codes "phase") [] refl (omega arith) refl
asks (question.Member m) h = begins (codes "member") (decimal m ∷ []) refl (omega arith) refl ∙ rw (one_number-back m h)
asks (question.Requirement m l) h = begins (codes "requirement") (decimal m ∷ decimal l ∷ []) refl (omega arith) refl ∙ rw (two_numbers-back m l h.0 h.1)
asks (question.Price l) h = begins (codes "price") (decimal l ∷ []) refl (omega arith) refl ∙ rw (one_number-back l h)
asks (question.Allocation l e) h = begins (codes "allocation") (decimal l ∷ decimal e ∷ []) refl (omega arith) refl ∙ rw (two_numbers-back l e h.0 h.1)
asks (question.Average m l) h = begins (codes "average") (decimal m ∷ decimal l ∷ []) refl (omega arith) refl ∙ rw (two_numbers-back m l h.0 h.1)
asks (question.Class m l) h = begins (codes "class") (decimal m ∷ decimal l ∷ []) refl (omega arith) refl ∙ rw (two_numbers-back m l h.0 h.1)
asks (question.Seat s) h = begins (codes "seat") (decimal s ∷ []) refl (omega arith) refl ∙ rw (one_number-back s h)
asks (question.Bears m s) h = begins (codes "bears") (decimal m ∷ decimal s ∷ []) refl (omega arith) refl ∙ rw (two_numbers-back m s h.0 h.1)

-- the house, and an `open` of any number of lots
pub houses : (d : Dollars) → Long d → command_of (spaced (codes "house" ∷ amount d ∷ [])) ≡ Ok (command.House d)
houses d h = begins (codes "house") (amount d ∷ []) refl (omega arith) refl ∙ rw (one_amount-back d h)

pub opens : (lots : List Terms) → 0 < length lots → All Sized lots → command_of (spaced (codes "open" ∷ lots_words lots)) ≡ Ok (command.Call (call.Open (offering lots)))
opens lots some h = begins (codes "open") (lots_words lots) refl (omega arith) refl ∙ rw (offer-back lots some h)
