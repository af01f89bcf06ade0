-- What a line that is a command begins with, and what numbers are read as. Assumes nothing.
use Rattle.std.proofs.Common.{◌≡◌, ℕ, zero, suc, ◌≤◌, Bool, true, false, cond, ◌&&◌, ◌||◌, eqb, leb, List, [], ◌∷◌, length, ℤ, pos, neg_ℤ, Some, None, Ok, Err, codes, Option, Result, sym, refl, ap, ◌∙◌, subst, arith}
use Rattle.std.proofs.lemmas.Slice.Eq.{bytes_eq-Decides}
use Rattle.std.proofs.lemmas.Bool.{leb-true}
use Rattle.std.specs.Option.{option_map}
use Rattle.std.specs.Str.{bytes_eq}
use Rattle.share.specs.declared.units.Dollars.{Dollars}
use Rattle.lot.specs.declared.bid.Kind.{Kind}
use Rattle.words.proofs.Reading.{within}
use Rattle.words.specs.Laws.{Fits32}
use Rattle.words.specs.Numbers.{natural_upto, numeral, value}
use Rattle.words.specs.Words.{after_word, no_word, word_at, word_count, word_of}
use Rattle.book.specs.declared.calls.Call.{Call}
use Rattle.book.specs.declared.calls.Call.TheVariants.{Bid}
use Rattle.command.specs.Commands.{choose, command_of, orders, order_of, question_of, questions, silent}
use Rattle.command.specs.Lines.{Begins, call_name}
use Rattle.command.specs.Readings.{bid_of, counted, enrol_of, given, kind_of, number_of, or_fault, price_of, top_up_of}
use Rattle.command.specs.declared.command.Command.{Command}
use Rattle.command.specs.declared.command.Command.TheVariants as command
use Rattle.command.specs.declared.fault.Fault.{Fault}
use Rattle.command.specs.declared.fault.Fault.TheVariants.{Count, Price}

-- lines that do nothing
pub empty : (line : List ℕ) → no_word line ≡ true → command_of line ≡ Ok command.Nothing
empty line h = rw h

or-true : (t : Bool) → (t || true) ≡ true
or-true true = refl
or-true false = refl

pub comment : (line more : List ℕ) → word_of line ≡ 35 ∷ more → command_of line ≡ Ok command.Nothing
comment line more e = rw (e, or-true (eqb (length (35 ∷ more)) 0))

-- what holds of a value, if there is one
abbrev Keeps : {A : Type 0} → (A → Type 0) → Result A Fault → Type 0
Keeps {A} P r = (y : A) → r ≡ Ok y → P y

keeps-ok : {A : Type 0} (P : A → Type 0) (x : A) → P x → Keeps P (Ok x)
keeps-ok P x h y e = let is : x ≡ y = cc in subst P is h

keeps-err : {A : Type 0} (P : A → Type 0) (fault : Fault) → Keeps P (Err fault)
keeps-err P fault y e = let never : ◌≡◌ {A = ℕ} 0 1 = cc in absurd (omega arith)

keeps_given : {A B : Type 0} (Q : A → Type 0) (P : B → Type 0) (r : Result A Fault) (f : A → Result B Fault) → Keeps Q r → ((x : A) → Q x → Keeps P (f x)) → Keeps P (given r f)
keeps_given Q P (Ok x) f q h y e = h x (q x refl) y e
keeps_given Q P (Err fault) f q h y e = keeps-err P fault y e

keeps-each : {A B : Type 0} (P : B → Type 0) (r : Result A Fault) (f : A → Result B Fault) → ((x : A) → Keeps P (f x)) → Keeps P (given r f)
keeps-each P (Ok x) f h y e = h x y e
keeps-each P (Err fault) f h y e = keeps-err P fault y e

keeps-cond : {A : Type 0} (P : A → Type 0) (t : Bool) (r : Result A Fault) (fault : Fault) → Keeps P r → Keeps P (cond t r (Err fault))
keeps-cond P true r fault h y e = h y e
keeps-cond P false r fault h y e = keeps-err P fault y e

-- what a call has as its name
abbrev Named : List ℕ → Call → Type 0
Named name c = name ≡ call_name c

bid-made : (a b : Result ℕ Fault) (c : Result Kind Fault) (d : Result ℕ Fault) (e : Result ℤ Fault) → Keeps (Named (codes "bid")) (given a (λ m. given b (λ l. given c (λ k. given d (λ n. given e (λ p. Ok (Bid m l k n p)))))))
bid-made (Ok m) (Ok l) (Ok k) (Ok n) (Ok p) = keeps-ok (Named (codes "bid")) (Bid m l k n p) refl
bid-made (Ok m) (Ok l) (Ok k) (Ok n) (Err fault) = keeps-err (Named (codes "bid")) fault
bid-made (Ok m) (Ok l) (Ok k) (Err fault) e = keeps-err (Named (codes "bid")) fault
bid-made (Ok m) (Ok l) (Err fault) d e = keeps-err (Named (codes "bid")) fault
bid-made (Ok m) (Err fault) c d e = keeps-err (Named (codes "bid")) fault
bid-made (Err fault) b c d e = keeps-err (Named (codes "bid")) fault

bid-named : (rest : List ℕ) → Keeps (Named (codes "bid")) (bid_of rest)
bid-named rest = keeps-cond (Named (codes "bid")) (eqb (word_count rest) 5) _ Count (bid-made (number_of (word_at 0 rest)) (number_of (word_at 1 rest)) (kind_of (word_at 2 rest)) (number_of (word_at 3 rest)) (price_of (word_at 4 rest)))

-- a row's name is the first word of its command
abbrev Rowed : List ℕ × Result Command Fault → Type 0
Rowed row = Keeps (λ c. Begins c row.0) row.1

abbrev EachRowed : List (List ℕ × Result Command Fault) → Type 0
EachRowed [] = Unit {0}
EachRowed (row ∷ rows) = Rowed row × EachRowed rows

by-each : {A : Type 0} (name : List ℕ) (r : Result A Fault) (f : A → Command) → ((x : A) → Begins (f x) name) → Keeps (λ c. Begins c name) (given r (λ x. Ok (f x)))
by-each name r f h = keeps-each (λ c. Begins c name) r (λ x. Ok (f x)) (λ x. keeps-ok (λ c. Begins c name) (f x) (h x))

by_call : (name : List ℕ) (r : Result Call Fault) → Keeps (Named name) r → Keeps (λ c. Begins c name) (given r (λ c. Ok (command.Call c)))
by_call name r h = keeps_given (Named name) (λ c. Begins c name) r (λ c. Ok (command.Call c)) h (λ c e. keeps-ok (λ c. Begins c name) (command.Call c) e)

by_count : (name rest : List ℕ) (c : Command) → Begins c name → Keeps (λ c. Begins c name) (counted 0 rest (Ok c))
by_count name rest c h = keeps-cond (λ c. Begins c name) (eqb (word_count rest) 0) (Ok c) _ (keeps-ok (λ c. Begins c name) c h)

enrol-named : (rest : List ℕ) → Keeps (Named (codes "enrol")) (enrol_of rest)
enrol-named rest = keeps-each (Named (codes "enrol")) _ _ (λ h. keeps-ok (Named (codes "enrol")) _ refl)

top-up-named : (rest : List ℕ) → Keeps (Named (codes "top-up")) (top_up_of rest)
top-up-named rest = keeps-each (Named (codes "top-up")) _ _ (λ h. keeps-ok (Named (codes "top-up")) _ refl)

orders-named : (rest : List ℕ) → EachRowed (orders rest)
orders-named rest = (
  by-each (codes "house") _ _ (λ n. refl),
  (
    by_call (codes "enrol") _ (enrol-named rest),
    (
      by_call (codes "top-up") _ (top-up-named rest),
      (
        by-each (codes "release") _ _ (λ n. refl),
        (
          by-each (codes "open") _ _ (λ n. refl),
          (
            by-each (codes "excuse") _ _ (λ n. refl),
            (
              by_call (codes "bid") _ (bid-named rest),
              (
                by_count (codes "close") rest _ refl,
                (
                  by-each (codes "charge") _ _ (λ n. refl),
                  (
                    by-each (codes "recover") _ _ (λ n. refl),
                    (by_count (codes "conclude") rest _ refl, tt),
                  ),
                ),
              ),
            ),
          ),
        ),
      ),
    ),
  ),
)

questions-named : (rest : List ℕ) → EachRowed (questions rest)
questions-named rest = (
  by_count (codes "phase") rest _ refl,
  (
    by-each (codes "member") _ _ (λ n. refl),
    (
      by-each (codes "requirement") _ _ (λ n. refl),
      (
        by-each (codes "price") _ _ (λ n. refl),
        (
          by-each (codes "allocation") _ _ (λ n. refl),
          (
            by-each (codes "average") _ _ (λ n. refl),
            (
              by-each (codes "class") _ _ (λ n. refl),
              (
                by-each (codes "seat") _ _ (λ n. refl),
                (by-each (codes "bears") _ _ (λ n. refl), tt),
              ),
            ),
          ),
        ),
      ),
    ),
  ),
)

by_rows : (word : List ℕ) (rows : List (List ℕ × Result Command Fault)) (last : Result Command Fault) → EachRowed rows → Keeps (λ c. Begins c word) last → Keeps (λ c. Begins c word) (choose word rows last)
by_rows word [] last h k c e = k c e
by_rows word (row ∷ rows) last h k c e =
    let Goes : Bool → Type 0 = λ t. cond t row.1 (choose word rows last) ≡ Ok c → Begins c word in
    let go : (t : Bool) → bytes_eq word row.0 ≡ t → Goes t =
    λ t. elim t as (λ t. bytes_eq word row.0 ≡ t → Goes t) [ true ↦ (λ s e. subst (λ w. Begins c w) (sym ((bytes_eq-Decides word row.0).0 s)) (h.0 c e)) | false ↦ (λ s e. by_rows word rows last h.1 k c e) ]
    in
    go (bytes_eq word row.0) refl e

-- the first word is the command's name
pub named : (line : List ℕ) (c : Command) → command_of line ≡ Ok c → Begins c (word_of line)
named line c e =
    let word : List ℕ = word_of line in
    let rest : List ℕ = after_word line in
    let ask : Keeps (λ c. Begins c word) (question_of word rest) = by_rows word (questions rest) _ (questions-named rest) (keeps-err (λ c. Begins c word) _) in
    let order : Keeps (λ c. Begins c word) (order_of word rest) = by_rows word (orders rest) _ (orders-named rest) ask in
    let Goes : Bool → Type 0 = λ t. cond t (Ok command.Nothing) (order_of word rest) ≡ Ok c → Begins c word in
    let go : (t : Bool) → silent word ≡ t → Goes t =
    λ t. elim t as (λ t. silent word ≡ t → Goes t) [ true ↦ (λ s e. keeps-ok (λ c. Begins c word) command.Nothing s c e) | false ↦ (λ s e. order c e) ]
    in
    go (silent word) refl e

-- a number is what its digits write, within its width
pub exact : (most : ℕ) (fault : Fault) (word : List ℕ) (n : ℕ) → or_fault fault (natural_upto most word) ≡ Ok n → (numeral word ≡ true) × (value word ≡ n) × (n ≤ most)
exact most fault word n e = go (numeral word) (leb (value word) most) refl refl e
  where
    go : (t u : Bool) → numeral word ≡ t → leb (value word) most ≡ u → or_fault fault (cond (t && u) (Some (value word)) None) ≡ Ok n → (numeral word ≡ true) × (value word ≡ n) × (n ≤ most)
    go true true a b e = let is : value word ≡ n = cc in (a, is, omega (arith, leb-true (value word) most b))
    go true false a b e = let never : ◌≡◌ {A = ℕ} 0 1 = cc in absurd (omega arith)
    go false u a b e = let never : ◌≡◌ {A = ℕ} 0 1 = cc in absurd (omega arith)

pub exact_amount : (most : ℕ) (fault : Fault) (word : List ℕ) (d : Dollars) → given (or_fault fault (natural_upto most word)) (λ n. Ok (record { 0 = n })) ≡ Ok d → (numeral word ≡ true) × (value word ≡ d.0) × (d.0 ≤ most)
exact_amount most fault word d e = go (or_fault fault (natural_upto most word)) refl e
  where
    go : (r : Result ℕ Fault) → or_fault fault (natural_upto most word) ≡ r → given r (λ n. Ok (record { 0 = n })) ≡ Ok d → (numeral word ≡ true) × (value word ≡ d.0) × (d.0 ≤ most)
    go (Ok n) is e = let same : n ≡ d.0 = keeps-ok (λ (c : Dollars). n ≡ c.0) (record { 0 = n }) refl d e in exact most fault word d.0 (is ∙ ap Ok same)
    go (Err f) is e = let never : ◌≡◌ {A = ℕ} 0 1 = cc in absurd (omega arith)

-- and a price fits 32 bits
fits_below : (n : ℕ) → n ≤ 2147483648 → Fits32 (neg_ℤ (pos n))
fits_below zero h = omega arith
fits_below (suc n) h = omega arith

pub fits_price : (word : List ℕ) (z : ℤ) → price_of word ≡ Ok z → Fits32 z
fits_price [] z e = keeps-err Fits32 Price z e
fits_price (b ∷ bytes) z e = go (eqb b 45) (natural_upto 2147483648 bytes) (natural_upto 2147483647 (b ∷ bytes)) refl refl e
  where
    go : (t : Bool) (r s : Option ℕ) → natural_upto 2147483648 bytes ≡ r → natural_upto 2147483647 (b ∷ bytes) ≡ s → or_fault Price (cond t (option_map (λ n. neg_ℤ (pos n)) r) (option_map pos s)) ≡ Ok z → Fits32 z
    go true (Some n) s below above e = keeps-ok Fits32 (neg_ℤ (pos n)) (fits_below n (within 2147483648 n bytes (sym below))) z e
    go true None s below above e = keeps-err Fits32 Price z e
    go false r (Some n) below above e = keeps-ok Fits32 (pos n) (omega (arith, within 2147483647 n (b ∷ bytes) (sym above))) z e
    go false r None below above e = keeps-err Fits32 Price z e
