-- How a line is cut at the bytes that pass a test. Assumes nothing.
use Rattle.std.proofs.Common.{◌≡◌, ℕ, zero, suc, ◌+◌, ◌<◌, ◌≤◌, Bool, true, false, cond, not, ◌&&◌, eqb, List, [], ◌∷◌, ◌++◌, length, get_or, take, drop, sym, refl, ap, ◌∙◌, subst, zero-add, one-add, arith}
use Rattle.std.proofs.lemmas.List.Elements.{All-nil, All-cons, All-head, All-tail, All-weaker}
use Rattle.std.proofs.lemmas.List.{nil_from_length, take-append-drop, take_at, drop_at}
use Rattle.std.proofs.lemmas.Bool.{eqb-true, ne_eqb, not-true, not-false, not_from_false}
use Rattle.std.proofs.lemmas.Bool.Decides.{nat_tests}
use Rattle.std.specs.List.{prefix_len, All}
use Rattle.words.specs.Laws.{Blank, Solid, Ended, Word}
use Rattle.words.specs.Words.{blank, solid, blanks_of, from_word, word_of, after_word, word_at, no_word, has_words, begun, word_count, first_words, words_of, spaced}

-- bytes that are none or begin with one that fails a test
abbrev pub Stops : (ℕ → Bool) → List ℕ → Type 0
Stops p [] = Unit {0}
Stops p (x ∷ xs) = p x ≡ false

abbrev Front : (ℕ → Bool) → ℕ → List ℕ → ℕ → Type 0
Front p x xs n = All (λ b. p b ≡ true) (take n (x ∷ xs)) × Stops p (drop n (x ∷ xs))

-- the longest front that passes a test passes it, and what is left does not begin with a byte that does
pub front : (p : ℕ → Bool) (xs : List ℕ) → All (λ b. p b ≡ true) (take (prefix_len p xs) xs) × Stops p (drop (prefix_len p xs) xs)
front p [] = (All-nil (λ b. p b ≡ true), tt)
front p (x ∷ xs) =
    let more : p x ≡ true → Front p x xs (1 + prefix_len p xs) =
    λ e. rw one-add (All-cons (λ b. p b ≡ true) x (take (prefix_len p xs) xs) e (front p xs).0, (front p xs).1)
    in
    let go : (t : Bool) → p x ≡ t → Front p x xs (cond t (1 + prefix_len p xs) 0) =
    λ t. elim t as (λ t. p x ≡ t → Front p x xs (cond t (1 + prefix_len p xs) 0)) [ true ↦ more | false ↦ λ e. (All-nil (λ b. p b ≡ true), e) ]
    in
    go (p x) refl

-- bytes that pass, and then one that fails: the front is those that pass
pub front-only : (p : ℕ → Bool) (xs ys : List ℕ) → All (λ b. p b ≡ true) xs → Stops p ys → prefix_len p (xs ++ ys) ≡ length xs
front-only p [] [] h s = refl
front-only p [] (y ∷ ys) h s = rw s
front-only p (x ∷ xs) ys h s = rw (All-head (λ b. p b ≡ true) x xs h, one-add) (ap suc (front-only p xs ys (All-tail (λ b. p b ≡ true) x xs h) s))

-- the laws of words
pub splits : (line : List ℕ) → line ≡ blanks_of line ++ (word_of line ++ after_word line)
splits line =
    let start = take-append-drop (prefix_len blank line) line in
    let word = take-append-drop (prefix_len solid (from_word line)) (from_word line) in
    cc

pub whole : (line : List ℕ) → Solid (word_of line)
whole line = All-weaker (λ b. solid b ≡ true) (λ b. blank b ≡ false) (λ b h. not-true (blank b) h) (word_of line) (front solid (from_word line)).0

ended : (xs : List ℕ) → Stops solid xs → Ended xs
ended [] s = tt
ended (x ∷ xs) s = not-false (blank x) s

pub behind : (line : List ℕ) → Ended (after_word line)
behind line = ended (after_word line) (front solid (from_word line)).1

stops : (xs : List ℕ) → Ended xs → Stops solid xs
stops [] s = tt
stops (x ∷ xs) s = rw s

solids : (xs : List ℕ) → Solid xs → All (λ b. solid b ≡ true) xs
solids xs h = All-weaker (λ b. blank b ≡ false) (λ b. solid b ≡ true) (λ b e. not_from_false (blank b) e) xs h

begins : (word rest : List ℕ) → Solid word → 0 < length word → Stops blank (word ++ rest)
begins [] rest h some = absurd (omega arith)
begins (b ∷ word) rest h some = All-head (λ b. blank b ≡ false) b word h

pub only : (blanks word rest : List ℕ) → Blank blanks → Solid word → 0 < length word → Ended rest → (word_of (blanks ++ (word ++ rest)) ≡ word) × (after_word (blanks ++ (word ++ rest)) ≡ rest)
only blanks word rest b w some e =
    let skip : prefix_len blank (blanks ++ (word ++ rest)) ≡ length blanks = front-only blank blanks (word ++ rest) b (begins word rest w some) in
    let behind : drop (length blanks) (blanks ++ (word ++ rest)) ≡ word ++ rest = drop_at blanks (word ++ rest) (length blanks) refl in
    let long : prefix_len solid (word ++ rest) ≡ length word = front-only solid word rest (solids word w) (stops rest e) in
    let first : take (length word) (word ++ rest) ≡ word = take_at word rest (length word) refl in
    let last : drop (length word) (word ++ rest) ≡ rest = drop_at word rest (length word) refl in
    (cc, cc)

nothing : (xs : List ℕ) → Stops blank xs → take (prefix_len solid xs) xs ≡ [] → drop (prefix_len solid xs) xs ≡ []
nothing [] s e = refl
nothing (x ∷ xs) s e =
    let one : x ∷ take (prefix_len solid xs) xs ≡ [] = rw (s, one-add) at e in
    let none : ◌≡◌ {A = ℕ} 0 1 = cc in
    absurd (omega arith)

pub none : (line : List ℕ) → word_of line ≡ [] → after_word line ≡ []
none line e = nothing (from_word line) (front blank line).1 e

pub later : (n : ℕ) (line : List ℕ) → word_at n line ≡ [] → word_at (suc n) line ≡ []
later zero line e = ap word_of (none line e)
later (suc n) line e = later n (after_word line) e

further : (n : ℕ) (line : List ℕ) → word_of line ≡ [] → word_at (suc n) line ≡ []
further zero line e = later zero line e
further (suc n) line e = further n (after_word line) (later zero line e)

pub counts : (n : ℕ) (line : List ℕ) → has_words (suc n) line ≡ (not (eqb (length (word_at n line)) 0) && eqb (length (word_at (suc n) line)) 0)
counts zero line = refl
counts (suc n) line =
    let Counted : Bool → Type 0 = λ t. (not t && has_words (suc n) (after_word line)) ≡ (not (eqb (length (word_at (suc n) line)) 0) && eqb (length (word_at (suc (suc n)) line)) 0) in
    let go : (t : Bool) → no_word line ≡ t → Counted t =
    λ t. elim t as (λ t. no_word line ≡ t → Counted t) [ true ↦ (λ e. rw (further n line (nil_from_length (word_of line) (eqb-true _ 0 e)))) | false ↦ (λ e. counts n (after_word line)) ]
    in
    go (no_word line) refl

-- the count by the words themselves
pub counted : (n : ℕ) (line word next : List ℕ) → word ≡ word_at n line → next ≡ word_at (suc n) line → has_words (suc n) line ≡ (not (eqb (length word) 0) && eqb (length next) 0)
counted n line word next e f = rw (e, f) (counts n line)

-- blanks begin no word, nor do the bytes of one that has begun
begun-blanks : (xs ys : List ℕ) → Blank xs → begun true (xs ++ ys) ≡ begun true ys
begun-blanks [] ys h = refl
begun-blanks (x ∷ xs) ys h = rw (All-head (λ b. blank b ≡ true) x xs h, zero-add) (begun-blanks xs ys (All-tail (λ b. blank b ≡ true) x xs h))

begun-solids : (xs ys : List ℕ) → Solid xs → begun false (xs ++ ys) ≡ begun false ys
begun-solids [] ys h = refl
begun-solids (x ∷ xs) ys h = rw (All-head (λ b. blank b ≡ false) x xs h, zero-add) (begun-solids xs ys (All-tail (λ b. blank b ≡ false) x xs h))

begun-ended : (ys : List ℕ) → Ended ys → begun false ys ≡ begun true ys
begun-ended [] h = refl
begun-ended (y ∷ ys) h = rw h

counted-word : (word rest : List ℕ) → Solid word → eqb (length word) 0 ≡ false → Ended rest → begun true (word ++ rest) ≡ suc (begun true rest)
counted-word [] rest h some e =
    let none : ◌≡◌ {A = Bool} true false = some in
    absurd (grind (arith, nat_tests))
counted-word (b ∷ word) rest h some e = rw (All-head (λ b. blank b ≡ false) b word h, one-add) (ap suc (begun-solids word rest (All-tail (λ b. blank b ≡ false) b word h) ∙ begun-ended rest e))

-- a line with a word has one more than what stands behind it
pub count-first : (line : List ℕ) → no_word line ≡ false → word_count line ≡ suc (word_count (after_word line))
count-first line some =
    ap word_count (splits line)
    ∙ (begun-blanks (blanks_of line) (word_of line ++ after_word line) (front blank line).0 ∙ counted-word (word_of line) (after_word line) (whole line) some (behind line))

count_none : (line : List ℕ) → no_word line ≡ true → word_count line ≡ 0
count_none line e =
    let word : word_of line ≡ [] = nil_from_length (word_of line) (eqb-true _ 0 e) in
    ap word_count (splits line)
    ∙ (begun-blanks (blanks_of line) (word_of line ++ after_word line) (front blank line).0 ∙ rw (word, none line word))

-- no more words than bytes
pub begun-le-length : (gap : Bool) (bytes : List ℕ) → begun gap bytes ≤ length bytes
begun-le-length gap [] = omega arith
begun-le-length gap (b ∷ bytes) =
    let one : (t : Bool) → cond t 1 0 ≤ 1 = λ t. elim t as (λ t. cond t 1 0 ≤ 1) [ true ↦ omega arith | false ↦ omega arith ] in
    omega (arith, one (gap && solid b), begun-le-length (blank b) bytes)

-- the list of the words has as many as are counted
length-first_words : (n : ℕ) (line : List ℕ) → length (first_words n line) ≡ n
length-first_words zero line = refl
length-first_words (suc n) line = omega (arith, length-first_words n (after_word line))

pub length-words_of : (line : List ℕ) → length (words_of line) ≡ word_count line
length-words_of line = length-first_words (word_count line) line

-- it begins with the first word, if there is one
pub words_of-some : (line : List ℕ) → no_word line ≡ false → words_of line ≡ word_of line ∷ words_of (after_word line)
words_of-some line some = rw (count-first line some)

pub words_of-none : (line : List ℕ) → no_word line ≡ true → (words_of line ≡ []) × (words_of (after_word line) ≡ [])
words_of-none line e =
    let word : word_of line ≡ [] = nil_from_length (word_of line) (eqb-true _ 0 e) in
    (rw (count_none line e), rw (none line word))

eqb-zero : (n : ℕ) → false ≡ eqb (suc n) 0
eqb-zero n = grind (arith, nat_tests)

zero-eqb : (n : ℕ) → false ≡ eqb 0 (suc n)
zero-eqb n = grind (arith, nat_tests)

eqb-suc : (m n : ℕ) → eqb m n ≡ eqb (suc m) (suc n)
eqb-suc m n = grind (arith, nat_tests)

-- the count says which line has just n words
pub many : (n : ℕ) (line : List ℕ) → has_words n line ≡ eqb (word_count line) n
many zero line =
    let go : (t : Bool) → no_word line ≡ t → t ≡ eqb (word_count line) 0 =
    λ t. elim t as (λ t. no_word line ≡ t → t ≡ eqb (word_count line) 0) [ true ↦ (λ e. rw (count_none line e)) | false ↦ (λ e. rw (count-first line e) (eqb-zero (word_count (after_word line)))) ]
    in
    go (no_word line) refl
many (suc n) line =
    let Counted : Bool → Type 0 = λ t. (not t && has_words n (after_word line)) ≡ eqb (word_count line) (suc n) in
    let go : (t : Bool) → no_word line ≡ t → Counted t =
    λ t. elim t as (λ t. no_word line ≡ t → Counted t) [ true ↦ (λ e. rw (count_none line e) (zero-eqb n)) | false ↦ (λ e. rw (count-first line e) (many n (after_word line) ∙ eqb-suc (word_count (after_word line)) n)) ]
    in
    go (no_word line) refl

spaced-ended : (ws : List (List ℕ)) → Ended (spaced ws)
spaced-ended [] = tt
spaced-ended (w ∷ ws) = refl

-- lines that are written word by word
pub written : (w : List ℕ) (ws : List (List ℕ)) → Word w → (word_of (spaced (w ∷ ws)) ≡ w) × (after_word (spaced (w ∷ ws)) ≡ spaced ws)
written w ws h = only (32 ∷ []) w (spaced ws) (All-cons (λ b. blank b ≡ true) 32 [] refl (All-nil (λ b. blank b ≡ true))) h.0 h.1 (spaced-ended ws)

pub written_count : (ws : List (List ℕ)) → All Word ws → word_count (spaced ws) ≡ length ws
written_count [] h = refl
written_count (w ∷ ws) h =
    let word : Word w = All-head Word w ws h in
    let cut = written w ws word in
    let some : eqb (length w) 0 ≡ false = ne_eqb (length w) 0 (λ e. omega (arith, word.1)) in
    let first : no_word (spaced (w ∷ ws)) ≡ false = rw cut.0 some in
    count-first (spaced (w ∷ ws)) first ∙ ap suc (ap word_count cut.1 ∙ written_count ws (All-tail Word w ws h))

-- and these are its words
pub listed : (ws : List (List ℕ)) → All Word ws → words_of (spaced ws) ≡ ws
listed [] h = refl
listed (w ∷ ws) h =
    let word : Word w = All-head Word w ws h in
    let cut = written w ws word in
    let some : eqb (length w) 0 ≡ false = ne_eqb (length w) 0 (λ e. omega (arith, word.1)) in
    let first : no_word (spaced (w ∷ ws)) ≡ false = rw cut.0 some in
    words_of-some (spaced (w ∷ ws)) first ∙ rw (cut.0, cut.1, listed ws (All-tail Word w ws h))

-- the word at a number is the one at that place of the list, if there are as many
pub each : (n : ℕ) (line : List ℕ) → word_at n line ≡ get_or (words_of line) n []
each zero line =
    let At : List (List ℕ) → Type 0 = λ ws. word_of line ≡ get_or ws 0 [] in
    let go : (t : Bool) → no_word line ≡ t → At (words_of line) =
    λ t. elim t as (λ t. no_word line ≡ t → At (words_of line)) [
      | true ↦ (λ e. subst At (sym (words_of-none line e).0) (nil_from_length (word_of line) (eqb-true _ 0 e)))
      | false ↦ (λ e. subst At (sym (words_of-some line e)) refl)
    ]
    in
    go (no_word line) refl
each (suc n) line =
    let At : List (List ℕ) → Type 0 = λ ws. word_at (suc n) line ≡ get_or ws (suc n) [] in
    let go : (t : Bool) → no_word line ≡ t → At (words_of line) =
    λ t. elim t as (λ t. no_word line ≡ t → At (words_of line)) [
      | true ↦ (λ e. subst At (sym (words_of-none line e).0) (further n line (nil_from_length (word_of line) (eqb-true _ 0 e))))
      | false ↦ (λ e. subst At (sym (words_of-some line e)) (each n (after_word line)))
    ]
    in
    go (no_word line) refl
