-- Reading a number digit by digit. Assumes nothing.
use Rattle.std.proofs.Common.{◌≡◌, ℕ, suc, ◌+◌, ◌-◌, ◌*◌, ◌^◌, ◌<◌, ◌≤◌, true, false, cond, ◌&&◌, eqb, leb, List, [], ◌∷◌, length, get_or, drop, ℤ, pos, negsuc, Some, None, decimal, fold, Option, refl, ◌∙◌, arith, rules}
use lib.Signed.{mag}
use Rattle.std.proofs.lemmas.Fmt.{digits_decimal, digits_value-decimal, decimal_nonempty}
use Rattle.std.proofs.lemmas.Str.Parse.{IsNumeralModel, numerals_by_fold, tells_all_ascii_digits}
use Rattle.std.proofs.lemmas.List.Elements.{All-nil, All-cons}
use Rattle.std.proofs.lemmas.List.{at_drop_more, at_drop_all}
use Rattle.std.proofs.lemmas.Bool.{and_parts, and_right, cond-false, le-leb, lt-leb}
use Rattle.std.proofs.lemmas.Bool.Decides.{nat_tests}
use Rattle.std.specs.Option.{option_map}
use Rattle.std.specs.Char.{is_ascii_digit}
use Rattle.std.specs.Fmt.{signed_decimal}
use Rattle.std.specs.Str.{all_ascii_digits}
use Rattle.words.specs.Laws.{Fits32, Solid}
use Rattle.words.specs.Words.{blank}
use Rattle.words.specs.Numbers.{value, natural_upto, signed_of}

-- the number so far with one more digit
abbrev pub more : ℕ → ℕ → ℕ
more n digit = n * 10 + (digit - 48)

-- what is read of the bytes to come, after the number so far
abbrev pub reading : ℕ → ℕ → List ℕ → Option ℕ
reading most n bytes = cond (all_ascii_digits bytes && leb (fold more n bytes) most) (Some (fold more n bytes)) None

-- the number never falls
pub grows : (n : ℕ) (bytes : List ℕ) → n ≤ fold more n bytes
grows n [] = omega arith
grows n (b ∷ bytes) = omega (arith, grows (more n b) bytes)

-- a word of one byte or more is read from 0
pub starts : (most : ℕ) (bytes : List ℕ) → 0 < length bytes → natural_upto most bytes ≡ reading most 0 bytes
starts most [] h = absurd (omega arith)
starts most (b ∷ bytes) h = refl

-- a digit goes into the number
pub steps : (most n : ℕ) (bytes : List ℕ) (i : ℕ) → i < length bytes → is_ascii_digit (get_or bytes i 0) ≡ true → reading most n (drop i bytes) ≡ reading most (more n (get_or bytes i 0)) (drop (i + 1) bytes)
steps most n bytes i h e = at_drop_more (reading most n) bytes i 0 h ∙ rw e

-- another byte makes it no number
pub other : (most n : ℕ) (bytes : List ℕ) (i : ℕ) → i < length bytes → is_ascii_digit (get_or bytes i 0) ≡ false → reading most n (drop i bytes) ≡ None
other most n bytes i h e = at_drop_more (reading most n) bytes i 0 h ∙ rw e

-- past the limit it stays past the limit
pub past : (most n : ℕ) (bytes : List ℕ) (i : ℕ) → i < length bytes → most < more n (get_or bytes i 0) → reading most n (drop i bytes) ≡ None
past most n bytes i h over =
    let b : ℕ = get_or bytes i 0 in
    let rest : List ℕ = drop (i + 1) bytes in
    let far : leb (fold more (more n b) rest) most ≡ false = lt-leb _ _ (omega (arith, grows (more n b) rest)) in
    at_drop_more (reading most n) bytes i 0 h
    ∙ cond-false (all_ascii_digits (b ∷ rest) && leb (fold more (more n b) rest) most) _ _ (and_right (all_ascii_digits (b ∷ rest)) _ far)

-- so the whole word is no number within the limit
pub too-great : (most n : ℕ) (bytes : List ℕ) (i : ℕ) → reading most n (drop i bytes) ≡ reading most 0 bytes → i < length bytes → most < more n (get_or bytes i 0) → None ≡ natural_upto most bytes
too-great most n bytes i inv h over =
    let start = starts most bytes (omega arith) in
    let stop = past most n bytes i h over in
    cc

-- at the end it is what was read
pub ends : (most n : ℕ) (bytes : List ℕ) (i : ℕ) → length bytes ≤ i → n ≤ most → reading most n (drop i bytes) ≡ Some n
ends most n bytes i h within = at_drop_all (reading most n) bytes i h ∙ rw (le-leb n most within)

-- what is read is within the limit
pub within : (most n : ℕ) (word : List ℕ) → Some n ≡ natural_upto most word → n ≤ most
within most n word e = grind (arith, nat_tests)

-- these are the words of std for digits and their number
own : IsNumeralModel (λ ds. all_ascii_digits ds ≡ true) value
own = numerals_by_fold _ tells_all_ascii_digits (fold more) (search rules)

-- a number is read back from its decimal digits
pub reads : (n most : ℕ) → n ≤ most → most < 2 ^ 64 → natural_upto most (decimal n) ≡ Some n
reads n most small fits =
    let below : n < 2 ^ 64 = omega arith in
    let digits : all_ascii_digits (decimal n) ≡ true = digits_decimal own n below in
    let is : fold more 0 (decimal n) ≡ n = digits_value-decimal own n below in
    starts most (decimal n) (decimal_nonempty n below) ∙ rw (digits, is, le-leb n most small)

-- digits alone are no negative number
plain : (word : List ℕ) → all_ascii_digits word ≡ true → signed_of word ≡ option_map pos (natural_upto 2147483647 word)
plain [] h = refl
plain (b ∷ bytes) h =
    let other : eqb b 45 ≡ false = grind (arith, nat_tests) in rw other

-- every number that fits 32 bits is read back
pub reads_32 : (z : ℤ) → Fits32 z → signed_of (signed_decimal z) ≡ Some z
reads_32 (pos n) h =
    plain (decimal n) (digits_decimal own n (omega arith)) ∙ rw (reads n 2147483647 (omega arith) (omega arith))
reads_32 (negsuc n) h = rw (reads (suc n) 2147483648 (omega arith) (omega arith))

-- and one below 2 ^ 31 without its sign fits
fits : (z : ℤ) → mag z < 2 ^ 31 → Fits32 z
fits (pos n) h = h
fits (negsuc n) h = omega arith

pub reads_signed : (z : ℤ) → mag z < 2 ^ 31 → signed_of (signed_decimal z) ≡ Some z
reads_signed z h = reads_32 z (fits z h)

-- a digit is no blank
digits-solid : (word : List ℕ) → all_ascii_digits word ≡ true → Solid word
digits-solid [] h = All-nil (λ b. blank b ≡ false)
digits-solid (b ∷ bytes) h =
    let parts = and_parts (is_ascii_digit b) (all_ascii_digits bytes) h in
    let digit : is_ascii_digit b ≡ true = parts.0 in
    let other : blank b ≡ false = grind (arith, nat_tests) in
    All-cons (λ b. blank b ≡ false) b bytes other (digits-solid bytes parts.1)

-- a number in decimal is a word
pub decimal-word : (n : ℕ) → n < 2 ^ 64 → Solid (decimal n) × (0 < length (decimal n))
decimal-word n h = (digits-solid (decimal n) (digits_decimal own n h), decimal_nonempty n h)

-- and so is one with a sign
pub word-32 : (z : ℤ) → Fits32 z → Solid (signed_decimal z) × (0 < length (signed_decimal z))
word-32 (pos n) h = decimal-word n (omega arith)
word-32 (negsuc n) h = (All-cons (λ b. blank b ≡ false) 45 (decimal (suc n)) refl (decimal-word (suc n) (omega arith)).0, omega arith)

pub signed_word : (z : ℤ) → mag z < 2 ^ 31 → Solid (signed_decimal z) × (0 < length (signed_decimal z))
signed_word z h = word-32 z (fits z h)
