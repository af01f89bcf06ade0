-- What holds of every line and of every number. Assumes nothing.
use Rattle.std.specs.Prelude.{◌≡◌, ℕ, suc, ◌^◌, ◌<◌, ◌≤◌, true, false, not, ◌&&◌, List, [], ◌∷◌, ◌++◌, length, slice_index_or, ℤ, pos, negsuc, Some, decimal, ◌==◌}
use Rattle.std.specs.Int.Signed.{mag}
use Rattle.std.specs.Fmt.{signed_decimal}
use Rattle.std.specs.List.{All}
use Rattle.words.specs.Numbers.{natural_upto, signed_of}
use Rattle.words.specs.Words.{blank, blanks_of, word_of, after_word, word_at, has_words, word_count, words_of, spaced}

-- bytes that are all blanks
abbrev pub Blank : List ℕ → Type 0
Blank bytes = All (λ b. blank b ≡ true) bytes

-- bytes that have no blank among them
abbrev pub Solid : List ℕ → Type 0
Solid bytes = All (λ b. blank b ≡ false) bytes

-- bytes that are none or begin with a blank
abbrev pub Ended : List ℕ → Type 0
Ended [] = Unit {0}
Ended (b ∷ bytes) = blank b ≡ true

-- one byte or more, none of them a blank
abbrev pub Word : List ℕ → Type 0
Word bytes = Solid bytes × (0 < length bytes)

-- a number that fits 32 bits with its sign
abbrev pub Fits32 : ℤ → Type 0
Fits32 (pos n) = n < 2 ^ 31
Fits32 (negsuc n) = n < 2 ^ 31

-- the laws of words and numbers
pub record WordsLaw : Type 0 where
  -- a line is blanks, its first word, and what stands behind that
  pub splits : (line : List ℕ) → line ≡ blanks_of line ++ (word_of line ++ after_word line)
  -- what stands before the first word is all blanks
  pub before : (line : List ℕ) → Blank (blanks_of line)
  -- a word holds no blank
  pub whole : (line : List ℕ) → Solid (word_of line)
  -- what stands behind the first word is empty or begins with a blank
  pub behind : (line : List ℕ) → Ended (after_word line)
  -- there is one way to cut a line so
  pub only : (blanks word rest : List ℕ) → Blank blanks → Solid word → 0 < length word → Ended rest → (word_of (blanks ++ (word ++ rest)) ≡ word) × (after_word (blanks ++ (word ++ rest)) ≡ rest)
  -- a line with no word is all blanks, with nothing behind it
  pub none : (line : List ℕ) → word_of line ≡ [] → after_word line ≡ []
  -- where there is no word there is none further on
  pub later : (n : ℕ) (line : List ℕ) → word_at n line ≡ [] → word_at (suc n) line ≡ []
  -- a line has just n + 1 words if there is one at n and none at n + 1
  pub counts : (n : ℕ) (line : List ℕ) → has_words (suc n) line ≡ (not (length (word_at n line) == 0) && length (word_at (suc n) line) == 0)
  -- the count of words is the one number of which the line has just as many
  pub many : (n : ℕ) (line : List ℕ) → has_words n line ≡ (word_count line == n)
  -- the word at n is the one at that place of the words of the line, if there are as many
  pub each : (n : ℕ) (line : List ℕ) → word_at n line ≡ slice_index_or (words_of line) n []
  -- a line that is written word by word is cut into these words
  pub written : (word : List ℕ) (words : List (List ℕ)) → Word word → (word_of (spaced (word ∷ words)) ≡ word) × (after_word (spaced (word ∷ words)) ≡ spaced words)
  -- and has as many
  pub written_count : (words : List (List ℕ)) → All Word words → word_count (spaced words) ≡ length words
  -- and these are all its words, in their order
  pub listed : (words : List (List ℕ)) → All Word words → words_of (spaced words) ≡ words
  -- a number is read back from its decimal digits
  pub reads : (n most : ℕ) → n ≤ most → most < 2 ^ 64 → natural_upto most (decimal n) ≡ Some n
  -- and so is a number that may be negative
  pub reads_signed : (z : ℤ) → mag z < 2 ^ 31 → signed_of (signed_decimal z) ≡ Some z
  -- the least of 32 bits included
  pub reads_32 : (z : ℤ) → Fits32 z → signed_of (signed_decimal z) ≡ Some z
