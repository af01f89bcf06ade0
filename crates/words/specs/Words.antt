-- The words of a line of bytes. Assumes nothing.
use Rattle.std.specs.Prelude.{ℕ, zero, suc, ◌+◌, Bool, true, cond, not, ◌&&◌, ◌||◌, List, [], ◌∷◌, length, take, drop, ◌==◌}
use Rattle.std.specs.List.{flat_map, prefix_len}

-- space, tab and carriage return stand between words
abbrev pub blank : ℕ → Bool
blank b = b == 32 || (b == 9 || b == 13)

-- any other byte belongs to a word
abbrev pub solid : ℕ → Bool
solid b = not (blank b)

-- the blanks that a line begins with
abbrev pub blanks_of : List ℕ → List ℕ
blanks_of line = take (prefix_len blank line) line

-- a line from its first word on
abbrev pub from_word : List ℕ → List ℕ
from_word line = drop (prefix_len blank line) line

-- the first word of a line: empty where it has none
abbrev pub word_of : List ℕ → List ℕ
word_of line = take (prefix_len solid (from_word line)) (from_word line)

-- what stands behind the first word
abbrev pub after_word : List ℕ → List ℕ
after_word line = drop (prefix_len solid (from_word line)) (from_word line)

-- the word at n of a line, counted from 0: empty where it has not as many
abbrev pub word_at : ℕ → List ℕ → List ℕ
word_at zero line = word_of line
word_at (suc n) line = word_at n (after_word line)

-- whether a line has no word
abbrev pub no_word : List ℕ → Bool
no_word line = length (word_of line) == 0

-- whether a line has just n words
abbrev pub has_words : ℕ → List ℕ → Bool
has_words zero line = no_word line
has_words (suc n) line = not (no_word line) && has_words n (after_word line)

-- how many words begin among bytes, of which the first stands in a gap or not
abbrev pub begun : Bool → List ℕ → ℕ
begun gap [] = 0
begun gap (b ∷ bytes) = cond (gap && solid b) 1 0 + begun (blank b) bytes

-- how many words a line has: a word begins at a byte of a word with none before it
abbrev pub word_count : List ℕ → ℕ
word_count line = begun true line

-- words with a space (32) before each
abbrev pub spaced : List (List ℕ) → List ℕ
spaced words = flat_map (λ word. 32 ∷ word) words

-- the first n words of a line
abbrev pub first_words : ℕ → List ℕ → List (List ℕ)
first_words zero line = []
first_words (suc n) line = word_of line ∷ first_words n (after_word line)

-- the words of a line
abbrev pub words_of : List ℕ → List (List ℕ)
words_of line = first_words (word_count line) line
