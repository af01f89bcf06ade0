-- The words that an iterator over a line has left. Assumes nothing.
use Rattle.std.specs.Prelude.{ℕ, List}
use Rattle.words.specs.Words.{words_of}
use Rattle.words.specs.declared.Words.{Words}

-- the words that are still to come
abbrev pub words_left : Words → List (List ℕ)
words_left words = words_of words.rest.now
