-- Words that are names of ASCII letters. Assumes nothing.
use Rattle.std.specs.Prelude.{◌≡◌, ℕ, Bool, true, false, ◌&&◌, List, [], ◌∷◌, nat_lt}
use Rattle.std.specs.Str.{bytes_eq, IsUtf8}

-- whether bytes are all ASCII
abbrev pub plain : List ℕ → Bool
plain [] = true
plain (b ∷ bytes) = nat_lt b 128 && plain bytes

-- whether bytes can be a name: one ASCII byte or more
abbrev pub name_like : List ℕ → Bool
name_like [] = false
name_like (b ∷ bytes) = plain (b ∷ bytes)

-- a text that is a name just where a word is that name
abbrev pub SameNames : List ℕ → List ℕ → Type 0
SameNames word text = (name : List ℕ) → name_like name ≡ true → bytes_eq text name ≡ bytes_eq word name

-- the text that a word is: its own bytes where they are UTF-8, else none
pub record IsTextOf (word text : List ℕ) : Type 0 where
  pub whole : IsUtf8 word → text ≡ word
  pub none : (IsUtf8 word → ⊥) → text ≡ []
