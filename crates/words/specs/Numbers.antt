-- The numbers that words write. Assumes nothing.
use Rattle.std.specs.Prelude.{ℕ, ◌+◌, ◌-◌, ◌*◌, Bool, false, cond, ◌&&◌, List, [], ◌∷◌, ℤ, pos, neg_ℤ, Some, None, fold, Option, ◌==◌, nat_le}
use Rattle.std.specs.Option.{option_map}
use Rattle.std.specs.Str.{all_ascii_digits}

-- the number that digits write, in base ten
abbrev pub value : List ℕ → ℕ
value digits = fold (λ n digit. n * 10 + (digit - 48)) 0 digits

-- whether a word is one digit or more
abbrev pub numeral : List ℕ → Bool
numeral [] = false
numeral (b ∷ bytes) = all_ascii_digits (b ∷ bytes)

-- the number that a word writes, if it is one and at most the given one
abbrev pub natural_upto : ℕ → List ℕ → Option ℕ
natural_upto most word = cond (numeral word && nat_le (value word) most) (Some (value word)) None

-- the same with perhaps a `-` (45) in front, if it fits 32 bits
abbrev pub signed_of : List ℕ → Option ℤ
signed_of [] = None
signed_of (b ∷ bytes) =
    cond (b == 45)
    (option_map (λ n. neg_ℤ (pos n)) (natural_upto 2147483648 bytes))
    (option_map pos (natural_upto 2147483647 (b ∷ bytes)))
