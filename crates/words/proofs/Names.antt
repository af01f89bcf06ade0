-- Names in a table, and words that are no text. Assumes nothing.
use Rattle.std.proofs.Common.{◌≡◌, ℕ, ◌<◌, Bool, true, false, ltb, List, [], ◌∷◌, Ok, Err, IsUtf8, Result, sym, refl, ap, ◌∙◌, subst, arith, Bor, ltb-true, MatchResult}
use Rattle.std.proofs.lemmas.List.Elements.{All-nil, All-cons}
use Rattle.std.proofs.lemmas.Str.Ascii.{IsAscii-from_all}
use Rattle.std.proofs.lemmas.Slice.Eq.{bytes_eq-Decides}
use Rattle.std.proofs.lemmas.Bool.{and_parts}
use Rattle.std.proofs.lemmas.Str.{IsUtf8-from_ascii}
use Rattle.std.proofs.lemmas.Bool.Decides.{nat_tests}
use Rattle.std.specs.Result.{result_unwrap_or}
use Rattle.std.specs.List.{All}
use Rattle.std.specs.Str.{bytes_eq}
use Rattle.words.specs.Names.{IsTextOf, SameNames, plain}

-- other bytes are not the same
pub differs : (xs ys : List ℕ) → (xs ≡ ys → ⊥) → bytes_eq xs ys ≡ false
differs xs ys h =
    let go : (t : Bool) → bytes_eq xs ys ≡ t → t ≡ false =
    λ t. elim t as (λ t. bytes_eq xs ys ≡ t → t ≡ false) [ true ↦ (λ e. absurd (h ((bytes_eq-Decides xs ys).0 e))) | false ↦ (λ e. refl) ]
    in
    go (bytes_eq xs ys) refl

-- such bytes are text
plain-ascii : (bytes : List ℕ) → plain bytes ≡ true → All (λ b. b < 128) bytes
plain-ascii [] h = All-nil (λ b. b < 128)
plain-ascii (b ∷ bytes) h =
    let parts = and_parts (ltb b 128) (plain bytes) h in
    All-cons (λ b. b < 128) b bytes (ltb-true b 128 parts.0) (plain-ascii bytes parts.1)

plain-utf8 : (bytes : List ℕ) → plain bytes ≡ true → IsUtf8 bytes
plain-utf8 bytes h = IsUtf8-from_ascii bytes (IsAscii-from_all bytes (plain-ascii bytes h))

-- a text by what `from_utf8` says of a word
pub same_names : {E : Type 0} (Q : E → Type 0) (word : List ℕ) (r : Result (Bor (List ℕ)) E) (empty text : Bor (List ℕ)) → MatchResult r (λ s. (s.now ≡ word) × IsUtf8 word) (λ e. (IsUtf8 word → ⊥) × Q e) → empty.now ≡ [] → text ≡ result_unwrap_or r empty → SameNames word text.now
same_names Q word r empty text h none e [] name = let never : ◌≡◌ {A = Bool} false true = name in absurd (grind (arith, nat_tests))
same_names Q word (Ok s) empty text h none e (b ∷ bytes) name = ap (λ (t : Bor (List ℕ)). bytes_eq t.now (b ∷ bytes)) e ∙ ap (λ (t : List ℕ). bytes_eq t (b ∷ bytes)) h.0
same_names Q word (Err fault) empty text h none e (b ∷ bytes) name =
    let other : bytes_eq word (b ∷ bytes) ≡ false = differs word (b ∷ bytes) (λ is. h.0 (subst IsUtf8 (sym is) (plain-utf8 (b ∷ bytes) name))) in
    ap (λ (t : Bor (List ℕ)). bytes_eq t.now (b ∷ bytes)) e
    ∙ (ap (λ (t : List ℕ). bytes_eq t (b ∷ bytes)) none ∙ sym other)

pub text_is : {E : Type 0} (Q : E → Type 0) (word : List ℕ) (r : Result (Bor (List ℕ)) E) (empty text : Bor (List ℕ)) → MatchResult r (λ s. (s.now ≡ word) × IsUtf8 word) (λ e. (IsUtf8 word → ⊥) × Q e) → empty.now ≡ [] → text ≡ result_unwrap_or r empty → IsTextOf word text.now
text_is Q word (Ok s) empty text h none e = record {
  whole = λ is. ap (λ (t : Bor (List ℕ)). t.now) e ∙ h.0;
  none = λ isnt. absurd (isnt h.1);
}
text_is Q word (Err fault) empty text h none e = record {
  whole = λ is. absurd (h.0 is);
  none = λ isnt. ap (λ (t : Bor (List ℕ)). t.now) e ∙ none;
}
