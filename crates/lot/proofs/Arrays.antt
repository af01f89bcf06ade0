-- Arrays that are made by a function, or filled from the front. Assumes nothing.
use Rattle.std.proofs.Common.{◌≡◌, ℕ, zero, suc, ◌+◌, ◌<◌, ◌≤◌, List, [], ◌∷◌, ◌++◌, map, length, get_or, take, set, sym, refl, ap, ◌∙◌, subst, ap₂, arith}
use Rattle.std.proofs.lemmas.List.{same_lists, length-map, get_or-map, take_more, take_more_set, take_all}
use Rattle.std.proofs.lemmas.List.FromFn.{length-map-range_with_len, get_or-map-range_with_len}
use Rattle.std.proofs.Math.Seq.{take-append_seam}
use Rattle.std.specs.Array.{IsFromFnResult, IsFromFnResultFrom, IsMapOf, MapsFrom}
use Rattle.std.specs.Iterator.{ActsAs}
use Rattle.std.specs.List.{range_with_len}
use denote.Param.Members.{Mut, Called}

-- of each element of another
module _ {F A B : Type 0} {g : Mut F (A × Unit {0}) B} {f : F} (h : A → B) (acts : ActsAs g f h) (xs : List A) (ys : List B) where
  mapped-at : (i n k j : ℕ) (e : B) → MapsFrom g f xs ys i n → k < n → i + k ≡ j → j < length xs → get_or ys j e ≡ get_or (map h xs) j e
  mapped-at i zero k j e made low same inside = absurd (omega arith)
  mapped-at i (suc n) zero j e (q, x, y, at_x, at_y, called, rest) low same inside =
      let here : i ≡ j = omega arith in
      subst (λ m. get_or ys m e ≡ get_or (map h xs) m e) here (at_y.1 e ∙ (acts x y q called).1 ∙ sym (get_or-map h xs i x e (omega arith) ∙ ap h at_x.0))
  mapped-at i (suc n) (suc k) j e (q, x, y, at_x, at_y, called, rest) low same inside =
      mapped-at (i + 1) n k j e (subst (λ p. MapsFrom g p xs ys (i + 1) n) (acts x y q called).0 rest) (omega arith) (omega arith) inside

  pub mapped : (n : ℕ) → length xs ≡ n → IsMapOf g f xs ys n → ys ≡ map h xs
  mapped n whole made =
      same_lists ys (map h xs) (omega (arith, whole, made.long, length-map xs h))
      (λ j e low. mapped-at 0 n j j e made.each (omega (arith, low, made.long)) (omega arith) (omega (arith, low, made.long, whole)))

-- of each index
module _ {F B : Type 0} {g : Mut F (ℕ × Unit {0}) B} {f : F} (h : ℕ → B) (ys : List B) where
  counted-at : (i n k j : ℕ) (e : B) → ((m : ℕ) (y : B) (q : F) → m < i + n → Called g f (m, tt) y q → (q ≡ f) × (y ≡ h m)) → IsFromFnResultFrom g f ys i n → k < n → i + k ≡ j → get_or ys j e ≡ h j
  counted-at i zero k j e acts made low same = absurd (omega arith)
  counted-at i (suc n) zero j e acts (q, y, at_y, called, rest) low same =
      let here : i ≡ j = omega arith in
      subst (λ m. get_or ys m e ≡ h m) here (at_y.1 e ∙ (acts i y q (omega arith) called).1)
  counted-at i (suc n) (suc k) j e acts (q, y, at_y, called, rest) low same =
      counted-at (i + 1) n k j e (λ m z p below. acts m z p (omega (arith, below))) (subst (λ p. IsFromFnResultFrom g p ys (i + 1) n) (acts i y q (omega arith) called).0 rest) (omega arith) (omega arith)

  pub counted : (n : ℕ) → ((m : ℕ) (y : B) (q : F) → m < n → Called g f (m, tt) y q → (q ≡ f) × (y ≡ h m)) → IsFromFnResult g f ys n → ys ≡ map h (range_with_len 0 n)
  counted n acts made =
      same_lists ys (map h (range_with_len 0 n)) (omega (arith, made.long, length-map-range_with_len h 0 n))
      (λ j e low.
      let inside : j < n = omega (arith, low, made.long) in
      counted-at 0 n j j e (λ m y q below. acts m y q (omega (arith, below))) made.each inside (omega arith) ∙ sym (get_or-map-range_with_len h 0 n j j e inside (omega arith)))

-- of each element of another, by its index
pub counted-of : {A B : Type 0} (h : A → B) (xs : List A) (d : A) (n : ℕ) → length xs ≡ n → map (λ i. h (get_or xs i d)) (range_with_len 0 n) ≡ map h xs
counted-of h xs d n long =
    let at : ℕ → _ = λ i. h (get_or xs i d) in
    let same = length-map-range_with_len at 0 n in
    same_lists (map at (range_with_len 0 n)) (map h xs) (omega (arith, same, length-map xs h, long))
    (λ j e low.
    let inside : j < n = omega (arith, low, same) in
    get_or-map-range_with_len at 0 n j j e inside (omega arith) ∙ sym (get_or-map h xs j d e (omega (arith, inside, long))))

-- counted from the next number on
pub later : {B : Type 0} (h : ℕ → B) (a n : ℕ) → map (λ i. h (i + 1)) (range_with_len a n) ≡ map h (range_with_len (a + 1) n)
later h a zero = refl
later h a (suc n) = ap (λ ys. h (a + 1) ∷ ys) (later h (a + 1) n)

-- arrays that are filled from the front
module _ {X : Type 0} (ys : List X) where
  -- one element more
  pub fill_more : (xs : List X) (i : ℕ) (y d : X) → i < length xs → i < length ys → take i xs ≡ take i ys → y ≡ get_or ys i d → take (i + 1) (set xs i y) ≡ take (i + 1) ys
  fill_more xs i y d h k e f = take_more_set xs i y h ∙ ap₂ (λ zs z. zs ++ z ∷ []) e f ∙ sym (take_more ys i d k)

  -- all of them
  pub fill-all : (xs : List X) (n i : ℕ) → length ys ≡ n → n ≤ i → i ≤ n → take i xs ≡ take i ys → take n xs ≡ ys
  fill-all xs n i e h k f =
      let end : i ≡ n = omega arith in
      subst (λ j. take j xs ≡ take j ys) end f ∙ take_all n ys (omega (arith, e))

-- arrays whose first places were written, item by item
pub front : {X : Type 0} (items rest : List X) (n : ℕ) → length items ≡ n → take n (items ++ rest) ≡ items
front items rest n long = ap (λ m. take m (items ++ rest)) (sym long) ∙ take-append_seam items rest
