-- The laws of the share rule. Assumes nothing.
use Rattle.std.proofs.Common.{◌≡◌, ℕ, zero, suc, ◌+◌, ◌-◌, ◌*◌, ◌/◌, ◌<◌, ◌≤◌, List, map, length, get_or, take, sym, ap, ◌∙◌, subst, inl, inr, mul-le-mul_right, mul_comm, mul-le-mul_left, mul-zero, zero-add, mul-add, mul-div_cancel, add-one, arith}
use native.Mathlib.Nat.{div-zero, zero-div, sub-zero}
use Rattle.std.specs.List.{range_with_len}
use Rattle.std.proofs.lemmas.List.{take_all, take-take, get_or-map, length-map, take-map}
use Rattle.std.proofs.lemmas.List.Sums.{sum_by_more, sum_by-take-le}
use Rattle.std.proofs.lemmas.List.FromFn.{sum_by-map-range_with_len_more}
use Rattle.std.proofs.lemmas.Bool.{cases_lt}
use Rattle.share.specs.Rule.{total, upto, share_of, shares_of, left_of, lowered}
use Rattle.share.specs.Laws.{Within, ShareLaw}
use Rattle.share.proofs.Divided.{div_mono, div-near, div-step}

pub total-more : (ws : List ℕ) (i : ℕ) → i < length ws → total (take (i + 1) ws) ≡ total (take i ws) + get_or ws i 0
total-more ws i h = sum_by_more (λ x. x) ws i 0 h

pub total-take-le : (ws : List ℕ) (i : ℕ) → total (take i ws) ≤ total ws
total-take-le ws i = sum_by-take-le (λ x. x) ws i

pub total_mono : (ws : List ℕ) (i j : ℕ) → i ≤ j → total (take i ws) ≤ total (take j ws)
total_mono ws i j h = rw (take-take i j ws h) at (total-take-le (take j ws) i)

pub upto-mono : (a : ℕ) (ws : List ℕ) (i j : ℕ) → i ≤ j → upto a ws i ≤ upto a ws j
upto-mono a ws i j h = div_mono (a * total (take i ws)) (a * total (take j ws)) (total ws) (mul-le-mul_left a (total_mono ws i j h))

pub upto-none : (a : ℕ) (ws : List ℕ) → upto a ws 0 ≡ 0
upto-none a ws = simp (mul-zero, zero-div)

pub upto_all : (a : ℕ) (ws : List ℕ) → 0 < total ws → upto a ws (length ws) ≡ a
upto_all a ws pos = rw (take_all (length ws) ws (omega arith)) (mul-div_cancel a pos)

-- the first n shares_of come to what the first n get together
pub shares-upto : (a : ℕ) (ws : List ℕ) (n : ℕ) → total (map (share_of a ws) (range_with_len 0 n)) ≡ upto a ws n
shares-upto a ws zero = sym (upto-none a ws)
shares-upto a ws (suc n) =
    let step = sum_by-map-range_with_len_more (λ x. x) (share_of a ws) 0 n n (zero-add n) in
    let before = shares-upto a ws n in
    let more = upto-mono a ws n (n + 1) (omega arith) in
    let next : total (map (share_of a ws) (range_with_len 0 (n + 1))) ≡ upto a ws (n + 1) = omega arith in
    subst (λ k. total (map (share_of a ws) (range_with_len 0 k)) ≡ upto a ws k) (add-one n) next

pub adds_up : (a : ℕ) (ws : List ℕ) → 0 < total ws → total (shares_of a ws) ≡ a
adds_up a ws pos = shares-upto a ws (length ws) ∙ upto_all a ws pos

step_of : (a : ℕ) (ws : List ℕ) (i : ℕ) → i < length ws → a * total (take (i + 1) ws) ≡ a * total (take i ws) + a * get_or ws i 0
step_of a ws i h = ap (λ n. a * n) (total-more ws i h) ∙ mul-add a (total (take i ws)) (get_or ws i 0)

pub near : (a : ℕ) (ws : List ℕ) (i : ℕ) → i < length ws → 0 < total ws → Within (share_of a ws i * total ws) (a * get_or ws i 0) (total ws)
near a ws i h pos = rw (step_of a ws i h) (div-near (a * total (take i ws)) (a * get_or ws i 0) (total ws) pos)

pub nothing : (a : ℕ) (ws : List ℕ) (i : ℕ) → total ws ≡ 0 → share_of a ws i ≡ 0
nothing a ws i none = simp (none, div-zero)

pub within-weight : (a : ℕ) (ws : List ℕ) (i : ℕ) → i < length ws → a ≤ total ws → share_of a ws i ≤ get_or ws i 0
within-weight a ws i h small = elim (cases_lt 0 (total ws)) [
  | inl pos ↦ rw (step_of a ws i h) (div-step (a * total (take i ws)) (a * get_or ws i 0) (total ws) pos (get_or ws i 0) (omega (arith, mul-le-mul_right (get_or ws i 0) small, mul_comm (get_or ws i 0) (total ws))))
  | inr none ↦ let z : total ws ≡ 0 = omega arith in omega (arith, nothing a ws i z)
]

-- no share is above the amount
pub share-at_most : (a : ℕ) (ws : List ℕ) (i : ℕ) → share_of a ws i ≤ a
share-at_most a ws i = elim (cases_lt 0 (total ws)) [
  | inl pos ↦
      let most : upto a ws (i + 1) ≤ a * total ws / total ws = div_mono _ _ (total ws) (mul-le-mul_left a (total-take-le ws (i + 1))) in
      omega (arith, mul-div_cancel a pos)
  | inr none ↦ let z : total ws ≡ 0 = omega arith in omega (arith, nothing a ws i z)
]

-- one item more of a row whose weights f reads
pub total-item : {X : Type 0} (f : X → ℕ) (xs : List X) (i : ℕ) (x : X) → i < length xs → x ≡ get_or xs i x →
    total (take (i + 1) (map f xs)) ≡ total (take i (map f xs)) + f x
total-item f xs i x h read =
    let long = length-map xs f in
    let at : get_or (map f xs) i 0 ≡ f x = get_or-map f xs i x 0 h ∙ ap f (sym read) in
    rw at at (total-more (map f xs) i (omega arith))

-- the front of a row, as a slice `&items[0..i]` has it
pub total-front : {X : Type 0} (f : X → ℕ) (xs : List X) (i : ℕ) → total (map f (take (i - 0) xs)) ≡ total (take i (map f xs))
total-front f xs i = rw (sub-zero, take-map)

-- the shares of what is within the weights add up to it, also where all the weights are 0
pub adds_up_within : (a : ℕ) (ws : List ℕ) → a ≤ total ws → total (shares_of a ws) ≡ a
adds_up_within a ws small =
    elim (cases_lt 0 (total ws)) [
      | inl pos ↦ adds_up a ws pos
      | inr none ↦
          let z : total ws ≡ 0 = omega arith in
          let zero-upto : upto a ws (length ws) ≡ 0 = simp (z, div-zero) in
          omega (arith, shares-upto a ws (length ws))
    ]

-- what is left of the first n weights
lowered-upto : (a : ℕ) (ws : List ℕ) → a ≤ total ws → (n : ℕ) → n ≤ length ws → total (map (left_of a ws) (range_with_len 0 n)) + upto a ws n ≡ total (take n ws)
lowered-upto a ws small zero h =
    let none = upto-none a ws in
    omega arith
lowered-upto a ws small (suc n) h =
    let step = sum_by-map-range_with_len_more (λ x. x) (left_of a ws) 0 n n (zero-add n) in
    let before = lowered-upto a ws small n (omega arith) in
    let more = upto-mono a ws n (n + 1) (omega arith) in
    let weight = total-more ws n (omega arith) in
    let within = within-weight a ws n (omega arith) small in
    let next : total (map (left_of a ws) (range_with_len 0 (n + 1))) + upto a ws (n + 1) ≡ total (take (n + 1) ws) = omega arith in
    subst (λ k. total (map (left_of a ws) (range_with_len 0 k)) + upto a ws k ≡ total (take k ws)) (add-one n) next

-- what is left of the weights comes to what the amount leaves of their sum
pub lowers : (a : ℕ) (ws : List ℕ) → a ≤ total ws → total (lowered a ws) ≡ total ws - a
lowers a ws small =
    let all = lowered-upto a ws small (length ws) (omega arith) in
    let shared = shares-upto a ws (length ws) in
    let whole = adds_up_within a ws small in
    let taken : total (take (length ws) ws) ≡ total ws = ap total (take_all (length ws) ws (omega arith)) in
    omega arith

pub share-law : ShareLaw
share-law = record { adds_up = adds_up; near = near; within = within-weight; none = nothing; adds_up_within = adds_up_within; lowers = lowers }
