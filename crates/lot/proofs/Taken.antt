-- What holds of bids that a lot took one after another. Assumes nothing.
use Rattle.std.proofs.Common.{◌≡◌, ℕ, ◌≤◌, Bool, true, false, cond, ◌&&◌, eqb, ltb, List, [], ◌∷◌, ◌++◌, length, take, ℤ, pos, negsuc, nat_abs, refl, mul-le-mul_right, arith}
use lib.Signed.{lt_z}
use Rattle.std.proofs.lemmas.List.{append-nil, append_assoc, length-take}
use Rattle.std.proofs.lemmas.Bool.{and_parts, and_from, or_parts, eqb-true, eq-eqb, ltb-false}
use Rattle.std.proofs.lemmas.List.Elements.{All-nil, All-cons, All-weaker}
use Rattle.std.proofs.lemmas.List.Sums.{sum_by-le, sum_by-take-le}
use Rattle.std.proofs.lemmas.Bool.Decides.{nat_tests}
use Rattle.std.specs.List.{All}
use Rattle.lot.specs.Bids.{whole, is_standard, standard_of, meets, asked, all_asked}
use Rattle.lot.specs.Entering.{highest, lowest, out_of_limits, refusal, taken_after}
use Rattle.lot.specs.Lots.{entries_of}
use Rattle.lot.specs.declared.bid.Bid.{Bid}
use Rattle.lot.specs.declared.bid.Kind.TheVariants.{Standard}
use Rattle.lot.specs.declared.bid.Level.{Level}
use Rattle.lot.specs.declared.bid.Whose.{Whose}
use Rattle.lot.specs.declared.bids.Bids.{Bids}

-- an All or Nothing bid is for the whole lot
abbrev pub Sized : Bid → Type 0
Sized b = is_standard b ≡ false → b.size.0 ≡ whole

-- a bid that a lot may hold: within the whole lot, for all of it if it is All or Nothing, and at a price within the limits
pub record Fit (b : Bid) : Type 0 where
  pub small : b.size.0 ≤ whole
  pub full : Sized b
  pub near : nat_abs b.price.0 ≤ 2000000000

near-from : (z : ℤ) → lt_z z lowest ≡ false → lt_z highest z ≡ false → nat_abs z ≤ 2000000000
near-from (pos n) low high = ltb-false 2000000000 n high
near-from (negsuc n) low high = omega (arith, ltb-false 1999999999 n low)

fit-taken : (before : List Bid) (b : Bid) → refusal before b ≡ 0 → Fit b
fit-taken before b h =
    let inside : out_of_limits b ≡ false = grind (arith, nat_tests) in
    let sizes = or_parts (ltb whole b.size.0) _ (or_parts (ltb b.size.0 1) _ inside).1 in
    let prices = or_parts (lt_z b.price.0 lowest) _ sizes.1 in
    record { small = ltb-false whole b.size.0 sizes.0; full = grind (arith, nat_tests); near = near-from b.price.0 prices.0 prices.1 }

-- each bid that was taken is fit
pub all_fit : (before bs : List Bid) → taken_after before bs ≡ true → All Fit bs
all_fit before [] h = All-nil Fit
all_fit before (b ∷ bs) h =
    let both = and_parts (eqb (refusal before b) 0) (taken_after (before ++ b ∷ []) bs) h in
    All-cons Fit b bs (fit-taken before b (eqb-true _ _ both.0)) (all_fit (before ++ b ∷ []) bs both.1)

-- one bid more
pub taken-push : (before bs : List Bid) (b : Bid) → taken_after before bs ≡ true → refusal (before ++ bs) b ≡ 0 → taken_after before (bs ++ b ∷ []) ≡ true
taken-push before [] b h e = and_from _ true (eq-eqb _ 0 (rw append-nil at e)) refl
taken-push before (x ∷ bs) b h e =
    let both = and_parts (eqb (refusal before x) 0) (taken_after (before ++ x ∷ []) bs) h in
    let on : refusal ((before ++ x ∷ []) ++ bs) b ≡ 0 = rw append_assoc e in
    and_from _ _ both.0 (taken-push (before ++ x ∷ []) bs b both.1 on)

-- the bids of a lot are fit, and at most 64
pub entries_fit : (lot : Bids) → All Fit (entries_of lot)
entries_fit lot = all_fit [] (entries_of lot) lot.taken

pub entries-few : (lot : Bids) → length (entries_of lot) ≤ 64
entries-few lot = simp length-take (omega (arith, lot.few))

-- what stands where there is no bid
abbrev pub no_bid : Bid
no_bid = record { member = 0; kind = Standard; size = record { 0 = 0 }; price = record { 0 = pos 0 } }

at_most : (t : Bool) (n : ℕ) → cond t n 0 ≤ n
at_most true n = omega arith
at_most false n = omega arith

-- no bid asks for more than its size, and so not for more than a whole lot
pub asked-small : (w : Whose) (l : Level) (b : Bid) → Fit b → asked w l b ≤ 10000
asked-small w l b fit = omega (arith, at_most (standard_of w b && meets l b.price) b.size.0, fit.small)

pub all_asked-small : (w : Whose) (l : Level) (lot : Bids) → all_asked w l (entries_of lot) ≤ 640000
all_asked-small w l lot =
    let bs = entries_of lot in
    omega (
      arith,
      sum_by-le (asked w l) 10000 bs (All-weaker Fit (λ b. asked w l b ≤ 10000) (asked-small w l) bs (entries_fit lot)),
      mul-le-mul_right 10000 (entries-few lot),
    )

-- so do the first of them
pub asked-fits : (w : Whose) (l : Level) (lot : Bids) (bs : List Bid) → bs ≡ entries_of lot → (i : ℕ) → all_asked w l (take i bs) ≤ 640000
asked-fits w l lot bs is i =
    let all : all_asked w l bs ≤ 640000 = rw is (all_asked-small w l lot) in
    omega (arith, sum_by-take-le (asked w l) bs i)

pub entries-whole : (lot : Bids) → All Sized (entries_of lot)
entries-whole lot = All-weaker Fit Sized (λ b fit. fit.full) (entries_of lot) (entries_fit lot)
