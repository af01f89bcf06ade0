-- What all members bring to the pools. Assumes nothing.
use Rattle.std.proofs.Common.{◌≡◌, ℕ, ◌+◌, ◌<◌, List, map, Option, sym, ap, ◌∙◌, arith}
use Rattle.std.proofs.lemmas.Simd.{map-map}
use Rattle.std.specs.Array.{IsFromFnResult}
use Rattle.std.specs.List.{range_with_len}
use denote.Param.Members.{Mut, Called}
use Rattle.lot.proofs.Arrays.{counted, later}
use Rattle.auction.specs.Brought.{amount_in, weights_over, WithinLimits}
use Rattle.auction.specs.Filling.{brought_of}
use Rattle.auction.specs.Lots.{Listing}
use Rattle.auction.specs.Places.{places_of}
use Rattle.auction.specs.Roster.{fund_of, assessment_of, numbers, Funded}
use Rattle.auction.specs.Weights.{Weights, fill}
use Rattle.auction.specs.declared.filling.Brought.{Brought}
use Rattle.auction.specs.declared.filling.Money.{Money}
use Rattle.auction.specs.declared.filling.Money.TheVariants.{Fund, Assessment}
use Rattle.auction.specs.declared.filling.Tier.{Tier}
use Rattle.auction.specs.declared.filling.Tier.TheVariants.{First, Second, Third}
use Rattle.auction.specs.declared.member.Member.{Member}
use Rattle.auction.specs.declared.roster.Roster.{Roster}
use Rattle.auction.proofs.Parts.{weights-at_most}
use Rattle.auction.proofs.Rosters.{length-places}

module _ (r : List (Option Member)) (ls : List Listing) where
  -- what each member brings
  abbrev all_brought : List Brought
  all_brought = map (brought_of r ls) (numbers r)

  -- six columns as weights
  abbrev six : List ℕ → List ℕ → List ℕ → List ℕ → List ℕ → List ℕ → Weights
  six a b c d e f = record { first = a; second = b; third = c; fifth = d; sixth = e; seventh = f }

  -- a column by members
  column : (m : Money) (t : Tier) → map (amount_in m t) all_brought ≡ map (λ k. amount_in m t (brought_of r ls k)) (numbers r)
  column m t = map-map (amount_in m t) (brought_of r ls) (numbers r)

  pub weights-filled : (bs : List Brought) → bs ≡ all_brought → weights_over bs ≡ fill r ls
  weights-filled bs e =
      let w = fill r ls in
      let at = all_brought in
      ap weights_over e
      ∙ ap (λ x. six x (map (amount_in Fund Second) at) (map (amount_in Fund Third) at) (map (amount_in Assessment First) at) (map (amount_in Assessment Second) at) (map (amount_in Assessment Third) at)) (column Fund First)
      ∙ ap (λ x. six w.first x (map (amount_in Fund Third) at) (map (amount_in Assessment First) at) (map (amount_in Assessment Second) at) (map (amount_in Assessment Third) at)) (column Fund Second)
      ∙ ap (λ x. six w.first w.second x (map (amount_in Assessment First) at) (map (amount_in Assessment Second) at) (map (amount_in Assessment Third) at)) (column Fund Third)
      ∙ ap (λ x. six w.first w.second w.third x (map (amount_in Assessment Second) at) (map (amount_in Assessment Third) at)) (column Assessment First)
      ∙ ap (λ x. six w.first w.second w.third w.fifth x (map (amount_in Assessment Third) at)) (column Assessment Second)
      ∙ ap (λ x. six w.first w.second w.third w.fifth w.sixth x) (column Assessment Third)

  -- none of them is above its limit
  pub fill-limits : Funded r → WithinLimits (fill r ls)
  fill-limits h k =
      let f = weights-at_most r ls fund_of k in
      let a = weights-at_most r ls assessment_of k in
      let l = h k in
      (omega (arith, f, l.0), omega (arith, f, l.0), omega (arith, f, l.0), omega (arith, a, l.1), omega (arith, a, l.1), omega (arith, a, l.1))

-- what each member brings, made by its number
module _ {F : Type 0} {g : Mut F (ℕ × Unit {0}) Brought} {f : F} (r : Roster) (ls : List Listing) where
  pub made-of-all : (bs : List Brought) → ((i : ℕ) (b : Brought) (q : F) → i < 32 → Called g f (i, tt) b q → (q ≡ f) × (b ≡ brought_of (places_of r) ls (i + 1))) → IsFromFnResult g f bs 32 → bs ≡ all_brought (places_of r) ls
  made-of-all bs acts made =
      let row = brought_of (places_of r) ls in
      counted (λ i. row (i + 1)) bs 32 acts made ∙ later row 0 32 ∙ ap (λ n. map row (range_with_len 1 n)) (sym (length-places r))
