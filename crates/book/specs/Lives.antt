-- Two lives of a book, from its making to the conclude of a second auction, with every answer. Assumes nothing.
use Rattle.std.specs.Prelude.{◌≡◌, ℕ, List, [], ◌∷◌, pos, negsuc, Ok, Err, Result, refl}
use Rattle.lot.specs.declared.bid.Kind.TheVariants.{Standard, AllOrNothing}
use Rattle.auction.specs.declared.terms.Terms.{Terms}
use Rattle.book.specs.Calls.{dollars}
use Rattle.book.specs.Figures.{no_terms, done, entered_as, paid, covering, returning, enrolling, charging_by, recovering}
use Rattle.book.specs.Next.{answers}
use Rattle.book.specs.State.{made}
use Rattle.book.specs.declared.answers.Answer.{Answer}
use Rattle.book.specs.declared.answers.Answer.TheVariants as ans
use Rattle.book.specs.declared.calls.Call.{Call}
use Rattle.book.specs.declared.calls.Call.TheVariants as call

-- terms of a lot: weight, requirement, PRI
abbrev pub on_terms : ℕ → ℕ → ℕ → Terms
on_terms w r p = record { weight = w; requirement = r; pri = p }

-- an auction of one lot, and one of two
abbrev pub opening : Terms → Call
opening t = call.Open (record { count = 1; terms = t ∷ no_terms ∷ no_terms ∷ no_terms ∷ []; four = refl; plain = refl })

abbrev pub opening_two : Terms → Terms → Call
opening_two t u = call.Open (record { count = 2; terms = t ∷ u ∷ no_terms ∷ no_terms ∷ []; four = refl; plain = refl })

-- answers of a close and a conclude
abbrev pub closing : ℕ → ℕ → Result Answer ℕ
closing k c = Ok (ans.Closed (record { failed = k; capacity = dollars c }))

abbrev pub concluding : ℕ → Result Answer ℕ
concluding n = Ok (ans.Concluded (dollars n))

-- over a house of capacity 6: two lots, of which the second fails; in the first member 1 is Senior, 2 Split and 4 Excused, and 3 is Non-bidding by the second; then an auction in which the losses show
abbrev pub first_life : List Call
first_life =
    enrolling 1 20 10 ∷
    enrolling 2 30 15 ∷
    enrolling 3 40 20 ∷
    enrolling 4 10 5 ∷
    opening_two (on_terms 4000 10000 100) (on_terms 6000 10000 200) ∷
    call.Bid 1 1 Standard 5000 (negsuc 899) ∷
    call.Bid 3 1 Standard 5000 (negsuc 999) ∷
    call.Bid 2 1 AllOrNothing 10000 (negsuc 1079) ∷
    call.Excuse 4 1 ∷
    call.Excuse 4 2 ∷
    call.Bid 4 1 Standard 1000 (negsuc 899) ∷
    call.Bid 1 2 Standard 2000 (negsuc 499) ∷
    call.Bid 2 2 Standard 3000 (negsuc 499) ∷
    call.Close ∷
    charging_by 50 ∷
    charging_by 20 ∷
    recovering 12 ∷
    call.Conclude ∷
    call.Release 3 ∷
    call.TopUp 4 (dollars 8) (dollars 0) ∷
    opening (on_terms 10000 10000 10) ∷
    call.Bid 1 1 Standard 3000 (negsuc 6) ∷
    call.Bid 2 1 AllOrNothing 10000 (negsuc 9) ∷
    call.Bid 4 1 Standard 3000 (negsuc 19) ∷
    call.Close ∷
    charging_by 60 ∷
    charging_by 40 ∷
    recovering 26 ∷
    call.Conclude ∷
    []

-- what its calls answer
abbrev pub first_answers : List (Result Answer ℕ)
first_answers =
    done ∷
    done ∷
    done ∷
    done ∷
    done ∷
    entered_as 1 ∷
    entered_as 2 ∷
    entered_as 3 ∷
    done ∷
    done ∷
    Err 10 ∷
    entered_as 1 ∷
    entered_as 2 ∷
    closing 1 102 ∷
    covering 50 0 ∷
    covering 20 0 ∷
    returning 12 0 ∷
    concluding 58 ∷
    paid 0 20 ∷
    done ∷
    done ∷
    entered_as 1 ∷
    entered_as 2 ∷
    entered_as 3 ∷
    closing 0 86 ∷
    covering 60 0 ∷
    covering 26 14 ∷
    returning 26 0 ∷
    concluding 60 ∷
    []

-- over a house of capacity 12: the first lot fails by one part; member 5 has no fund, member 2 is excused after its bids, and an All or Nothing bid takes the second lot; then an auction in which two bids tie
abbrev pub second_life : List Call
second_life =
    enrolling 32 50 60 ∷
    enrolling 2 20 10 ∷
    enrolling 9 30 41 ∷
    enrolling 5 0 30 ∷
    opening_two (on_terms 3000 10000 4) (on_terms 7000 12000 10) ∷
    call.Bid 2 1 Standard 2000 (pos 1) ∷
    call.Bid 9 1 Standard 3000 (pos 2) ∷
    call.Bid 32 1 Standard 4999 (pos 3) ∷
    call.Bid 2 2 Standard 1 (negsuc 39) ∷
    call.Bid 2 2 Standard 2399 (negsuc 45) ∷
    call.Bid 32 2 Standard 8000 (negsuc 49) ∷
    call.Bid 9 2 AllOrNothing 10000 (negsuc 29) ∷
    call.Bid 9 2 AllOrNothing 10000 (negsuc 19) ∷
    call.Bid 5 2 Standard 1 (negsuc 59) ∷
    call.Excuse 2 2 ∷
    call.Close ∷
    charging_by 60 ∷
    charging_by 109 ∷
    recovering 7 ∷
    call.Conclude ∷
    call.Release 32 ∷
    call.TopUp 5 (dollars 5) (dollars 0) ∷
    opening (on_terms 10000 10000 20) ∷
    call.Bid 9 1 Standard 9000 (negsuc 99) ∷
    call.Bid 2 1 Standard 3000 (negsuc 99) ∷
    call.Close ∷
    charging_by 30 ∷
    recovering 2 ∷
    call.Conclude ∷
    []

-- what its calls answer
abbrev pub second_answers : List (Result Answer ℕ)
second_answers =
    done ∷
    done ∷
    done ∷
    done ∷
    done ∷
    entered_as 1 ∷
    entered_as 2 ∷
    entered_as 3 ∷
    entered_as 1 ∷
    entered_as 2 ∷
    entered_as 3 ∷
    entered_as 4 ∷
    Err 8 ∷
    entered_as 5 ∷
    done ∷
    closing 1 214 ∷
    covering 60 0 ∷
    covering 109 0 ∷
    returning 7 0 ∷
    concluding 162 ∷
    paid 0 0 ∷
    done ∷
    done ∷
    entered_as 1 ∷
    entered_as 2 ∷
    closing 0 96 ∷
    covering 30 0 ∷
    returning 2 0 ∷
    concluding 28 ∷
    []

-- the two lives
pub record Lives : Type 0 where
  pub first : answers (made 6) first_life ≡ first_answers
  pub second : answers (made 12) second_life ≡ second_answers
