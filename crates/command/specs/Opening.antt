-- The lots that an `open` hands over. Assumes nothing.
use Rattle.std.specs.Prelude.{◌≡◌, ℕ, zero, suc, ◌-◌, ◌/◌, ◌%◌, ◌≤◌, min, cond, not, ◌&&◌, List, [], ◌∷◌, ◌++◌, length, take, drop, replicate, Ok, Err, Result, ◌==◌, refl}
use Rattle.std.proofs.Common.{◌∙◌, arith}
use Rattle.std.proofs.lemmas.List.{drop_all}
use Rattle.words.specs.Words.{after_word, word_at, word_count}
use Rattle.auction.specs.declared.offer.Offer.{Offer}
use Rattle.auction.specs.declared.terms.Terms.{Terms}
use Rattle.command.specs.Readings.{given, number_of, pri_of}
use Rattle.command.specs.declared.fault.Fault.{Fault}
use Rattle.command.specs.declared.fault.Fault.TheVariants.{Count}

-- the terms of a lot by its three words: weight, requirement and PRI
abbrev pub terms_by : List ℕ → Result Terms Fault
terms_by rest =
    given (number_of (word_at 0 rest)) (λ weight.
    given (number_of (word_at 1 rest)) (λ requirement.
    given (pri_of (word_at 2 rest)) (λ pri.
    Ok (record { weight = weight; requirement = requirement; pri = pri }))))

-- what stands behind the three words of a lot
abbrev pub behind_lot : List ℕ → List ℕ
behind_lot rest = after_word (after_word (after_word rest))

-- the terms of so many lots
abbrev pub lots_by : ℕ → List ℕ → Result (List Terms) Fault
lots_by zero rest = Ok []
lots_by (suc n) rest =
    given (terms_by rest) (λ lot.
    given (lots_by n (behind_lot rest)) (λ lots.
    Ok (lot ∷ lots)))

-- the terms where no lot is handed over
abbrev pub no_terms : Terms
no_terms = record { weight = 0; requirement = 0; pri = 0 }

-- the first four of the lots, with zeros behind them
abbrev pub first_four : List Terms → List Terms
first_four lots = take 4 (lots ++ replicate 4 no_terms)

-- how many lots are told: at most 65535
abbrev pub told : ℕ → ℕ
told n = min n 65535

-- there are four places
pub four-held : (lots : List Terms) → length (first_four lots) ≡ 4
four-held [] = refl
four-held (a ∷ []) = refl
four-held (a ∷ b ∷ []) = refl
four-held (a ∷ b ∷ c ∷ []) = refl
four-held (a ∷ b ∷ c ∷ d ∷ lots) = refl

-- zeros stand behind the lots
pub zeros-behind : (lots : List Terms) → drop (told (length lots)) (first_four lots) ≡ replicate (4 - told (length lots)) no_terms
zeros-behind [] = refl
zeros-behind (a ∷ []) = refl
zeros-behind (a ∷ b ∷ []) = refl
zeros-behind (a ∷ b ∷ c ∷ []) = refl
zeros-behind (a ∷ b ∷ c ∷ d ∷ lots) =
    let many : 4 ≤ told (length (a ∷ b ∷ c ∷ d ∷ lots)) = omega arith in
    let all : 4 - told (length (a ∷ b ∷ c ∷ d ∷ lots)) ≡ 0 = omega arith in
    drop_all (told (length (a ∷ b ∷ c ∷ d ∷ lots))) (a ∷ b ∷ c ∷ d ∷ []) many ∙ rw all

-- the offer of these lots: how many, and the terms of the first four
abbrev pub offering : List Terms → Offer
offering lots = record { count = told (length lots); terms = first_four lots; four = four-held lots; plain = zeros-behind lots }

-- the offer that words write, three a lot, of one lot or more
abbrev pub offer_of : List ℕ → Result Offer Fault
offer_of rest =
    cond (not (word_count rest == 0) && word_count rest % 3 == 0)
    (given (lots_by (word_count rest / 3) rest) (λ lots. Ok (offering lots)))
    (Err Count)
