-- An offer by its count and its terms. Assumes nothing.
use Rattle.std.proofs.Common.{◌≡◌, ℕ, zero, suc, ◌-◌, ◌/◌, ◌%◌, ◌<◌, ◌≤◌, List, [], ◌∷◌, length, take, drop, replicate, Ok, Err, Result, sym, refl, ap, ◌∙◌, subst, arith, length-take, take_all}
use Rattle.std.proofs.lemmas.Bool.{ne_eqb}
use Rattle.words.specs.Words.{word_count}
use Rattle.arrayvec.specs.ArrayVec.{ArrayVec}
use Rattle.auction.specs.Offers.{terms_of}
use Rattle.auction.specs.contracts.offer.Offer.{the_ghost, the_propositions}
use Rattle.auction.specs.contracts.terms.Terms as terms
use Rattle.auction.specs.declared.offer.Offer.{Offer, four-type, plain-type}
use Rattle.auction.specs.declared.terms.Terms.{Terms}
use Rattle.command.specs.Opening.{terms_by, behind_lot, lots_by, no_terms, told, first_four, four-held, zeros-behind, offering, offer_of}
use Rattle.command.specs.Readings.{given}
use Rattle.command.specs.declared.fault.Fault.{Fault}

-- two offers with the same count and terms are one
pub same-offer : (c d : ℕ) (t u : List Terms) (f : four-type c t) (p : plain-type c t f) (g : four-type d u) (q : plain-type d u g) → c ≡ d → t ≡ u → ◌≡◌ {A = Offer} (record { count = c; terms = t; four = f; plain = p }) (record { count = d; terms = u; four = g; plain = q })
same-offer c d t u f p g q e h =
    let Same : ℕ → List Terms → Type 0 = λ c t. (f : four-type c t) (p : plain-type c t f) → ◌≡◌ {A = Offer} (record { count = c; terms = t; four = f; plain = p }) (record { count = d; terms = u; four = g; plain = q }) in
    let one : Same d u = λ f p. ap (λ (v : the_ghost (d, (u, tt))). record { count = d; terms = u; four = v.0; plain = v.1.0 }) (the_propositions (terms.the_row).coded (d, (u, tt)) (f, (p, tt)) (g, (q, tt))) in
    subst (λ c. Same c t) (sym e) (subst (λ t. Same d t) (sym h) one) f p

-- the lots that were read
pub lots-held : (r : Result (List Terms) Fault) (t : List Terms) → Ok t ≡ given r (λ lots. Ok (first_four lots)) → (lots : List Terms) × (r ≡ Ok lots) × (t ≡ first_four lots)
lots-held (Ok lots) t e = (lots, refl, cc)
lots-held (Err fault) t e = let never : ◌≡◌ {A = ℕ} 0 1 = cc in absurd (omega arith)

-- so many lots as were asked for
long : (n : ℕ) (rest : List ℕ) (lots : List Terms) → lots_by n rest ≡ Ok lots → length lots ≡ n
long zero rest lots e = let none : lots ≡ [] = cc in ap length none
long (suc n) rest lots e = by_first (terms_by rest) (lots_by n (behind_lot rest)) (long n (behind_lot rest)) e
  where
    by_first : (r : Result Terms Fault) (s : Result (List Terms) Fault) → ((more : List Terms) → s ≡ Ok more → length more ≡ n) → given r (λ lot. given s (λ more. Ok (lot ∷ more))) ≡ Ok lots → length lots ≡ suc n
    by_first (Ok lot) (Ok more) h e = let is : lots ≡ lot ∷ more = cc in ap length is ∙ ap suc (h more refl)
    by_first (Ok lot) (Err fault) h e = let never : ◌≡◌ {A = ℕ} 0 1 = cc in absurd (omega arith)
    by_first (Err fault) s h e = let never : ◌≡◌ {A = ℕ} 0 1 = cc in absurd (omega arith)

-- what an offer has to keep, of the lots that were read
pub kept : (n count : ℕ) (t : List Terms) (rest : List ℕ) → count ≡ told n → Ok t ≡ given (lots_by n rest) (λ lots. Ok (first_four lots)) → (four : four-type count t) × (plain-type count t four × Unit {0})
kept n count t rest e h =
    let read = lots-held (lots_by n rest) t h in
    let lots : List Terms = read.0 in
    let many : told (length lots) ≡ count = ap told (long n rest lots read.1) ∙ sym e in
    let Kept : ℕ → List Terms → Type 0 = λ count t. (four : four-type count t) × (plain-type count t four × Unit {0}) in
    subst (λ c. Kept c t) many (subst (λ t. Kept (told (length lots)) t) (sym read.2) (four-held lots, (zeros-behind lots, tt)))

-- the offer of the lots that were read
by-lots : (n count : ℕ) (t : List Terms) (rest : List ℕ) (f : four-type count t) (p : plain-type count t f) → count ≡ told n → Ok t ≡ given (lots_by n rest) (λ lots. Ok (first_four lots)) → ◌≡◌ {A = Result Offer Fault} (Ok (record { count = count; terms = t; four = f; plain = p })) (given (lots_by n rest) (λ lots. Ok (offering lots)))
by-lots n count t rest f p e h =
    let read = lots-held (lots_by n rest) t h in
    let lots : List Terms = read.0 in
    let many : count ≡ told (length lots) = e ∙ sym (ap told (long n rest lots read.1)) in
    rw read.1 (ap Ok (same-offer count (told (length lots)) t (first_four lots) f p (four-held lots) (zeros-behind lots) many read.2))

-- the same by the count of words
pub offered : (words count : ℕ) (t : List Terms) (rest : List ℕ) (f : four-type count t) (p : plain-type count t f) → words ≡ word_count rest → (words ≡ 0 → ⊥) → words % 3 ≡ 0 → count ≡ told (words / 3) → Ok t ≡ given (lots_by (words / 3) rest) (λ lots. Ok (first_four lots)) → ◌≡◌ {A = Result Offer Fault} (Ok (record { count = count; terms = t; four = f; plain = p })) (offer_of rest)
offered words count t rest f p is some threes e h = rw (sym is, ne_eqb words 0 some, threes) (by-lots (words / 3) count t rest f p e h)

-- an offer that holds all its lots is the offer of these
places : (count : ℕ) (t : List Terms) → count ≤ 4 → length t ≡ 4 → drop count t ≡ replicate (4 - count) no_terms → first_four (take count t) ≡ t
places count [] h four e = absurd (omega arith)
places count (a ∷ []) h four e = absurd (omega arith)
places count (a ∷ b ∷ []) h four e = absurd (omega arith)
places count (a ∷ b ∷ c ∷ []) h four e = absurd (omega arith)
places count (a ∷ b ∷ c ∷ d ∷ x ∷ t) h four e = absurd (omega arith)
places zero (a ∷ b ∷ c ∷ d ∷ []) h four e = sym e
places (suc zero) (a ∷ b ∷ c ∷ d ∷ []) h four e = ap (λ (t : List Terms). a ∷ t) (sym e)
places (suc (suc zero)) (a ∷ b ∷ c ∷ d ∷ []) h four e = ap (λ (t : List Terms). a ∷ b ∷ t) (sym e)
places (suc (suc (suc zero))) (a ∷ b ∷ c ∷ d ∷ []) h four e = ap (λ (t : List Terms). a ∷ b ∷ c ∷ t) (sym e)
places (suc (suc (suc (suc zero)))) (a ∷ b ∷ c ∷ d ∷ []) h four e = refl
places (suc (suc (suc (suc (suc n))))) (a ∷ b ∷ c ∷ d ∷ []) h four e = absurd (omega arith)

pub some-held : (o : Offer) → 0 < o.count → 0 < length (take o.count o.terms)
some-held o h = omega (arith, length-take o.count o.terms, o.four)

pub whole : (o : Offer) → o.count ≤ 4 → offering (take o.count o.terms) ≡ o
whole o h =
    let lots : List Terms = take o.count o.terms in
    let many : told (length lots) ≡ o.count = omega (arith, length-take o.count o.terms, o.four) in
    same-offer (told (length lots)) o.count (first_four lots) o.terms (four-held lots) (zeros-behind lots) o.four o.plain many (places o.count o.terms h o.four o.plain)

-- the terms of the offer of the first four are the first four with zeros behind them
of-four : (lots : List Terms) → first_four (take 4 lots) ≡ first_four lots
of-four [] = refl
of-four (a ∷ []) = refl
of-four (a ∷ b ∷ []) = refl
of-four (a ∷ b ∷ c ∷ []) = refl
of-four (a ∷ b ∷ c ∷ d ∷ lots) = refl

offered-four : (o : Offer) (lots : List Terms) → o.count ≡ told (length (take 4 lots)) → terms_of o ≡ take 4 (take 4 lots) → o.terms ≡ first_four lots
offered-four o lots e h =
    let few : o.count ≤ 4 = omega (arith, length-take 4 lots, e) in
    sym (places o.count o.terms few o.four o.plain) ∙ ap first_four (h ∙ take_all 4 (take 4 lots) (omega (arith, length-take 4 lots))) ∙ of-four lots

pub by-held : (o : Offer) (held : ArrayVec Terms) (n : ℕ) (rest : List ℕ) (lent : List Terms) → Ok held ≡ given (lots_by n rest) (λ lots. Ok (record { items = take 4 lots })) → lent ≡ held.items → o.count ≡ told (length lent) → terms_of o ≡ take 4 lent → Ok o.terms ≡ given (lots_by n rest) (λ lots. Ok (first_four lots))
by-held o held n rest lent = by-each (lots_by n rest)
  where
    by-each : (r : Result (List Terms) Fault) → ◌≡◌ {A = Result (ArrayVec Terms) Fault} (Ok held) (given r (λ lots. Ok (record { items = take 4 lots }))) → lent ≡ held.items → o.count ≡ told (length lent) → terms_of o ≡ take 4 lent → ◌≡◌ {A = Result (List Terms) Fault} (Ok o.terms) (given r (λ lots. Ok (first_four lots)))
    by-each (Ok lots) e l many h =
        let is : lent ≡ take 4 lots = cc in
        ap Ok (offered-four o lots (many ∙ ap (λ (l : List Terms). told (length l)) is) (h ∙ ap (take 4) is))
    by-each (Err fault) e l many h = let never : ◌≡◌ {A = ℕ} 0 1 = cc in absurd (omega arith)
