-- The first four lots, read lot by lot. Assumes nothing.
use Rattle.std.proofs.Common.{◌≡◌, ℕ, suc, ◌+◌, ◌-◌, ◌<◌, ◌≤◌, List, [], ◌∷◌, ◌++◌, length, take, Ok, Err, Result, refl, ap, sym, ◌∙◌, arith, append_assoc, append-nil, take_all}
use Rattle.std.proofs.lemmas.List.{take-append-le}
use Rattle.arrayvec.specs.ArrayVec.{ArrayVec}
use Rattle.auction.specs.declared.terms.Terms.{Terms}
use Rattle.command.specs.Opening.{terms_by, behind_lot, lots_by}
use Rattle.command.specs.Readings.{given}
use Rattle.command.specs.declared.fault.Fault.{Fault}

-- the first four of what is held and of n lots more
abbrev pub filling : ℕ → List Terms → List ℕ → Result (ArrayVec Terms) Fault
filling n held rest = given (lots_by n rest) (λ lots. Ok (record { items = take 4 (held ++ lots) }))

-- what is held after one lot more begins with the same four
abbrev pub Follows : List Terms → Terms → List Terms → Type 0
Follows held lot next = (lots : List Terms) → take 4 (held ++ lot ∷ lots) ≡ take 4 (next ++ lots)

pub pushed : (held : List Terms) (lot : Terms) → Follows held lot (held ++ lot ∷ [])
pushed held lot lots = ap (take 4) (sym (append_assoc held (lot ∷ []) lots))

pub full : (held : List Terms) (lot : Terms) → 4 ≤ length held → Follows held lot held
full held lot h lots = take-append-le 4 held (lot ∷ lots) h ∙ sym (take-append-le 4 held lots h)

-- one lot more
by-rest : (held next : List Terms) (lot : Terms) (r : Result (List Terms) Fault) → Follows held lot next → ◌≡◌ {A = Result (ArrayVec Terms) Fault} (given (given r (λ lots. Ok (lot ∷ lots))) (λ lots. Ok (record { items = take 4 (held ++ lots) }))) (given r (λ lots. Ok (record { items = take 4 (next ++ lots) })))
by-rest held next lot (Ok lots) h = rw (h lots)
by-rest held next lot (Err fault) h = refl

pub fills-on : (n i : ℕ) (held next : List Terms) (rest behind : List ℕ) (lot : Terms) → i < n → terms_by rest ≡ Ok lot → behind ≡ behind_lot rest → Follows held lot next → filling (n - i) held rest ≡ filling (n - (i + 1)) next behind
fills-on n i held next rest behind lot h e f g =
    let more : n - i ≡ suc (n - (i + 1)) = omega arith in
    rw (more, e, f) (by-rest held next lot (lots_by (n - (i + 1)) (behind_lot rest)) g)

pub fills-fault : (n i : ℕ) (held : List Terms) (rest : List ℕ) (fault : Fault) → i < n → terms_by rest ≡ Err fault → filling (n - i) held rest ≡ Err fault
fills-fault n i held rest fault h e =
    let more : n - i ≡ suc (n - (i + 1)) = omega arith in
    rw (more, e)

pub fills-all : (n i : ℕ) (held : List Terms) (rest : List ℕ) → n ≤ i → length held ≤ 4 → filling (n - i) held rest ≡ Ok (record { items = held })
fills-all n i held rest h few =
    let none : n - i ≡ 0 = omega arith in
    rw (none, append-nil held, take_all 4 held few)
