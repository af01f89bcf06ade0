-- What an auction is opened with, and when it is declined. Assumes nothing.
use Rattle.std.specs.Prelude.{ℕ, Bool, not, ◌||◌, List, map, take, ◌==◌, nat_lt}
use Rattle.std.specs.List.{list_any}
use Rattle.share.specs.Refusals.{in_range}
use Rattle.share.specs.Rule.{total}
use Rattle.lot.specs.Class.{pri_refusal}
use Rattle.auction.specs.declared.offer.Offer.{Offer}
use Rattle.auction.specs.declared.terms.Terms.{Terms}

-- the most lots of an auction
abbrev pub most_lots : ℕ
most_lots = 4

-- the terms of the lots of an offer, as far as they are held
abbrev pub terms_of : Offer → List Terms
terms_of o = take o.count o.terms

-- whether the terms of one lot are bad: its weight is 0, its requirement outside 10,000 to 15,000, or its PRI refused
abbrev pub bad_lot : Terms → Bool
bad_lot t = t.weight == 0 || (nat_lt t.requirement 10000 || (nat_lt 15000 t.requirement || not (pri_refusal t.pri == 0)))

-- whether the terms of some lot are bad
abbrev pub some_bad : List Terms → Bool
some_bad ts = list_any bad_lot ts

-- whether an offer is bad: not 1 to 4 lots, bad terms, or weights that do not add up to 10,000
abbrev pub bad_offer : Offer → Bool
bad_offer o = not (in_range o.count most_lots) || (some_bad (terms_of o) || not (total (map (λ t. t.weight) (terms_of o)) == 10000))
