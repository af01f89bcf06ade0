use Rattle.std.proofs.Common.{get_or, sym, ap, ◌∙◌, rules}
use Rattle.std.proofs.lemmas.List.{get_or_read_under}
use Rattle.std.proofs.lemmas.Simd.{map-map}
use Rattle.share.specs.declared.units.Dollars.{Dollars}
use Rattle.auction.specs.Brought.{amount_in}
use Rattle.auction.specs.Filling.{numbers_of}
use Rattle.auction.specs.declared.filling.Brought.{Brought}
use Rattle.lot.proofs.Arrays.{counted, counted-of}
use Rattle.auction.specs.declared.filling.Tiers.{Tiers}
use Rattle.auction.proofs.filling.Filling.column.Goals as goal

no_tiers : Tiers
no_tiers = record { first = record { 0 = 0 }; second = record { 0 = 0 }; third = record { 0 = 0 } }

no_row : Brought
no_row = record { fund = no_tiers; assessment = no_tiers }

pub returns-clause-value : goal.returns-clause-value
returns-clause-value c =
    let rows = c.args.self.now.rows in
    let amount : Brought → Dollars = λ row. record { 0 = amount_in c.args.money c.args.tier row } in
    ap numbers_of (counted (λ i. amount (get_or rows i no_row)) c.from_fn.result 32 (λ i y q low called. search (rules, get_or_read_under rows i 32, low, sym c.args.self.now.whole)) c.from_fn.ensures.items ∙ counted-of amount rows no_row 32 c.args.self.now.whole)
    ∙ map-map (λ (d : Dollars). d.0) amount rows
