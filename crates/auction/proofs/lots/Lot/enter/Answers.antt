use Rattle.std.proofs.Common.{◌+◌, [], ◌∷◌, length, Err, sym, ap, ◌∙◌}
use Rattle.std.proofs.lemmas.Result.{err_from_is_err_and}
use Rattle.share.specs.Refusals.{number, numbered, unless, if_so}
use Rattle.share.specs.declared.refusal.Refusal.TheVariants.{ExcusedByCall}
use Rattle.share.proofs.Answered.{first-refuses}
use Rattle.lot.specs.Entering.{refusal}
use Rattle.auction.specs.Lots.{listing_of, entering, excused_by_call}
use Rattle.auction.proofs.Listings.{tests-unexcused, entered-unexcused}
use Rattle.auction.proofs.lots.Lot.enter.Goals as goal

pub returns-in_err-admits : goal.returns-in_err-admits
returns-in_err-admits c =
    let l = listing_of c.args.self.now in
    let b = c.args.bid in
    let both = first-refuses (refusal l.bids b) (number c.in_err-admits.field-0.0) (if_so (excused_by_call l b.member) ExcusedByCall ∷ []) tt (length l.bids + 1) l (entering b l) c.in_err-admits.ensures in
    let p = err_from_is_err_and c.from_residual.result c.from_residual.ensures.1 in
    record { answer = ap numbered (p.1 ∙ ap Err p.2) ∙ both.0; after = sym both.1 }

pub returns : goal.returns
returns c =
    let l = listing_of c.args.self.now in
    let b = c.args.bid in
    let free = sym c.if-is_excused.ensures in
    record {
      answer = c.enter.ensures.answer ∙ ap (λ n. unless n (length l.bids + 1)) (sym (tests-unexcused l b free));
      after = entered-unexcused l b _ free c.enter.ensures.after;
    }
