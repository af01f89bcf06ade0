use Rattle.std.proofs.Common.{◌≡◌, ◌+◌, ◌||◌, length, sym, refl, ap, ◌∙◌, ap₂, w32}
use Rattle.std.proofs.lemmas.Int.{to_z-of_z}
use Rattle.share.specs.Refusals.{numbered, unless, left_by, if_so, first_nonzero}
use Rattle.share.specs.declared.refusal.Refusal.TheVariants.{OutOfRange, NotEnrolled}
use Rattle.share.proofs.Answered.{unless-ok}
use Rattle.auction.specs.Auctions.{listings_of}
use Rattle.auction.specs.Enrolling.{no_member, absent}
use Rattle.auction.specs.Lots.{lot_at, no_lot, bid_tests, lot_tests, with_lot, entering}
use Rattle.auction.proofs.Listings.{somewhere}
use Rattle.book.specs.Calls.{bid_of}
use Rattle.book.specs.declared.answers.Answer.TheVariants.{Entry}
use Rattle.book.specs.Next.{after, with_lots}
use Rattle.book.specs.Refusals.{out_of_phase, member_lot_tests, declined}
use Rattle.book.specs.State.{view}
use Rattle.book.specs.declared.calls.Call.TheVariants.{Bid as BidCall}
use Rattle.book.specs.declared.phase.Phase.TheVariants.{Bidding}
use Rattle.book.proofs.Answering.{in-phase, phase-known, answered-by, both-pass, second-in_range, lots-left}
use Rattle.book.proofs.book.Book.bid.Goals as goal

pub returns : goal.returns
returns g c =
    let self = c.args.self.now in
    let b = view g.R.Resource self in
    let m = c.args.member in
    let l = c.args.lot in
    let ls = listings_of self.auction in
    let bid = bid_of m c.args.kind c.args.size c.args.price in
    let k = BidCall m l c.args.kind c.args.size c.args.price in
    let range = if_so (no_member m || no_lot ls l) OutOfRange in
    let enrolled = if_so (absent b.roster m) NotEnrolled in
    let phase = (unless-ok (out_of_phase b Bidding) tt tt c.in_ok-in_phase.ensures).0 in
    let passed = both-pass range enrolled (bid_tests (lot_at ls l) bid) (unless-ok (first_nonzero (member_lot_tests b m l)) tt tt c.in_ok-member_and_lot.ensures).0 in
    let there = somewhere ls l bid (second-in_range (no_member m) (no_lot ls l) passed.0) in
    let declines : declined b k ≡ first_nonzero (lot_tests ls l bid) = in-phase b k phase ∙ passed.1 ∙ sym there in
    let sized = ap₂ (bid_of m c.args.kind) c.from.ensures (to_z-of_z w32 c.args.price c.ranges.price) in
    let n = first_nonzero (lot_tests ls l bid) in
    record {
      answer = answered-by b k Entry n (length (lot_at ls l).bids + 1) (numbered c.enter.result) declines refl (c.enter.ensures.answer ∙ ap (λ x. unless (first_nonzero (lot_tests ls l x)) (length (lot_at ls l).bids + 1)) sized);
      after = ap (with_lots b self.phase) (c.enter.ensures.after ∙ ap (λ x. left_by (first_nonzero (lot_tests ls l x)) ls (with_lot (entering x) l ls)) sized) ∙ lots-left n b Bidding (with_lot (entering bid) l ls) (phase-known self.phase Bidding phase) ∙ ap (λ i. left_by i b (after b k)) (sym declines);
    }
