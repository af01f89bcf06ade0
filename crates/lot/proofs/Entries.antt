-- What becomes of the bids of a lot when one more comes. Assumes nothing.
use Rattle.std.proofs.Common.{◌≡◌, ◌+◌, ◌<◌, true, [], ◌∷◌, ◌++◌, length, take, set, Ok, arith}
use Rattle.std.proofs.lemmas.List.{length-take, take_more_set}
use Rattle.std.proofs.lemmas.Bool.Decides.{nat_tests}
use Rattle.lot.proofs.Taken.{taken-push}
use Rattle.share.proofs.Answered.{unless-ok}
use Rattle.share.specs.Refusals.{unless}
use Rattle.lot.specs.Entering.{refusal, taken_after}
use Rattle.lot.specs.Lots.{entries_of}
use Rattle.lot.specs.declared.bid.Bid.{Bid}
use Rattle.lot.specs.declared.bids.Bids.{Bids}

-- a bid that is taken
module _ (lot : Bids) (b : Bid) (ok : Ok tt ≡ unless {T = Unit {0}} (refusal (entries_of lot) b) tt) where
  taken_is : refusal (entries_of lot) b ≡ 0
  taken_is = (unless-ok (refusal (entries_of lot) b) tt tt ok).0

  pub room-left : lot.count < 64
  room-left = let long : length (entries_of lot) ≡ lot.count = simp length-take (omega (arith, lot.few, lot.long)) in let none = taken_is in grind (arith, nat_tests)

  pub next-entries : take (lot.count + 1) (set lot.entries lot.count b) ≡ entries_of lot ++ b ∷ []
  next-entries = take_more_set lot.entries lot.count b (omega (arith, room-left, lot.long))

  pub next-taken : taken_after [] (take (lot.count + 1) (set lot.entries lot.count b)) ≡ true
  next-taken = rw next-entries (taken-push [] (entries_of lot) b lot.taken taken_is)
