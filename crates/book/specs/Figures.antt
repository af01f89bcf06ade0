-- Worked figures about the definitions, by computation. Assumes nothing.
use Rattle.std.specs.Prelude.{◌≡◌, ℕ, List, [], ◌∷◌, map, replicate, pos, Some, None, Ok, Err, Result, refl}
use Rattle.share.specs.Rule.{shares_of}
use Rattle.lot.specs.Figures as lots
use Rattle.lot.specs.Figures.{std}
use Rattle.lot.specs.declared.bid.Bid.{Bid}
use Rattle.lot.specs.declared.bid.Kind.TheVariants.{Standard, AllOrNothing}
use Rattle.lot.specs.declared.bid.Price.{Price}
use Rattle.lot.specs.declared.class.Class.TheVariants.{Senior, Excused, NonBidding}
use Rattle.auction.specs.Enrolling.{member_with}
use Rattle.auction.specs.Lots.{Listing, opened}
use Rattle.auction.specs.Requirements.{requirement_of}
use Rattle.auction.specs.Weights.{lot_amounts}
use Rattle.auction.specs.declared.terms.Terms.{Terms}
use Rattle.book.specs.Calls.{dollars, parts}
use Rattle.book.specs.Next.{answer, run, answers}
use Rattle.book.specs.Questions.{of_member, of_requirement, of_price, of_allocation, of_average, of_class, of_seat, of_bears}
use Rattle.book.specs.Standing.{at_loss, capacities, standings, pool_in}
use Rattle.book.specs.State.{State, still, made}
use Rattle.book.specs.declared.answers.Answer.{Answer}
use Rattle.book.specs.declared.answers.Answer.TheVariants as ans
use Rattle.book.specs.declared.answers.Seat.{Seat}
use Rattle.book.specs.declared.calls.Call.{Call}
use Rattle.book.specs.declared.calls.Call.TheVariants as call
use Rattle.book.specs.declared.phase.Phase.TheVariants.{Bidding, Charging}

-- a price of so many dollars
abbrev pub at : ℕ → Price
at n = record { 0 = pos n }

-- terms with a weight
abbrev pub weighing : ℕ → Terms
weighing n = record { weight = n; requirement = 10000; pri = 4000000 }

-- where no lot is handed over
abbrev pub no_terms : Terms
no_terms = record { weight = 0; requirement = 0; pri = 0 }

-- a lot of a weight with these bids
abbrev pub listing : ℕ → List Bid → Listing
listing n bs = record { terms = weighing n; excused = (opened (weighing n)).excused; bids = bs }

-- answers as they are told
abbrev pub done : Result Answer ℕ
done = Ok ans.Done

abbrev pub entered_as : ℕ → Result Answer ℕ
entered_as n = Ok (ans.Entry n)

abbrev pub paid : ℕ → ℕ → Result Answer ℕ
paid f a = Ok (ans.Released (record { fund = dollars f; assessment = dollars a }))

abbrev pub covering : ℕ → ℕ → Result Answer ℕ
covering x y = Ok (ans.Covered (record { covered = dollars x; uncovered = dollars y }))

abbrev pub returning : ℕ → ℕ → Result Answer ℕ
returning x y = Ok (ans.Returned (record { returned = dollars x; surplus = dollars y }))

-- calls by their numbers
abbrev pub enrolling : ℕ → ℕ → ℕ → Call
enrolling m f a = call.Enrol m (dollars f) (dollars a)

abbrev pub charging_by : ℕ → Call
charging_by n = call.Charge (dollars n)

abbrev pub recovering : ℕ → Call
recovering n = call.Recover (dollars n)

-- an auction of two lots with equal weights, and one of a single lot with a PRI
abbrev pub halves : Call
halves = call.Open (record { count = 2; terms = weighing 5000 ∷ weighing 5000 ∷ no_terms ∷ no_terms ∷ []; four = refl; plain = refl })

abbrev pub one_lot : ℕ → Call
one_lot range = call.Open (record { count = 1; terms = record { weight = 10000; requirement = 10000; pri = range } ∷ no_terms ∷ no_terms ∷ no_terms ∷ []; four = refl; plain = refl })

-- seats with capacities 5, 7, 10, 4, 0, 0, 0 at a net loss
abbrev pub seven : ℕ → State
seven n = at_loss [] [] (record { first = 5 ∷ []; second = 2 ∷ 3 ∷ 2 ∷ []; third = 10 ∷ []; fifth = []; sixth = []; seventh = [] }) 4 n

-- what the payers of seat 2 bear
abbrev pub in_second : State → List ℕ
in_second b = shares_of (pool_in b 2).standing (pool_in b 2).payers

-- three members: 1 bids in both lots, 2 bids in lot 2 and is then excused from both, 3 bids in lot 1 alone; lot 2 fails, and a loss is in part recovered
abbrev pub a_life : List Call
a_life =
    enrolling 1 100 7 ∷ enrolling 2 50 5 ∷ enrolling 3 20 9 ∷ call.TopUp 3 (dollars 10) (dollars 0) ∷ halves ∷
    call.Bid 2 2 Standard 7 (pos 1) ∷ call.Excuse 2 1 ∷ call.Excuse 2 2 ∷ call.Bid 1 1 AllOrNothing 10000 (pos 3) ∷
    call.Bid 1 1 AllOrNothing 10000 (pos 4) ∷ call.Bid 3 1 Standard 1667 (pos 5) ∷ call.Bid 1 2 Standard 5555 (pos 0) ∷
    call.Close ∷ charging_by 110 ∷ recovering 2 ∷ []

-- the book after that, over a house of capacity 4
abbrev pub lived_on : State
lived_on = run (made 4) a_life

-- a Bidding book whose lot holds n bids
abbrev pub holding : ℕ → State
holding n = still Bidding (member_with 1 0 ∷ []) (listing 10000 (replicate n (std 1 (at 0))) ∷ []) 0

-- a seat's capacity and standing
abbrev pub seat : ℕ → ℕ → Result Seat ℕ
seat c t = Ok (record { capacity = dollars c; standing = dollars t })

-- the figures
pub record Figures : Type 0 where
  -- those of shares and lots
  pub of_lots : lots.Figures
  -- requirements over the funds 1, 1, 1
  pub requirements : map (requirement_of (member_with 1 0 ∷ member_with 1 0 ∷ member_with 1 0 ∷ []) (listing 10000 [])) (1 ∷ 2 ∷ 3 ∷ []) ≡ 3333 ∷ 3333 ∷ 3334 ∷ []
  -- a fund of 100 over the lot weights 3,333 and 6,667
  pub lot_funds : lot_amounts (listing 3333 [] ∷ listing 6667 [] ∷ []) 100 ≡ 33 ∷ 67 ∷ []
  -- a loss in seven seats
  pub seats : capacities (seven 0) ≡ 5 ∷ 7 ∷ 10 ∷ 4 ∷ 0 ∷ 0 ∷ 0 ∷ []
  pub charge_nine : (answer (seven 0) (charging_by 9) ≡ covering 9 0) × (in_second (run (seven 0) (charging_by 9 ∷ [])) ≡ 1 ∷ 1 ∷ 2 ∷ [])
  pub recover_one : in_second (run (seven 0) (charging_by 9 ∷ recovering 1 ∷ [])) ≡ 0 ∷ 2 ∷ 1 ∷ []
  pub charge_hundred : answers (seven 0) (charging_by 9 ∷ recovering 1 ∷ charging_by 100 ∷ []) ≡ covering 9 0 ∷ returning 1 0 ∷ covering 18 82 ∷ []
  -- a whole life, its seats and its end
  pub life : answers (made 4) a_life ≡
      done ∷ done ∷ done ∷ done ∷ done ∷ entered_as 1 ∷ done ∷ done ∷ entered_as 1 ∷ Err 8 ∷ entered_as 2 ∷ entered_as 2 ∷
      Ok (ans.Closed (record { failed = 1; capacity = dollars 123 })) ∷ covering 110 0 ∷ returning 2 0 ∷ []
  pub its_seats : (capacities lived_on ≡ 30 ∷ 0 ∷ 75 ∷ 4 ∷ 9 ∷ 0 ∷ 5 ∷ []) × (standings lived_on ≡ 30 ∷ 0 ∷ 75 ∷ 3 ∷ 0 ∷ 0 ∷ 0 ∷ [])
  pub its_end : answers lived_on (call.Conclude ∷ call.Release 1 ∷ call.Release 2 ∷ call.Release 3 ∷ call.Release 3 ∷ []) ≡
      Ok (ans.Concluded (dollars 108)) ∷ paid 50 7 ∷ paid 25 5 ∷ paid 0 9 ∷ Err 3 ∷ []
  -- what it answers when it is asked
  pub phase_asked : lived_on.phase ≡ Charging
  pub member_asked : of_member lived_on 1 ≡ Ok (record { fund = dollars 100; assessment = dollars 7; fund_borne = dollars 50; assessment_borne = dollars 0 })
  pub stranger_asked : of_member lived_on 4 ≡ Err 3
  pub requirement_asked : map (λ m. of_requirement lived_on m 2) (1 ∷ 2 ∷ []) ≡ Ok (parts 5555) ∷ Ok (parts 0) ∷ []
  pub prices_asked : map (of_price lived_on) (1 ∷ 2 ∷ []) ≡ Ok (Some (at 3)) ∷ Ok None ∷ []
  pub allocations_asked : (of_allocation lived_on 1 1 ≡ Ok (parts 10000)) × (of_allocation lived_on 2 1 ≡ Ok (parts 0)) × (of_allocation lived_on 2 3 ≡ Err 2)
  pub averages_asked : map (of_average lived_on 1) (1 ∷ 2 ∷ []) ≡ Ok (Some (at 3)) ∷ Ok None ∷ []
  pub first_classes : map (λ m. of_class lived_on m 1) (1 ∷ 2 ∷ 3 ∷ []) ≡ Ok (Some Senior) ∷ Ok (Some Excused) ∷ Ok (Some NonBidding) ∷ []
  pub second_classes : map (λ m. of_class lived_on m 2) (1 ∷ 2 ∷ 3 ∷ []) ≡ Ok None ∷ Ok None ∷ Ok (Some NonBidding) ∷ []
  pub seats_asked : map (of_seat lived_on) (3 ∷ 4 ∷ 8 ∷ []) ≡ seat 75 75 ∷ seat 4 3 ∷ Err 2 ∷ []
  pub bears_asked : map (of_bears lived_on 1) (3 ∷ 4 ∷ []) ≡ Ok (dollars 50) ∷ Err 2 ∷ []
  -- limits
  pub even_pri : (answer (made 0) (one_lot 2) ≡ done) × (answer (made 0) (one_lot 3) ≡ Err 6)
  pub last_bid : (answer (holding 63) (call.Bid 1 1 Standard 1 (pos 0)) ≡ entered_as 64) × (answer (holding 64) (call.Bid 1 1 Standard 1 (pos 0)) ≡ Err 9)
