use Rattle.std.proofs.Common.{◌≡◌, true, not, eqb, length, sym, ◌∙◌}
use Rattle.std.proofs.lemmas.Bool.{and_right}
use Rattle.words.proofs.Cuts.{counted}
use Rattle.words.specs.Words.{word_at, has_words}
use Rattle.lot_sheet.proofs.command.bid_words.Goals as goal
use Rattle.lot_sheet.proofs.command.bid_words.Goals.{then-is_empty-via-then-is_empty, then-is_empty-via-else-is_empty+then-not-is_empty}

pub returns-then-is_empty : goal.returns-then-is_empty
returns-then-is_empty c =
    let fourth : c.split_word-4.result.0.now ≡ word_at 3 c.args.rest.now = cc in
    let fifth : c.split_word-5.result.0.now ≡ word_at 4 c.args.rest.now = cc in
    counted 3 c.args.rest.now _ _ fourth fifth
    ∙ elim c.then-is_empty.branch [
      | then-is_empty-via-then-is_empty w ↦ rw (sym w.if-is_empty.ensures)
      | then-is_empty-via-else-is_empty+then-not-is_empty w ↦ and_right (not (eqb (length c.split_word-4.result.0.now) 0)) _ (sym w.if-not-is_empty.ensures)
    ]

pub returns : goal.returns
returns c =
    let fourth : c.split_word-4.result.0.now ≡ word_at 3 c.args.rest.now = cc in
    let fifth : c.split_word-5.result.0.now ≡ word_at 4 c.args.rest.now = cc in
    let four : has_words 4 c.args.rest.now ≡ true = counted 3 c.args.rest.now _ _ fourth fifth ∙ rw (sym c.if-is_empty.ensures, sym c.if-not-is_empty.ensures) in
    (four, cc, cc, cc, fourth)
