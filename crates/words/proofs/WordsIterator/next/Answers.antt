use Rattle.std.proofs.Common.{◌≡◌, List, ℕ, eqb, length, suc, ap, sym, ◌∙◌, arith}
use Rattle.words.specs.Words.{words_of}
use Rattle.words.proofs.Cuts.{words_of-none, words_of-some}
use Rattle.words.proofs.WordsIterator.next.Goals as goal

pub returns-then-is_empty-clause-steps : goal.returns-then-is_empty-clause-steps
returns-then-is_empty-clause-steps c =
    let none = words_of-none c.args.self.now.rest.now (ap (λ (w : List ℕ). eqb (length w) 0) (sym c.split_word.ensures.word) ∙ sym c.if-is_empty.ensures) in
    (none.0, rw c.split_word.ensures.rest none.1)

pub returns-else-is_empty-clause-steps : goal.returns-else-is_empty-clause-steps
returns-else-is_empty-clause-steps c =
    let some = words_of-some c.args.self.now.rest.now (ap (λ (w : List ℕ). eqb (length w) 0) (sym c.split_word.ensures.word) ∙ sym c.if-is_empty.ensures) in
    rw (c.split_word.ensures.word, c.split_word.ensures.rest) some

pub returns-else-is_empty-clause-goes : goal.returns-else-is_empty-clause-goes
returns-else-is_empty-clause-goes c =
    let some = words_of-some c.args.self.now.rest.now (ap (λ (w : List ℕ). eqb (length w) 0) (sym c.split_word.ensures.word) ∙ sym c.if-is_empty.ensures) in
    let fewer : length (words_of c.args.self.now.rest.now) ≡ suc (length (words_of c.split_word.result.1.now)) = rw c.split_word.ensures.rest (ap length some) in
    record { on = λ _. (tt, tt, omega arith); keeps = tt; rests = λ _. tt }
