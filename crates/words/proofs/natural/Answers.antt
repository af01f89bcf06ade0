use Rattle.std.proofs.Common.{◌≡◌, ◌<◌, length, get_or, sym, ◌∙◌, arith}
use Rattle.std.proofs.lemmas.Bool.Decides.{nat_tests}
use Rattle.words.proofs.Reading.{more, starts, steps, other, too-great, ends}
use Rattle.words.proofs.natural.Goals as goal

pub returns-then-not-is_ascii_digit : goal.returns-then-not-is_ascii_digit
returns-then-not-is_ascii_digit c =
    let start = starts c.args.most c.args.word.now (omega arith) in
    let stop = other c.args.most c.loop-b.n c.args.word.now c.loop-b.b-index c.loop-b-test.true (sym c.if-not-is_ascii_digit.ensures.value) in
    cc

pub returns-in_err-checked_mul : goal.returns-in_err-checked_mul
returns-in_err-checked_mul c =
    let none = too-great c.args.most c.loop-b.n c.args.word.now c.loop-b.b-index c.loop-b.invariant.1 c.loop-b-test.true (omega (arith, c.in_err-checked_mul.ensures)) in
    cc

pub returns-in_err-n : goal.returns-in_err-n
returns-in_err-n c =
    let none = too-great c.args.most c.loop-b.n c.args.word.now c.loop-b.b-index c.loop-b.invariant.1 c.loop-b-test.true (omega (arith, c.in_ok-checked_mul.ensures, c.in_err-n.ensures)) in
    cc

pub returns-then-n-most : goal.returns-then-n-most
returns-then-n-most c =
    let none = too-great c.args.most c.loop-b.n c.args.word.now c.loop-b.b-index c.loop-b.invariant.1 c.loop-b-test.true (omega (arith, c.in_ok-checked_mul.ensures, c.in_ok-n.ensures)) in
    cc

pub loop-b-preserved : goal.loop-b-preserved
loop-b-preserved c =
    let is : c.in_ok-n.n ≡ more c.loop-b.n (get_or c.args.word.now c.loop-b.b-index 0) = omega (arith, c.in_ok-checked_mul.ensures, c.in_ok-n.ensures) in
    let step = steps c.args.most c.loop-b.n c.args.word.now c.loop-b.b-index c.loop-b-test.true (sym c.if-not-is_ascii_digit.ensures.value) in
    (c.if-n-most.false, rw is (sym step ∙ c.loop-b.invariant.1))

pub returns : goal.returns
returns c =
    let some : 0 < length c.args.word.now = grind (arith, nat_tests) in
    let start = starts c.args.most c.args.word.now some in
    let stop = ends c.args.most c.loop-b.n c.args.word.now c.loop-b.b-index c.loop-b-test.false c.loop-b.invariant.0 in
    cc
