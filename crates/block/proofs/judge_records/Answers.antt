use mathlib.Core.Path.{ap}
use native.Mathlib.Omega.{arith}
use Rattle.std.proofs.lemmas.Result.{err_from_is_err_and}
use Rattle.record.specs.Cases.{checked_of}
use Rattle.words.proofs.Laws.{length_words_of, words-drop}
use Rattle.block.proofs.Walk.{all-judged, judged-stop, judged-on}
use Rattle.block.proofs.judge_records.Goals as goal

pub returns-in_err-size : goal.returns-in_err-size
returns-in_err-size c =
    let p = err_from_is_err_and c.from_residual.result c.from_residual.ensures.1 in
    rw (p.1, p.2) (judged-stop c.loop-rest.invariant (omega arith) c.judge_record.ensures (ap checked_of c.in_err-size.was))

pub bytes_of_words-requires : goal.bytes_of_words-requires
bytes_of_words-requires c =
    let on = judged-on c.loop-rest.invariant (omega arith) c.judge_record.ensures (ap checked_of c.in_ok-size.was) in
    omega arith

pub split_at-requires : goal.split_at-requires
split_at-requires c =
    let on = judged-on c.loop-rest.invariant (omega arith) c.judge_record.ensures (ap checked_of c.in_ok-size.was) in
    omega (arith, length_words_of c.loop-rest.rest.now)

pub loop-rest-smaller : goal.loop-rest-smaller
loop-rest-smaller c =
    let on = judged-on c.loop-rest.invariant (omega arith) c.judge_record.ensures (ap checked_of c.in_ok-size.was) in
    omega (arith, length_words_of c.loop-rest.rest.now, c.split_at.ensures.back_len)

pub loop-rest-preserved : goal.loop-rest-preserved
loop-rest-preserved c =
    let on = judged-on c.loop-rest.invariant (omega arith) c.judge_record.ensures (ap checked_of c.in_ok-size.was) in
    rw (c.split_at.ensures.back, c.bytes_of_words.ensures, words-drop c.in_ok-size.size.0 c.loop-rest.rest.now) on.2

pub returns : goal.returns
returns c = all-judged c.loop-rest.invariant (omega arith)
