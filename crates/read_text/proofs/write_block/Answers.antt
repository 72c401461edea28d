use mathlib.Core.Path.{refl, sym}
use Rattle.std.proofs.lemmas.Result.{err_from_is_err_and}
use Rattle.read_text.proofs.Known.{block_promised}
use Rattle.read_text.proofs.Outcome.{words_read, flaw_read, size_judged, refusal_told}
use Rattle.read_text.proofs.write_block.Goals as goal

pub returns-in_err-judged : goal.returns-in_err-judged
returns-in_err-judged c =
    let p = err_from_is_err_and c.from_residual.result c.from_residual.ensures.1 in
    rw (p.1, p.2) (block_promised _ _ (refusal_told _ _ (flaw_read _ _ _ c.in_err-judged.was c.judge_records.ensures)))

pub put_block-requires : goal.put_block-requires
put_block-requires c = sym (size_judged _ _ (words_read _ _ _ c.in_ok-judged.was c.judge_records.ensures) refl)

pub returns : goal.returns
returns c = block_promised _ _ c.put_block.ensures
