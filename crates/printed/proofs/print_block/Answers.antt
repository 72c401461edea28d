use mathlib.Core.Path.{◌∙◌}
use native.Mathlib.Omega.{arith}
use Rattle.units.proofs.Packing.{fitted_is, fitted_written}
use Rattle.words.specs.Words.{block_from}
use Rattle.read_columns.specs.Cases.{flaw_of}
use Rattle.read_records.specs.Reading.{read_text}
use Rattle.read_text.specs.Block.{write_block}
use Rattle.printed.proofs.Outcome.{block_bound, text_row, ended, never_built}
use Rattle.printed.proofs.print_block.Goals as goal

pub returns : goal.returns
unfolding write_block
returns c =
    let text = c.args.text.now in
    let t = c.write_block-found.ensures in
    let found = c.write_block-found.result in
    ended block_from 29 c.args.out.now flaw_of never_built (read_text text) found (omega (arith, block_bound text)) (text_row text)
    (fitted_written 29 flaw_of found ∙ fitted_is _ t.packs.a_fits t.packs.b_fits) c.end_or_refusal.ensures t.outcome
