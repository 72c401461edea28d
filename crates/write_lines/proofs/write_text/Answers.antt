use native.Mathlib.Omega.{arith}
use Rattle.words.proofs.Writing.{too_short, all-written}
use Rattle.block.specs.Records.{records_of}
use Rattle.write_lines.specs.Text.{text_of}
use Rattle.write_lines.proofs.write_text.Goals as goal

pub returns-then-text-needed : goal.returns-then-text-needed
returns-then-text-needed c = too_short 29 c.args.text.now (text_of (records_of c.args.block.now)) c.text_size-needed.result.0 c.text_size-needed.ensures (omega arith)

pub returns : goal.returns
returns c = all-written 29 c.args.text.now (text_of (records_of c.args.block.now)) (omega (arith, c.text_size-needed.ensures)) c.write_records.ensures
