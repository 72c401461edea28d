use native.Mathlib.Omega.{arith}
use Rattle.words.specs.Words.{words_of}
use Rattle.write_lines.proofs.Sizes.{record_sized}
use Rattle.write_lines.proofs.count_shown.Goals as goal

pub saying_lines-requires : goal.saying_lines-requires
saying_lines-requires c = omega (arith, c.line_count.ensures, (record_sized (words_of c.args.whole.now) c.requires.ok).count_most)
