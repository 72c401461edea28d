use Rattle.words.proofs.Laws.{words-slice}
use Rattle.words.specs.Words.{words_of}
use lib.Seq.{length-slice}
use lib.ListN.{length}
use native.Mathlib.Omega.{arith}
use Prim.Native.Nat.{◌-◌}
use mathlib.Core.Path.{ap, ◌∙◌}
use Rattle.block.proofs.judge_words.Goals as goal

pub judge_records-requires : goal.judge_records-requires
judge_records-requires c = omega (arith, ap length (ap words_of c.span-2.ensures ∙ words-slice 1 (c.count-end.result.0 - 1) c.args.block.now), length-slice 1 (c.count-end.result.0 - 1) (words_of c.args.block.now) (omega arith))
