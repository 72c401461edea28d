use native.Mathlib.Omega.{arith}
use Rattle.words.specs.Words.{words_of}
use Rattle.record.proofs.Values.{is_data}
use Rattle.write_lines.proofs.Sizes.{data_is}
use Rattle.write_lines.proofs.write_data.Goals as goal

pub write_plan-requires : goal.write_plan-requires
write_plan-requires c = let ws = words_of c.args.whole.now in let d = is_data ws c.requires.0.good.ok c.requires.1 in
    rw (c.counts_of-counts.ensures, c.count_shown-lines.ensures, ← data_is ws c.requires.1) (d.counts.lprol.least_is, omega (arith, d.sum), c.requires.0.room)

pub returns : goal.returns
returns c = rw (data_is (words_of c.args.whole.now) c.requires.1, ← c.counts_of-counts.ensures, ← c.count_shown-lines.ensures) c.write_plan.ensures
