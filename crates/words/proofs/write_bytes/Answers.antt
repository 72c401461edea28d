use mathlib.Core.Path.{refl}
use native.Mathlib.Omega.{arith}
use Rattle.words.proofs.Writing.{stored_on}
use Rattle.words.proofs.write_bytes.Goals as goal

pub loop-i-preserved : goal.loop-i-preserved
loop-i-preserved c = stored_on c.args.out.now c.args.text.now c.args.at.0 c.loop-i.i _ (omega arith) refl c.loop-i.invariant
