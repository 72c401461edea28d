use Rattle.std.proofs.Common.{refl, arith}
use Rattle.read_cut.proofs.PlainBytes.{none_set, first_set}
use Rattle.read_cut.proofs.plain_of.Goals as goal

pub returns-then-bits-eq0 : goal.returns-then-bits-eq0
returns-then-bits-eq0 c = none_set c.args.sixteen.now c.told-sixteen _ refl c.if-bits-eq0.true

pub returns-else-bits-eq0 : goal.returns-else-bits-eq0
returns-else-bits-eq0 c = first_set c.args.sixteen.now c.told-sixteen _ refl (omega arith)
