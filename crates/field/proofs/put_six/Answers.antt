use Rattle.std.proofs.Common.{arith}
use Rattle.field.proofs.Putting.{placed}
use Rattle.field.proofs.put_six.Goals as goal

pub returns : goal.returns
returns c = let a = c.args in placed a.out.now a.at _ _ _ c.copy_from_slice.ensures.after (omega arith) (omega arith) c.requires
