use Rattle.field.proofs.Putting.{plain, with_minus}
use Rattle.std.proofs.Common.{rules, arith}
use Rattle.field.proofs.split.Goals as goal

pub returns-then-w-lt32768 : goal.returns-then-w-lt32768
returns-then-w-lt32768 c = search (plain, rules)

pub returns : goal.returns
returns c = with_minus c.args.w c.wrapping_neg.result (omega arith) (omega arith)
