use Rattle.field.proofs.Putting.{two, three}
use Rattle.std.proofs.Common.{rules}
use Rattle.field.proofs.few.Goals as goal

pub returns-then-n-lt100 : goal.returns-then-n-lt100
returns-then-n-lt100 c = search (two, rules)

pub returns : goal.returns
returns c = search (three, rules)
