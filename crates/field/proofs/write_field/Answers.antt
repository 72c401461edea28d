use Rattle.field.proofs.Putting.{four, five}
use Rattle.std.proofs.Common.{rules}
use Rattle.field.proofs.write_field.Goals as goal

pub returns-then-n-lt10000 : goal.returns-then-n-lt10000
returns-then-n-lt10000 c = search (four, rules)

pub returns : goal.returns
returns c = search (five, rules)
