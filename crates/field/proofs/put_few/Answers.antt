use Rattle.field.proofs.Putting.{one}
use Rattle.field.proofs.put_few.Goals as goal

pub returns-then-n-lt10 : goal.returns-then-n-lt10
returns-then-n-lt10 c = search one
