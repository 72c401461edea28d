use Rattle.std.proofs.Common.{sym, replicate, arith}
use Rattle.read_store.proofs.Storing.{sets_out, filled}
use Rattle.read_store.proofs.store_filling.Goals as goal

pub returns-in-Some : goal.returns-in-Some
returns-in-Some c = let a = c.args in
    filled a.out.now _ a.at.0 c.min.result _ a.count.0 a.b (omega (arith, c.min.ensures, c.in-Some.ensures)) (omega (arith, c.in-Some.ensures)) (omega arith) (c.fill.ensures.after (λ y e. e))

pub returns-in_default : goal.returns-in_default
returns-in_default c = let a = c.args in sym (sets_out a.out.now a.at.0 (replicate a.count.0 a.b) (omega (arith, c.in_default.ensures)))
