use Rattle.report.proofs.Digits.{one_digit, more_digits}
use Rattle.report.specs.Decimal.{decimal_of}
use Rattle.words.proofs.Writing.{start, fits, on, done}
use lib.ListN.{length}
use native.Mathlib.Omega.{arith}
use mathlib.Core.List.{[], ◌∷◌}
use mathlib.Core.Path.{refl, ap}
use Prim.Native.Nat.{◌+◌, ◌/◌, ◌%◌}
use Rattle.report.proofs.+write_number.Goals as goal

pub write_digit-requires : goal.write_digit-requires
write_digit-requires t c = (c.if-n-lt10.true, omega (arith, c.requires, ap length (one_digit c.args.n c.if-n-lt10.true)))

pub returns-then-n-lt10 : goal.returns-then-n-lt10
returns-then-n-lt10 t c = rw (one_digit c.args.n c.if-n-lt10.true) c.write_digit.ensures

pub write_number-to-requires : goal.write_number-to-requires
write_number-to-requires t c = let a = c.args in
    (omega arith, fits {o = a.out.now} start (decimal_of (a.n / 10)) _ (more_digits a.n c.if-n-lt10.false (omega arith)) c.requires)

pub write_digit-requires-2 : goal.write_digit-requires-2
write_digit-requires-2 t c = let a = c.args in
    (omega arith, fits (on start (decimal_of (a.n / 10)) _ (more_digits a.n c.if-n-lt10.false (omega arith)) c.write_number-to.ensures) ((48 + a.n % 10) ∷ []) [] refl c.requires)

pub returns : goal.returns
returns t c = let a = c.args in
    done (on (on start (decimal_of (a.n / 10)) _ (more_digits a.n c.if-n-lt10.false (omega arith)) c.write_number-to.ensures) _ [] refl c.write_digit-2.ensures) refl
