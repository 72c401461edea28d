use mathlib.Core.Path.{sym, ap, ◌∙◌}
use mathlib.Core.List.{[], ◌∷◌}
use native.Mathlib.Omega.{arith}
use lib.ListN.{length}
use Rattle.std.proofs.Common.{List, ℕ, ◌≤◌}
use Rattle.units.proofs.Packing.{fitted_is}
use Rattle.words.specs.Writing.{Room}
use Rattle.read_text.specs.Cases.{judged_of}
use Rattle.report.specs.Text.{line_of}
use Rattle.report.specs.Decimal.{decimal_of}
use Rattle.printed.specs.Printed.{size_printed}
use Rattle.printed.proofs.Outcome.{prints_passed, prints_refused, size_bound}
use Rattle.printed.proofs.print_size.Goals as goal

-- a buffer of so many bytes has room
room : (t out : List ℕ) → 52 ≤ length out → Room out 0 (size_printed t)
room t out sized = omega (arith, size_bound t)

-- the size that was judged packs
pub overflow_cast-size : goal.overflow_cast-size
overflow_cast-size c = omega (arith, (rw c.in-Ok.is at c.judge_lines.ensures.packs).a_fits)

pub write_line-requires : goal.write_line-requires
write_line-requires c =
    (prints_passed (λ size. line_of (decimal_of size ∷ [])) (room c.args.text.now c.args.out.now (omega arith)) (sym c.judge_lines.ensures.outcome ∙ ap judged_of c.in-Ok.is)).room

-- its numbers are the refusal's, since they pack
pub write_refusal-requires : goal.write_refusal-requires
write_refusal-requires c =
    let p = rw c.in-Err.is at c.judge_lines.ensures.packs in
    (prints_refused (λ size. line_of (decimal_of size ∷ [])) (room c.args.text.now c.args.out.now (omega arith)) (sym c.judge_lines.ensures.outcome ∙ ap judged_of c.in-Err.is)
    (c.numbers.ensures.0 ∙ fitted_is _ p.a_fits p.b_fits)).room

pub returns-in-Ok : goal.returns-in-Ok
returns-in-Ok c =
    (prints_passed (λ size. line_of (decimal_of size ∷ [])) (room c.args.text.now c.args.out.now (omega arith)) (sym c.judge_lines.ensures.outcome ∙ ap judged_of c.in-Ok.is)).printed c.write_line.ensures

pub returns-in-Err : goal.returns-in-Err
returns-in-Err c =
    let p = rw c.in-Err.is at c.judge_lines.ensures.packs in
    (prints_refused (λ size. line_of (decimal_of size ∷ [])) (room c.args.text.now c.args.out.now (omega arith)) (sym c.judge_lines.ensures.outcome ∙ ap judged_of c.in-Err.is)
    (c.numbers.ensures.0 ∙ fitted_is _ p.a_fits p.b_fits)).printed c.write_refusal.ensures
