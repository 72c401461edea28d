use mathlib.Core.Path.{refl, ap}
use mathlib.Core.List.{◌++◌, map}
use native.Mathlib.Omega.{arith}
use lib.ListN.{replicate}
use Rattle.read_first_line.specs.FirstLine.{card, fields}
use Rattle.read_first_line.specs.State.{to_come, lines_of, lines_left}
use Rattle.read_line.proofs.ToCome.{next_single, next_row, no_parts}
use Rattle.read_line.proofs.settled.Goals as goal

pub returns-in-Some : goal.returns-in-Some
unfolding lines_left to_come
returns-in-Some c = let p = c.args.p in let next = c.in-Some.ensures in (
  ap (λ l. replicate p.cards.0 card ++ map fields l) (next_single p.left.0 c.in-Some.singles.width.0 _ _ (lines_of p.rows) (omega arith) next.0),
  λ e. absurd (omega (arith, next.1)),
)

pub returns-in-Some-begun : goal.returns-in-Some-begun
unfolding lines_left to_come
returns-in-Some-begun c = let p = c.args.p in let next = c.in-Some-begun.ensures in (
  ap (λ l. replicate p.cards.0 card ++ map fields l) (next_row p.left.0 c.in-Some-begun.rows.width.0 (lines_of p.singles) _ _ (omega arith) c.in_default.ensures next.0),
  λ e. absurd (omega (arith, next.1)),
)

pub returns : goal.returns
unfolding lines_left
returns c = (refl, λ e. no_parts c.args.p.left.0 e c.in_default.ensures c.in_default-begun.ensures)
