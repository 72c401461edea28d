use Rattle.std.specs.Prelude.{ℕ, ◌≡◌, ◌*◌, List, length}
use Rattle.std.specs.Slice.Iter.{chunks_exact_rest, chunks_exact_size}
use Rattle.write_parts.specs.Laid.{laid, ended}
use Rattle.words.specs.Words.{pair_words}
use Rattle.line_plan.specs.Plan.{part, times}
use Rattle.words.proofs.Writing.{Going}
use Rattle.write_parts.proofs.write_rows.Given as goal

-- so many rows are still to be put
pub record RowsLeft (width : ℕ) (before : List ℕ) (at : ℕ) (whole out : List ℕ) (to : ℕ) (rest : List (List ℕ)) : Type 0 where
  pub left : ℕ
  pub sized : length rest ≡ left * width
  pub going : Going before at whole out to (ended (laid (times left (part width)) (pair_words rest)))

abbrev pub invariant-loop-row : goal.invariant-loop-row
invariant-loop-row g l =
    let width = l.fn.width in
    (chunks_exact_size l.row-iterator ≡ width)
    × RowsLeft width l.initial.out l.initial.to.0 (ended (laid (times g.rows (part width)) (pair_words l.fn.table))) l.out l.to.0 (chunks_exact_rest l.row-iterator)
