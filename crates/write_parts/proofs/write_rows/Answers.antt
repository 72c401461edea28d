use mathlib.Core.List.{List, ◌++◌}
use mathlib.Core.Path.{◌≡◌, ap, ◌∙◌}
use Prim.Native.Nat.{ℕ, ◌-◌, ◌*◌, ◌<◌}
use native.Mathlib.Omega.{arith}
use lib.ListN.{length}
use Rattle.std.proofs.lemmas.List.{map-append, length-map}
use Rattle.std.specs.Int.{w16, from_be_bytes}
use Rattle.std.specs.Slice.Iter.{chunks_exact_rest, chunks_exact_size}
use Rattle.line_plan.specs.Plan.{part, times}
use Rattle.write_parts.specs.Laid.{laid, ended, part_text}
use Rattle.words.specs.Words.{pair_words}
use Rattle.write_parts.proofs.Turns.{row_turn, row_whole, no_rows, no_width}
use Rattle.words.proofs.Writing.{start, fits, on, done}
use Rattle.write_parts.proofs.write_rows.Goals as goal

-- the next row's words, and the others
module _ (rest row others : List (List ℕ)) (w left : ℕ) (e : rest ≡ row ++ others) (sized : length row ≡ w) (some : 0 < w) (whole : length rest ≡ left * w) where
  abbrev split : pair_words rest ≡ pair_words row ++ pair_words others
  split = ap pair_words e ∙ map-append (from_be_bytes w16) row others

  abbrev row-sized : length (pair_words row) ≡ w
  row-sized = length-map row (from_be_bytes w16) ∙ sized

  abbrev whole-sized : length (pair_words rest) ≡ left * w
  whole-sized = length-map rest (from_be_bytes w16) ∙ whole

  next-row : ended (laid (times left (part w)) (pair_words rest)) ≡ part_text (pair_words row) ++ ended (laid (times (left - 1) (part w)) (pair_words others))
  next-row = row_turn (pair_words rest) (pair_words row) (pair_words others) w split row-sized some left whole-sized

  others-sized : length others ≡ (left - 1) * w
  others-sized = omega (arith, length-map others (from_be_bytes w16), row_whole (pair_words rest) (pair_words row) (pair_words others) w split row-sized some left whole-sized)

pub returns-then-width-eq0 : goal.returns-then-width-eq0
returns-then-width-eq0 g c = done start (no_width (pair_words c.args.table.now) c.args.width g.rows c.if-width-eq0.true)

pub loop-row-init : goal.loop-row-init
loop-row-init g c =
    let e = c.into_iter-row-iterator.ensures.into_iter_gives in
    let rest : chunks_exact_rest c.into_iter-row-iterator.result ≡ c.args.table.now = rw e c.chunks_exact-row-items.ensures.rest in
    let size : chunks_exact_size c.into_iter-row-iterator.result ≡ c.args.width = rw e c.chunks_exact-row-items.ensures.size in
    (size, record { left = g.rows; sized = ap length rest ∙ c.requires.0; going = rw rest start })

pub write_part-to-requires : goal.write_part-to-requires
write_part-to-requires g c = let i = c.loop-row.invariant in
    let s = rw c.in-Some.is at c.next.ensures.steps in
    let others = chunks_exact_rest c.next.new.self in
    let rest = chunks_exact_rest c.loop-row.row-iterator in
    fits i.1.going _ _ (next-row rest c.in-Some.row.now others c.args.width i.1.left s.1.0 (omega arith) (omega arith) i.1.sized) c.requires.1

pub loop-row-preserved : goal.loop-row-preserved
loop-row-preserved g c = let i = c.loop-row.invariant in
    let s = rw c.in-Some.is at c.next.ensures.steps in
    let row = c.in-Some.row.now in
    let others = chunks_exact_rest c.next.new.self in
    let rest = chunks_exact_rest c.loop-row.row-iterator in (
      omega arith,
      record {
        left = i.1.left - 1;
        sized = others-sized rest row others c.args.width i.1.left s.1.0 (omega arith) (omega arith) i.1.sized;
        going = on i.1.going _ _ (next-row rest row others c.args.width i.1.left s.1.0 (omega arith) (omega arith) i.1.sized) c.write_part-to.ensures;
      },
    )

pub returns : goal.returns
returns g c = let s = rw c.in-None.is at c.next.ensures.steps in
    let i = c.loop-row.invariant in
    let rest = chunks_exact_rest c.loop-row.row-iterator in
    done i.1.going (no_rows (pair_words rest) c.args.width i.1.left (length-map rest (from_be_bytes w16) ∙ i.1.sized) (omega (arith, length-map rest (from_be_bytes w16))))
