use Rattle.read_columns.proofs.Handed.{handed_on}
use Rattle.read_records.proofs.Loop.{reading-refused, reading-on}
use mathlib.Core.Path.{◌≡◌, refl, sym, ap, ◌∙◌}
use mathlib.Core.List.{List, []}
use native.Mathlib.Omega.{arith}
use native.Mathlib.Numerals.{unary_clauses}
use Prim.Native.Nat.{ℕ, ◌≤◌}
use lib.ListN.{length, drop_of_length-le}
use Rattle.std.proofs.lemmas.Bool.Decides.{nat_tests}
use Rattle.read_cut.specs.Lines.{lines_in}
use Rattle.read_line.specs.Lines.{read_lines}
use Rattle.read_first_line.specs.State.{to_come}
use Rattle.read_first_line.specs.FirstLine.{Shape}
use Rattle.read_records.specs.Content.{stored}
use Rattle.read_records.specs.Reading.{read_text}
use Rattle.read_records.proofs.Outcome.{line_by_line}
use Rattle.read_records.proofs.Opened.{words_to_come, RoomToCome}
use Rattle.read_records.proofs.read.Goals as goal

-- at the start nothing is held, and nothing is to come
none-held : {rest : List Shape} → rest ≡ [] → RoomToCome 0 rest
unfolding words_to_come
none-held e = rw e (omega arith)

-- a text that is not too long is read line by line
by_lines : (t b : List ℕ) → length t ≤ 65536 → stored 0 b (read_lines 1 0 [] (lines_in t)) ≡ stored 0 b (read_text t)
by_lines t b h = ap (stored 0 b) (sym (line_by_line t h))

pub loop-left-init : goal.loop-left-init
loop-left-init c = let a = c.args in
    record { same = ap (λ r. stored 0 a.block.now (read_lines 1 0 r (lines_in a.text.now))) c.cards_only.ensures; length_kept = refl; lines_most = omega arith; room = none-held c.cards_only.ensures }

pub read_line-requires : goal.read_line-requires
read_line-requires c = let g = c.loop-left.invariant in (record { held = omega (arith, g.room) }, simp unary_clauses at c.next_line-cut.ensures.plain)

pub returns-in_err-next : goal.returns-in_err-next
returns-in_err-next c = handed_on _ c.in_err-next.field-0.0 _ c.from_residual.ensures ∙ reading-refused c.loop-left.invariant c.next_line-cut.ensures _ _ c.read_line.ensures.is c.in_err-next.was ∙ by_lines c.args.text.now c.args.block.now c.if-text-gt65536.false

pub overflow_add-num : goal.overflow_add-num
overflow_add-num c = omega (arith, c.loop-left.invariant.lines_most, c.if-text-gt65536.false)

pub loop-left-smaller : goal.loop-left-smaller
loop-left-smaller c = omega (arith, c.next_line-cut.ensures.onward, c.next_line-cut.ensures.inside)

pub loop-left-preserved : goal.loop-left-preserved
loop-left-preserved c = rw c.split_at.ensures.back (reading-on c.loop-left.invariant c.next_line-cut.ensures _ _ c.read_line.ensures.is c.in_ok-next.was c.if-text-gt65536.false c.read_line.auto.block)

pub returns : goal.returns
unfolding lines_in read_lines
returns c = let l = c.loop-left in
    let none : length l.left.now ≤ 0 = grind (arith, nat_tests) in
    let none_left : l.left.now ≡ [] = drop_of_length-le l.left.now {i = 0} none in
    c.at_end.ensures l.block ∙ ap (λ x. stored l.next.held.0 l.block (read_lines l.num l.next.held.0 (to_come l.next.rest) (lines_in x))) (sym none_left) ∙ l.invariant.same ∙ by_lines c.args.text.now c.args.block.now c.if-text-gt65536.false
