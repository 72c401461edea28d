use Rattle.std.proofs.Common.{◌≡◌, true, refl, sym, eq-eqb, ◌+◌, length, drop, ap, ◌∙◌, arith, length-drop}
use lib.ListN.{drop_of_length-le}
use Rattle.std.proofs.lemmas.List.{take_rest}
use Rattle.read_cut.specs.Lines.{end_length}
use Rattle.read_cut.proofs.FirstLine.{Sought, sought_plain, cut_here, lf_at}
use Rattle.read_cut.proofs.next_line.Goals as goal

pub returns-then-text-from-eq10 : goal.returns-then-text-from-eq10
returns-then-text-from-eq10 c = let a = c.args in let from = c.plain_end-from.result in
    let one : end_length (drop from a.text.now) ≡ 1 = lf_at a.text.now from {r = true} (sym (eq-eqb _ 10 c.if-text-from-eq10.true)) refl in
    let s : Sought a.text.now a.at.0 from = rw c.plain_end-from.ensures (sought_plain a.text.now a.at.0 (omega arith)) in
    cut_here a.text.now a.at.0 _ s (omega (arith, c.plain_end-from.ensures)) (ap (λ k. from + k) (sym one)) (λ _. omega (arith, one)) (omega (arith, s.behind)) (omega arith)

pub loop-i-init : goal.loop-i-init
loop-i-init c = rw c.plain_end-from.ensures (sought_plain c.args.text.now c.args.at.0 (omega arith))

pub returns-then-size-gt0 : goal.returns-then-size-gt0
returns-then-size-gt0 c = let a = c.args in let i = c.loop-i.i in
    let e = c.end_length-size.ensures.0 ∙ ap end_length (take_rest a.text.now i) in
    cut_here a.text.now a.at.0 _ c.loop-i.invariant (omega (arith, c.plain_end-from.ensures)) (ap (λ k. i + k) e) (λ _. omega (arith, e)) (omega arith) (omega (arith, c.end_length-size.ensures.1, ap length (take_rest a.text.now i), length-drop i a.text.now))

pub returns : goal.returns
unfolding end_length
returns c = let a = c.args in
    let e : c.loop-i.i ≡ length a.text.now = omega (arith, c.loop-i-test.false) in
    let s : Sought a.text.now a.at.0 (length a.text.now) = rw e at c.loop-i.invariant in
    cut_here a.text.now a.at.0 _ s (omega (arith, c.plain_end-from.ensures)) (omega (arith, ap end_length (drop_of_length-le a.text.now {i = length a.text.now} (omega arith)))) (λ h. absurd (omega arith)) (omega arith) (omega arith)
