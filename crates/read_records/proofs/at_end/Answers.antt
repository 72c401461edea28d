use Rattle.read_first_line.specs.State.{to_come}
use Rattle.read_line.proofs.ToCome.{card_less, fields_less, none_to_come}
use mathlib.Core.List.{[]}
use mathlib.Core.Path.{◌≡◌, sym, ◌∙◌}
use native.Mathlib.Omega.{arith}
use Rattle.read_records.proofs.Ends.{inside, no_record_lem, all_read}
use Rattle.read_records.proofs.at_end.Goals.{then-p-gt0-via-then-p-gt0, then-p-gt0-via-else-p-gt0+then-p-gt0-2}
use Rattle.read_records.proofs.at_end.Goals as goal

pub returns-then-p-gt0 : goal.returns-then-p-gt0
returns-then-p-gt0 c = λ b. elim c.then-p-gt0.branch [ then-p-gt0-via-then-p-gt0 w ↦ inside _ _ b _ _ (sym c.settled-p.ensures.0 ∙ card_less c.settled-p.result w.if-p-gt0.true) | then-p-gt0-via-else-p-gt0+then-p-gt0-2 w ↦ inside _ _ b _ _ (sym c.settled-p.ensures.0 ∙ fields_less c.settled-p.result (omega (arith, w.if-p-gt0.false)) w.if-p-gt0-2.true) ]

pub returns-then-held-eq0 : goal.returns-then-held-eq0
returns-then-held-eq0 c = λ b. no_record_lem _ _ b ((let the_none_left : (to_come c.args.next.rest ≡ []) = sym c.settled-p.ensures.0 ∙ none_to_come c.settled-p.result (omega (arith, c.if-p-gt0.false)) (c.settled-p.ensures.1 (omega (arith, c.if-p-gt0-2.false))) in the_none_left)) c.if-held-eq0.true

pub returns : goal.returns
returns c = λ b. all_read _ _ b ((let the_none_left : (to_come c.args.next.rest ≡ []) = sym c.settled-p.ensures.0 ∙ none_to_come c.settled-p.result (omega (arith, c.if-p-gt0.false)) (c.settled-p.ensures.1 (omega (arith, c.if-p-gt0-2.false))) in the_none_left)) c.if-held-eq0.false
