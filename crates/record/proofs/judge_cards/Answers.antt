use Rattle.record.proofs.Passed.{total_right}
use Rattle.record.specs.Judging.{wrong_total}
use native.Mathlib.Omega.{arith}
use mathlib.Core.Path.{sym, ap, ◌∙◌}
use Rattle.record.proofs.judge_cards.Goals as goal

pub judge_content-requires : goal.judge_content-requires
judge_content-requires c =
    let test = ap (wrong_total c.words_said-total.result.0) (sym c.count.ensures) ∙ sym c.wrong_total.ensures ∙ c.if-wrong_total.false in
    (total_right _ _ test, omega arith, omega arith, omega arith)
