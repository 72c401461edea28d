use mathlib.Core.Path.{sym, ◌∙◌}
use native.Mathlib.Omega.{arith}
use Rattle.write_lines.proofs.Sizes.{size_read}
use Rattle.write_lines.proofs.record_size.Goals as goal

pub overflow_add-result : goal.overflow_add-result
overflow_add-result c =
    omega (arith, size_read _ _ _ _ _ c.requires.ok (sym c.kind_of.ensures) c.count.ensures c.columns_in-columns.ensures (c.ends_of_lines-ends.ensures ∙ c.line_count.ensures), c.requires.most)

pub returns : goal.returns
returns c = (size_read _ _ _ _ _ c.requires.ok (sym c.kind_of.ensures) c.count.ensures c.columns_in-columns.ensures (c.ends_of_lines-ends.ensures ∙ c.line_count.ensures)).0
