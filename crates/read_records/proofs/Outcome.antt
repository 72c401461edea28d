-- Row 30 comes first.
use mathlib.Core.Path.{◌≡◌}
use mathlib.Core.List.{List, []}
use Prim.Native.Nat.{ℕ, ◌≤◌, ◌<◌}
use borrow.Author.Tests.{lt-ltb, le-ltb}
use lib.ListN.{length}
use Rattle.units.specs.Answers.{answer, refused}
use Rattle.read_cut.specs.Lines.{lines_in}
use Rattle.read_line.specs.Lines.{read_lines}
use Rattle.read_records.specs.Reading.{read_text}

module _ (t : List ℕ) where
  pub too_long : 65536 < length t → read_text t ≡ refused (answer 30 0 0 0)
  unfolding read_text
  too_long h = simp (lt-ltb 65536 (length t) h)

  pub line_by_line : length t ≤ 65536 → read_text t ≡ read_lines 1 0 [] (lines_in t)
  unfolding read_text
  line_by_line h = simp (le-ltb 65536 (length t) h)
