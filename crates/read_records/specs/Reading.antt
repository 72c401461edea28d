-- Document 01, "Order for text".
use Rattle.std.specs.Prelude.{ℕ, List, [], ltb, length}
use Rattle.std.specs.Prelude.{if◌then◌else◌}
use Rattle.units.specs.Answers.{answer, Verdict, refused}
use Rattle.read_cut.specs.Lines.{lines_in}
use Rattle.read_line.specs.Lines.{read_lines}

-- "Order for text: 30, then line by line": the record words of the text
unfoldable pub read_text : List ℕ → Verdict (List ℕ)
read_text t = if ltb 65536 (length t) then refused (answer 30 0 0 0) else read_lines 1 0 [] (lines_in t)
