-- Document 01, "The lines" and "Answer numbers": the text of a block, and the call that writes it.
use Rattle.std.specs.Prelude.{List, [], ◌∷◌, ◌++◌, ℕ}
use Rattle.units.specs.Answers.{passed, onward}
use Rattle.words.specs.Outcomes.{Written, written}
use Rattle.block.specs.Judging.{judged}
use Rattle.block.specs.Records.{records_of}
use Rattle.write_parts.specs.Laid.{ended}
use Rattle.write_lines.specs.Lines.{lines_of}

-- "A block's text is its records' lines in order"
unfoldable pub text_of : List (List ℕ) → List ℕ
text_of [] = []
text_of (r ∷ rs) = ended (lines_of r) ++ text_of rs

-- "To lines: the block, then 29"
unfoldable pub to_lines : List ℕ → List ℕ → Written
to_lines block out = written 29 out (onward (judged block) (λ _. passed (text_of (records_of block))))
