-- What the programs print, but for the listing: the text of a block, the size of a text's block or the block itself, or blocks packed again; or, as the listing has it, the line of a refusal.
use Rattle.std.specs.Prelude.{ℕ, ◌≤◌, ◌≡◌, List, [], ◌∷◌, length, take, Result, Ok, Err}
use Rattle.units.specs.declared.Answer.{Answer}
use Rattle.units.specs.declared.Bytes.{Bytes}
use Rattle.units.specs.declared.Unwritten.{Unwritten}
use Rattle.words.specs.Words.{block_from}
use Rattle.words.specs.Writing.{Put}
use Rattle.block.specs.Judging.{judged}
use Rattle.block.specs.Records.{records_of}
use Rattle.write_lines.specs.Text.{text_of}
use Rattle.read_records.specs.Reading.{read_text}
use Rattle.read_text.specs.Block.{judge_lines}
use Rattle.block_slice.specs.Blocks.{blocks_in, records_in}
use Rattle.packing.specs.Packing.{repacked}
use Rattle.report.specs.Text.{line_of}
use Rattle.report.specs.Decimal.{decimal_of}
use Rattle.report.specs.Refusal.{refusal_line, or_refusal}

-- a text was put at the start of a buffer and ends in it, so that its bytes can be lent on
pub record Printed (before text after : List ℕ) (end : ℕ) : Type 0 where
  pub put : Put before 0 text after end
  pub within : end ≤ length after
  pub counted : end ≡ length (take end after)

-- a call returned this, and what it wrote ends here; or it wrote nothing, and the line that tells why was put
abbrev pub EndOrRefusal : {R : Type 0} → Answer → Result Bytes (Unwritten R) → List ℕ → List ℕ → ℕ → Type 0
EndOrRefusal told (Ok size) before after end = (after ≡ before) × (end ≡ size.0)
EndOrRefusal told (Err why) before after end = Put before 0 (refusal_line told) after end

-- "A block's text is its records' lines in order"
abbrev pub lines_printed : List ℕ → List ℕ
lines_printed block = or_refusal (λ _. text_of (records_of block)) (judged block)

-- document 02, request 2: "the block's size in bytes", as a line
abbrev pub size_printed : List ℕ → List ℕ
size_printed text = or_refusal (λ size. line_of (decimal_of size ∷ [])) (judge_lines text)

-- the record words of the text, length word and checksum around them, as bytes
abbrev pub block_printed : List ℕ → List ℕ
block_printed text = or_refusal block_from (read_text text)

-- document 02, request 1: "it takes blocks one after the other ... and writes blocks again"
abbrev pub blocks_printed : List ℕ → List ℕ
blocks_printed slice = or_refusal (λ blocks. repacked (records_in blocks)) (blocks_in slice)
