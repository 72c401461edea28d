-- What the programs write: of an array that was printed into, the bytes before the place that the printing gives.
use Rattle.std.specs.Prelude.{◌≡◌, List, [], ◌∷◌, ℕ, ◌≤◌, eqb, length, take}
use Rattle.std.specs.Prelude.{if◌then◌else◌}
use Rattle.units.specs.declared.Answer.{Answer}
use Rattle.units.specs.Answers.{passed, refused}
use Rattle.words.specs.Words.{Below}
use Rattle.words.specs.Outcomes.{Written}
use Rattle.write_lines.specs.Text.{to_lines}
use Rattle.read_text.specs.Block.{judge_lines, write_block}
use Rattle.repacking.specs.Repacking.{repack}
use Rattle.report.specs.Text.{line_of}
use Rattle.report.specs.Decimal.{decimal_of}
use Rattle.report.specs.Refusal.{refusal_line}
use Rattle.listed.specs.Listing.{listing_of}
use Rattle.printed.specs.Printed.{lines_printed, size_printed, block_printed, blocks_printed}
use Rattle.listed.specs.Promises.{PrintsListing}
use Rattle.printed.specs.Promises.{PrintsLines, PrintsSize, PrintsBlock, PrintsBlocks}
use Rattle.demands.specs.Demand2.{bytes_in}

-- `listing`: "It prints for each record ... For a refusal it prints only one line"
abbrev pub ListingWritten : Type 0
ListingWritten = (block out after : List ℕ) (end : ℕ) → PrintsListing block out end after → take end after ≡ listing_of block

-- `block_to_lines`
abbrev pub LinesWritten : Type 0
LinesWritten = (block out after : List ℕ) (end : ℕ) → PrintsLines block out end after → take end after ≡ lines_printed block

-- `check_lines`
abbrev pub SizeWritten : Type 0
SizeWritten = (text out after : List ℕ) (end : ℕ) → PrintsSize text out end after → take end after ≡ size_printed text

-- `lines_to_block`
abbrev pub BlockWritten : Type 0
BlockWritten = (text out after : List ℕ) (end : ℕ) → PrintsBlock text out end after → take end after ≡ block_printed text

-- `repack`
abbrev pub BlocksWritten : Type 0
BlocksWritten = (slice out after : List ℕ) (end : ℕ) → PrintsBlocks slice out end after → take end after ≡ blocks_printed slice

-- "test lines before it finds a buffer": of refused lines `check_lines` prints what `lines_to_block` does, the refusal; of others the size of the block that this prints
abbrev pub TestedFirst : Type 0
TestedFirst =
    (text : List ℕ) →
    ((r : Answer) → judge_lines text ≡ refused r → (size_printed text ≡ refusal_line r) × (block_printed text ≡ refusal_line r))
    × ((size : ℕ) → judge_lines text ≡ passed size → (size_printed text ≡ line_of (decimal_of size ∷ [])) × (length (block_printed text) ≡ size))

-- ---- and that is what the program's call gives, into an output that has always room

-- the bytes that a call has written, or the line of its refusal
abbrev pub printed_of : Written → List ℕ
printed_of w = if eqb w.answer.n 0 then bytes_in w else refusal_line w.answer

-- `block_to_lines` and block to lines
abbrev pub LinesAsCalled : Type 0
LinesAsCalled = (block out : List ℕ) → Below 256 block → 55971 ≤ length out → lines_printed block ≡ printed_of (to_lines block out)

-- `lines_to_block` and writing a block
abbrev pub BlockAsCalled : Type 0
BlockAsCalled = (text out : List ℕ) → 16000 ≤ length out → block_printed text ≡ printed_of (write_block text out)

-- `repack` and repacking
abbrev pub BlocksAsCalled : Type 0
BlocksAsCalled = (slice out : List ℕ) → Below 256 slice → 64000 ≤ length out → blocks_printed slice ≡ printed_of (repack slice out)
