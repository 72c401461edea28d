-- What each program's printing promises.
use Rattle.std.specs.Prelude.{List, ℕ}
use Rattle.printed.specs.Printed.{Printed, lines_printed, size_printed, block_printed, blocks_printed}

-- `print_lines`: "block to character lines"
abbrev pub PrintsLines : List ℕ → List ℕ → ℕ → List ℕ → Type 0
PrintsLines block out end after = Printed out (lines_printed block) after end

-- `print_size`: document 02's "test lines before it finds a buffer"
abbrev pub PrintsSize : List ℕ → List ℕ → ℕ → List ℕ → Type 0
PrintsSize text out end after = Printed out (size_printed text) after end

-- `print_block`: "lines to block"
abbrev pub PrintsBlock : List ℕ → List ℕ → ℕ → List ℕ → Type 0
PrintsBlock text out end after = Printed out (block_printed text) after end

-- `print_blocks`: document 02's "repacker"
abbrev pub PrintsBlocks : List ℕ → List ℕ → ℕ → List ℕ → Type 0
PrintsBlocks slice out end after = Printed out (blocks_printed slice) after end
