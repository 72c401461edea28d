-- Document 01, "Units": words, lines and bytes, and the conversions between them. There are no others.
use Rattle.std.specs.Prelude.{List, ℕ, ◌+◌, ◌*◌, ◌/◌}

-- a line is its bytes, without its end
abbrev pub Line : Type 0
Line = List ℕ

-- "Words are 16 bits": two bytes each
abbrev pub bytes_of_words : ℕ → ℕ
bytes_of_words w = w * 2

-- the whole words that stand in `b` bytes
abbrev pub words_of_bytes : ℕ → ℕ
words_of_bytes b = b / 2

-- "LTOT is 40 times (1 + cards)", and the prologue and each card is one line
abbrev pub lines_of_cards : ℕ → ℕ
lines_of_cards w = w / 40

-- the words of `l` such lines
abbrev pub words_of_cards : ℕ → ℕ
words_of_cards l = 40 * l

-- a part takes "20 fields a line; a part with no fields takes no line"; a field is a word
abbrev pub lines_of_fields : ℕ → ℕ
lines_of_fields w = (w + 19) / 20

-- "A number field is six columns"
abbrev pub columns_of_fields : ℕ → ℕ
columns_of_fields w = 6 * w

-- "Every line ends with LF"
abbrev pub ends_of_lines : ℕ → ℕ
ends_of_lines l = l
