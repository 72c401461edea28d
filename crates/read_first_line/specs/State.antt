-- Where the reading of a text stands, as the code keeps it.
use Rattle.std.specs.Prelude.{ℕ, ◌+◌, ◌≤◌, min, ◌≡◌, Result, List, ◌++◌, map, length, get_or, take, replicate}
use Rattle.std.proofs.lemmas.List.Edits.{sets}
use Rattle.units.specs.Units.{bytes_of_words, Line}
use Rattle.units.specs.Answers.{Verdict, passed, onward, verdict_of}
use Rattle.words.specs.Words.{word, bytes_of, most_record_words}
use Rattle.line_plan.specs.Plan.{part, times}
use Rattle.read_columns.specs.Cases.{flaw_of}
use Rattle.read_first_line.specs.FirstLine.{Shape, card, fields, Read, Head, cards, counts, catalogue_fields, header_fields, data_fields}
use Rattle.read_first_line.specs.declared.Parts.{Parts}
use Rattle.read_first_line.specs.declared.Rest.{Rest}
use Rattle.read_first_line.specs.declared.Next.{Next}
use Rattle.record.specs.declared.kind.Kind.{Kind}
use Rattle.record.specs.declared.kind.Kind.TheVariants.{Catalogue, Header, Data}
use Rattle.read_columns.specs.declared.Flaw.{Flaw}

-- the lines of parts that are not begun
abbrev pub lines_of : Parts → List ℕ
lines_of parts = times parts.count (part parts.width.0)

-- the Data lines to come: the rest of the present part, then the 1-D and the 2-D parts not begun
unfoldable pub lines_left : Rest → List ℕ
lines_left p = part p.left.0 ++ (lines_of p.singles ++ lines_of p.rows)

-- all lines to come
unfoldable pub to_come : Rest → List Shape
to_come p = replicate p.cards.0 card ++ map fields (lines_left p)

-- the lines to come, the record words so far, and the block as it is then
pub record Stand : Type 0 where
  pub rest : List Shape
  pub held : ℕ
  pub block : List ℕ

-- the words that are read are put after the length word and the words so far, as far as the block has room
abbrev pub put : ℕ → List ℕ → List ℕ → List ℕ
put held block ws = sets block (bytes_of_words (held + 1)) (bytes_of ws)

-- after an accepted line
abbrev pub after : ℕ → List ℕ → Verdict Read → Verdict Stand
after held block v = onward v (λ s. passed (record { rest = s.rest; held = held + length s.words; block = put held block s.words }))

-- what a line's reading says, with the block as it is then
abbrev pub stand_of : List ℕ → Result Next Flaw → Verdict Stand
stand_of block = verdict_of (λ n. record { rest = to_come n.rest; held = n.held.0; block = block }) flaw_of

-- what it promises: what is read of the line
pub record Moved (held : ℕ) (before : List ℕ) (v : Verdict Read) (now : List ℕ) (r : Result Next Flaw) : Type 0 where
  pub is : stand_of now r ≡ after held before v

-- words held that leave their count in range
pub record Lent (words : ℕ) : Type 0 where
  pub held : words ≤ most_record_words

-- what the reading of a Catalogue's or a Header's first line is lent: the fields that count, and words held
pub record LentCards (numbers : List ℕ) (words : ℕ) : Type 0 where
  pub lent : Lent words
  pub two : 2 ≤ length numbers
  pub most : length numbers ≤ 20

-- the same for a Data record, whose LPROL is in range
pub record LentData (numbers : List ℕ) (words : ℕ) : Type 0 where
  pub lent : Lent words
  pub lprol : 16 ≤ get_or numbers 12 0
  pub all : length numbers ≡ min (get_or numbers 12 0) 20

-- as many lines as a Catalogue or a Header may state
pub record CardLines (lines : ℕ) : Type 0 where
  pub one : 1 ≤ lines
  pub most : lines ≤ 199

-- "the further fields its kind always has", behind the first 12
abbrev pub further_fields : ℕ → Line → List ℕ → Kind → Verdict Head
further_fields num l first Catalogue = catalogue_fields num l first
further_fields num l first Header = header_fields num l first
further_fields num l first Data = data_fields num l first

-- the head of a record of this kind, where the fields of its first line stand in a row
abbrev pub head_in : Kind → List ℕ → Head
head_in Catalogue row = cards 2001 (take 12 row)
head_in Header row = cards 3002 (take 15 row)
head_in Data row = counts (take (min (word row 13) 20) row)

-- what is found of the fields
abbrev pub headed_of : List ℕ → Result Kind Flaw → Verdict Head
headed_of row = verdict_of (λ kind. head_in kind row) flaw_of
