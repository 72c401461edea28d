-- Document 01, "The lines": words laid out in lines of number fields and in cards.
use Rattle.std.specs.Prelude.{ℕ, zero, suc, List, [], ◌∷◌, ◌++◌, length, take, drop}
use Rattle.units.specs.Units.{Line}
use Rattle.words.specs.Words.{bytes_of}
use Rattle.field.specs.Writing.{field_of}
use Rattle.line_plan.specs.Plan.{part}

-- number fields, one after the other
unfoldable pub fields_of : List ℕ → Line
fields_of [] = []
fields_of (w ∷ ws) = field_of w ++ fields_of ws

-- words laid out in lines, each of as many fields as the plan says
unfoldable pub laid : List ℕ → List ℕ → List Line
laid [] ws = []
laid (n ∷ ns) ws = fields_of (take n ws) ∷ laid ns (drop n ws)

-- "Each card is one line of 80 columns"
unfoldable pub card_lines : ℕ → List ℕ → List Line
card_lines zero ws = []
card_lines (suc n) ws = bytes_of (take 40 ws) ∷ card_lines n (drop 40 ws)

-- "Every line ends with LF and has no filling"
unfoldable pub ended : List Line → List ℕ
ended [] = []
ended (l ∷ ls) = l ++ (10 ∷ ended ls)

-- words in lines of their own
abbrev pub part_text : List ℕ → List ℕ
part_text ws = ended (laid (part (length ws)) ws)
