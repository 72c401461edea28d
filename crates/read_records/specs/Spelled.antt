-- Document 01, "The lines", "Read form": which lines spell a record, with no order of tests in it.
use Rattle.std.specs.Prelude.{ℕ, suc, ◌-◌, ◌≤◌, ◌<◌, ◌≡◌, ◌⊎◌, List, [], ◌∷◌, ◌++◌, map, length, take, drop, replicate}
use Rattle.units.specs.Units.{columns_of_fields, Line}
use Rattle.words.specs.Words.{word, words_of, All}
use Rattle.record.specs.Lines.{line_count}
use Rattle.field.specs.Reading.{columns}
use Rattle.field.specs.Grammar.{IsField}
use Rattle.line_plan.specs.Plan.{data_plan, shown_words}
use Rattle.read_first_line.specs.FirstLine.{Shape, card, fields}

-- "Other bytes are 32 to 126"
pub record PlainByte (b : ℕ) : Type 0 where
  pub least : 32 ≤ b
  pub most : b ≤ 126

-- "a line has at most 120 bytes before its end"
pub record Readable (l : Line) : Type 0 where
  pub short : length l ≤ 120
  pub bytes : All PlainByte l

-- nothing but blanks
abbrev pub Blanks : Line → Type 0
Blanks l = All (λ b. b ≡ 32) l

-- the six columns of the field with k fields before it: "blanks, then at most one sign, then digits to its last column"; "Columns that a line lacks are blank"
abbrev pub Spells : Line → ℕ → ℕ → Type 0
Spells l k w = IsField (columns 6 l (columns_of_fields k)) w

-- that field and those after it spell these words
abbrev pub SpellsAll : Line → ℕ → List ℕ → Type 0
SpellsAll l k [] = Unit {0}
SpellsAll l k (w ∷ ws) = Spells l k w × SpellsAll l (suc k) ws

-- a field that must be zero: "there blank means 0"
abbrev pub SpellsZero : Line → ℕ → Type 0
SpellsZero l k = Blanks (columns 6 l (columns_of_fields k)) ⊎ Spells l k 0

-- "Each card is one line of 80 columns", the bytes of its words; a line of n number fields has n; the columns behind are blank
abbrev pub LineSpells : Shape → Line → List ℕ → Type 0
LineSpells card l ws = (ws ≡ words_of (columns 80 l 0)) × Blanks (drop 80 l)
LineSpells (fields n) l ws = (length ws ≡ n) × SpellsAll l 0 ws × Blanks (drop (columns_of_fields n) l)

-- lines of these shapes spell words, each line its own
pub data LinesSpell : List Shape → List Line → List ℕ → Type 0 where
  no_lines : LinesSpell [] [] []
  a_line : {x : Shape} {l : Line} {xs : List Shape} {ls : List Line} {vs : List ℕ} (ws : List ℕ)
      → LineSpells x l ws → LinesSpell xs ls vs → LinesSpell (x ∷ xs) (l ∷ ls) (ws ++ vs)

-- "a Catalogue or Header prologue is one line of 20 fields": line count, kind and words in the first n, the others blank or 0; then the cards
pub record CardsSpelled (n : ℕ) (r : List ℕ) (l : Line) (ls : List Line) : Type 0 where
  pub free : SpellsAll l 0 (take n (shown_words r))
  pub zeros : (k : ℕ) → n ≤ k → k < 20 → SpellsZero l k
  pub cards : LinesSpell (replicate (line_count r - 1) card) ls (drop 40 r)

-- blank or 0 are "Catalogue fields 13 to 20 and Header fields 16 to 20"; a Data record has the lines of its plan
pub data RecordSpelled (r : List ℕ) : List Line → Type 0 where
  as_catalogue : {l : Line} {ls : List Line} → word r 2 ≡ 2001 → CardsSpelled 12 r l ls → RecordSpelled r (l ∷ ls)
  as_header : {l : Line} {ls : List Line} → word r 2 ≡ 3002 → CardsSpelled 15 r l ls → RecordSpelled r (l ∷ ls)
  as_data : {ls : List Line} → word r 2 ≡ 1002 → LinesSpell (map fields (data_plan r)) ls (shown_words r) → RecordSpelled r ls

-- "Blank lines may stand before, between and after records"
pub data Spelled : List Line → List (List ℕ) → Type 0 where
  at_text_end : Spelled [] []
  blank_line : {l : Line} {ls : List Line} {rs : List (List ℕ)} → Blanks l → Spelled ls rs → Spelled (l ∷ ls) rs
  a_record : {r : List ℕ} {ms ls : List Line} {rs : List (List ℕ)} → RecordSpelled r ms → Spelled ls rs → Spelled (ms ++ ls) (r ∷ rs)
