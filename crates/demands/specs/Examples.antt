-- Document 01, "Examples": "The P rows are proved as a single table". Behind it other sentences that name one input.
use Rattle.std.specs.Prelude.{ℕ, ◌-◌, ◌≡◌, List, [], ◌∷◌, ◌++◌, map, length, get_or, replicate}
use Prim.Native.String.{String}
use Rattle.std.proofs.Math.Seq.{slice}
use Rattle.units.specs.declared.Answer.{Answer}
use Rattle.units.specs.Answers.{answer, Verdict, passed, refused}
use Rattle.words.specs.Words.{bytes_of, words}
use Rattle.words.specs.Outcomes.{leaves}
use Rattle.block.specs.Judging.{judged}
use Rattle.block.specs.Records.{records_of}
use Rattle.write_lines.specs.Lines.{lines_of}
use Rattle.write_lines.specs.Text.{to_lines}
use Rattle.field.specs.Writing.{field_of}
use Rattle.read_columns.specs.Columns.{number}
use Rattle.report.specs.Text.{text}
use Rattle.prefix.specs.Table.{letters, prefix_of}
use Rattle.sheet.specs.Sheets.{version1, sheet_of}
use Rattle.block_value.specs.Places.{record_in}
use Rattle.repacking.specs.Repacking.{repack}
use Rattle.cedar.specs.Calls.{judge_answer}
use Rattle.listed.specs.Listing.{listing_of}
use Rattle.demands.specs.Demand3.{Call, amends, undoes, done_all, left_by, fresh}

-- "Block K", with NROW, word 22 of its record and the checksum left open; -32767 is the word 32769
unfoldable pub block_k : ℕ → ℕ → ℕ → List ℕ
block_k nrow value checksum =
    26 ∷ 24 ∷ 1002 ∷ 30 ∷ 1 ∷ 1983 ∷ 508 ∷ 1422 ∷ 0 ∷ 1983 ∷ 508 ∷ 1422 ∷ 0 ∷ 16 ∷ 1 ∷ 2 ∷ nrow
    ∷ 540 ∷ 285 ∷ 110 ∷ 550 ∷ 250 ∷ value ∷ 300 ∷ 32769 ∷ checksum ∷ []

-- example 6: "the record of 16 words ... in a block of 18 has checksum 999"
unfoldable pub block_least : ℕ → List ℕ
block_least checksum = 18 ∷ 16 ∷ 1002 ∷ 30 ∷ 1 ∷ 1983 ∷ 508 ∷ 1422 ∷ 0 ∷ 1983 ∷ 508 ∷ 1422 ∷ 0 ∷ 16 ∷ 0 ∷ 0 ∷ 0 ∷ checksum ∷ []

-- what is found of a block: the judge's answer, the answer of block to lines into no room at all, and each record's lines
pub record Found : Type 0 where
  pub judged_as : Answer
  pub lined_as : Answer
  pub lines : List ℕ

-- how many lines each record of an accepted block has
abbrev pub lines_found : List (List ℕ) → Verdict ℕ → List ℕ
lines_found rs (passed k) = map (λ r. length (lines_of r)) rs
lines_found rs (refused r) = []

-- what the definitions find of these bytes
abbrev pub found_of : List ℕ → Found
found_of b = record { judged_as = judge_answer b; lined_as = (to_lines b []).answer; lines = lines_found (records_of b) (judged b) }

-- the bytes of K, and of a sheet of `count` entries with these bytes: "Entries past the count are zero"
abbrev pub bytes_k : List ℕ
bytes_k = bytes_of (block_k 2 900 33020)

abbrev pub sheet_shown : ℕ → List ℕ → List ℕ
sheet_shown count bytes = text "AMD" ++ (0 ∷ 1 ∷ 0 ∷ count ∷ 0 ∷ bytes) ++ replicate (512 - length bytes) 0

-- what calls leave of K and an empty sheet: the answer to each, both buffers, and "line 5 columns 7 to 12" of the block's text
pub record Left : Type 0 where
  pub answers : List Answer
  pub block : List ℕ
  pub sheet : List ℕ
  pub columns : List ℕ

abbrev pub left_of : List Call → Left
left_of cs =
    let q = left_by version1 (fresh version1 bytes_k) cs in
    record {
      answers = map (λ d. d.answer) (done_all version1 bytes_k (sheet_of version1 []) cs);
      block = q.block;
      sheet = q.sheet;
      columns = slice 6 12 (get_or (lines_of (record_in (records_of q.block) 1)) 4 []);
    }

-- K and the empty sheet as they were
abbrev pub as_before : List Answer → Left
as_before answers = record { answers = answers; block = bytes_k; sheet = sheet_shown 0 []; columns = text "   900" }

-- "K's record 1 word 22, 900 to 905"; -32527 is the word 33009
abbrev pub example3 : Call
example3 = amends (1 ∷ 22 ∷ 900 ∷ 905 ∷ [])

abbrev pub amended_k : Left
amended_k =
    record {
      answers = answer 0 1 0 0 ∷ [];
      block = bytes_of (block_k 2 905 33009);
      sheet = sheet_shown 1 (0x00 ∷ 0x01 ∷ 0x00 ∷ 0x16 ∷ 0x03 ∷ 0x84 ∷ 0x03 ∷ 0x89 ∷ []);
      columns = text "   905";
    }

-- what a field is read as, where it is the second field of line 4: "give 22" with the line and the field's first column
abbrev pub field_found : String → Verdict ℕ
field_found s = number 4 (text "     1" ++ text s) 1

-- ---- the table

-- what a row gives, and what is found of it: of a block's words, of calls on K and an empty sheet, of a field
pub data Row : Type 0 where
  of_block : List ℕ → Found → Row
  of_calls : List Call → Left → Row
  of_field : String → Verdict ℕ → Row

-- the row with what the definitions find
abbrev pub worked : Row → Row
worked (of_block words found) = of_block words (found_of (bytes_of words))
worked (of_calls calls left) = of_calls calls (left_of calls)
worked (of_field field read) = of_field field (field_found field)

-- a row and the number of its example; -32516 is the word 33020, and one bit off is 33021; -32768 is the word 32768
unfoldable pub paper_rows : List (ℕ × Row)
unfolding block_k block_least
paper_rows =
    (1, of_block (block_k 2 900 33020) (record { judged_as = answer 0 1 0 0; lined_as = answer 29 150 0 0; lines = 6 ∷ [] }))
    ∷ (2, of_block (block_k 2 900 33021) (record { judged_as = answer 3 0 0 1; lined_as = answer 3 0 0 1; lines = [] }))
    ∷ (3, of_calls (example3 ∷ []) amended_k)
    ∷ (4, of_calls (example3 ∷ undoes ∷ []) (as_before (answer 0 1 0 0 ∷ answer 0 0 0 0 ∷ [])))
    ∷ (5, of_calls (amends (1 ∷ 20 ∷ 550 ∷ 905 ∷ []) ∷ []) (as_before (answer 42 0 0 0 ∷ [])))
    ∷ (5, of_calls (amends (1 ∷ 22 ∷ 901 ∷ 905 ∷ []) ∷ []) (as_before (answer 43 900 0 0 ∷ [])))
    ∷ (6, of_block (block_least 999) (record { judged_as = answer 0 1 0 0; lined_as = answer 29 97 0 0; lines = 1 ∷ [] }))
    ∷ (7, of_field "-32768" (passed 32768))
    ∷ (7, of_field "032767" (passed 32767))
    ∷ (7, of_field "    +5" (passed 5))
    ∷ (7, of_field "-32769" (refused (answer 22 4 7 0)))
    ∷ (7, of_field "032768" (refused (answer 22 4 7 0)))
    ∷ (7, of_field "12    " (refused (answer 22 4 7 0)))
    ∷ (8, of_block (block_k 1 900 33023) (record { judged_as = answer 9 1 1 0; lined_as = answer 9 1 1 0; lines = [] }))
    ∷ []

-- each row is what is found
abbrev pub PaperRows : Type 0
PaperRows = map (λ r. (r.0, worked r.1)) paper_rows ≡ paper_rows

-- ---- other things that the paper says of one input

-- "MLH" of the listing's example; "5140 is AQF"; "7240 has no prefix. It and every unlisted code answer "---""
unfoldable pub prefix_rows : List (ℕ × String)
prefix_rows = (30, "MLH") ∷ (5140, "AQF") ∷ (7240, "---") ∷ (0, "---") ∷ (65535, "---") ∷ []

-- the rows are what the table answers
abbrev pub PrefixRows : Type 0
PrefixRows = map (λ e. prefix_of e.0) prefix_rows ≡ map (λ e. letters e.1) prefix_rows

-- "For K the whole output is", and what is printed for K of example 8
unfoldable pub listing_rows : List (List ℕ × String)
unfolding block_k
listing_rows = (block_k 2 900 33020, "1 2 1002 24 6 30 MLH") ∷ (block_k 1 900 33023, "refused 9 1 1 0") ∷ []

-- the rows are what is printed, one line each
abbrev pub ListingRows : Type 0
ListingRows = map (λ e. listing_of (bytes_of e.0)) listing_rows ≡ map (λ e. text e.1 ++ (10 ∷ [])) listing_rows

-- document 02, request 1: the records of K and K "into the current block", 50 words whose checksum is 50, since equal words cancel out; the bytes past them stay
abbrev pub RepackedK : Type 0
RepackedK =
    let r = words (block_k 2 900 33020) 2 25 in
    repack (bytes_k ++ bytes_k) (replicate 104 7) ≡ leaves (answer 0 100 0 0) (bytes_of (50 ∷ r ++ r ++ 50 ∷ []) ++ replicate 4 7)

-- the field "    -0" is 0; "A blank field is refused"
unfoldable pub read_rows : List (String × Verdict ℕ)
read_rows = ("    -0", passed 0) ∷ ("      ", refused (answer 22 4 7 0)) ∷ []

-- the rows are what is read
abbrev pub ReadRows : Type 0
ReadRows = map (λ e. field_found e.0) read_rows ≡ map (λ e. e.1) read_rows

-- "six columns, right-justified, blank on the left, a minus before the first digit, no leading zeros"; 65535 is the word of -1
unfoldable pub written_rows : List (ℕ × String)
written_rows = (0, "     0") ∷ (7, "     7") ∷ (900, "   900") ∷ (32767, " 32767") ∷ (32768, "-32768") ∷ (65535, "    -1") ∷ []

-- the rows are what is written
abbrev pub WrittenRows : Type 0
WrittenRows = map (λ e. field_of e.0) written_rows ≡ map (λ e. text e.1) written_rows
