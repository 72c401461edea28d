-- Document 01, "Answer numbers", and document 02: a call with what is lent to it, and what its definition answers. Then the inputs of the tables.
use Rattle.std.specs.Prelude.{ℕ, ◌+◌, ◌-◌, ◌≡◌, List, [], ◌∷◌, ◌++◌, map, length, set, take, replicate}
use Rattle.std.specs.Int.Bits.{bit_xor}
use Rattle.units.specs.declared.Answer.{Answer}
use Rattle.units.specs.Answers.{answered}
use Rattle.units.specs.Units.{Line}
use Rattle.words.specs.Words.{words_of, bytes_of, word, block_from}
use Rattle.block.specs.Judging.{inner, judged}
use Rattle.write_parts.specs.Laid.{fields_of}
use Rattle.write_lines.specs.Text.{to_lines}
use Rattle.read_text.specs.Block.{judge_lines, write_block}
use Rattle.sheet.specs.Sheets.{Entry, version1, sheet_of, opened, started}
use Rattle.amending.specs.Amending.{amend, undo}
use Rattle.repacking.specs.Repacking.{repack}

-- a call and what is lent to it: the bytes of each buffer, and of an output how many there are
pub data Question : Type 0 where
  judge_block : List ℕ → Question
  block_to_lines : List ℕ → ℕ → Question
  judge_text : List ℕ → Question
  block_of_text : List ℕ → ℕ → Question
  open_sheet : List ℕ → Question
  start_sheet : List ℕ → Question
  amend_value : List ℕ → List ℕ → Entry → Question
  undo_last : List ℕ → List ℕ → Question
  repack_blocks : List ℕ → ℕ → Question

-- the four numbers that the call's definition answers
abbrev pub answer_to : Question → Answer
answer_to (judge_block block) = answered (judged block)
answer_to (block_to_lines block room) = (to_lines block (replicate room 0)).answer
answer_to (judge_text lines) = answered (judge_lines lines)
answer_to (block_of_text lines room) = (write_block lines (replicate room 0)).answer
answer_to (open_sheet sheet) = answered (opened version1 sheet)
answer_to (start_sheet sheet) = (started version1 sheet).answer
answer_to (amend_value block sheet entry) = (amend version1 entry block sheet).answer
answer_to (undo_last block sheet) = (undo version1 block sheet).answer
answer_to (repack_blocks slice room) = (repack slice (replicate room 0)).answer

-- a call with what is lent to it, and the answer that the paper gives
abbrev pub Trial : Type 0
Trial = Question × Answer

-- these inputs lent to a call, each with its answer
abbrev pub lent_to : (List ℕ → Question) → List (List ℕ × Answer) → List Trial
lent_to call inputs = map (λ i. (call i.0, i.1)) inputs

-- the definitions answer the same
abbrev pub AnsweredSo : List Trial → Type 0
AnsweredSo trials = map (λ t. answer_to t.0) trials ≡ map (λ t. t.1) trials

-- ---- blocks

-- a Data record, where these are its words 13 on
abbrev pub data_of : List ℕ → List ℕ
data_of ws = (12 + length ws) ∷ 1002 ∷ replicate 10 0 ++ ws

-- a Catalogue or a Header, by its kind, with these words of cards
abbrev pub cards_of : ℕ → List ℕ → List ℕ
cards_of kind ws = (40 + length ws) ∷ kind ∷ replicate 38 0 ++ ws

-- the least record, 16 words
abbrev pub least_record : List ℕ
least_record = data_of (16 ∷ 0 ∷ 0 ∷ 0 ∷ [])

-- one of 18 words: word 17 is a 1-D code, 7, and word 18 its value, 900
abbrev pub value_record : List ℕ
value_record = data_of (16 ∷ 1 ∷ 0 ∷ 0 ∷ 7 ∷ 900 ∷ [])

-- the words of a blank card
abbrev pub blank_card : List ℕ
blank_card = replicate 40 0x2020

-- this number in place k, counted from 1
abbrev pub in_place : ℕ → ℕ → List ℕ → List ℕ
in_place k w ws = set ws (k - 1) w

-- these bits of a block's checksum turned over
unfoldable pub turned : ℕ → List ℕ → List ℕ
turned bits block = let ws = words_of block in bytes_of (in_place (length ws) (bit_xor (word ws (length ws)) bits) ws)

-- this word in place k behind `at` words, "with its checksum put right"
unfoldable pub word_put : ℕ → ℕ → ℕ → List ℕ → List ℕ
word_put at k w block = turned (bit_xor (word (words_of block) (at + k)) w) (bytes_of (in_place (at + k) w (words_of block)))

-- a block of the first n record words only
unfoldable pub cut_to : ℕ → List ℕ → List ℕ
cut_to n block = block_from (take n (inner (words_of block)))

-- ---- lines

-- a Data record's first line, where these are its fields 13 on
abbrev pub data_line : ℕ → List ℕ → Line
data_line lines ws = fields_of (lines ∷ 1101 ∷ replicate 10 0 ++ ws)

-- fields 1 to 12 of a Catalogue or a Header, by its kind
abbrev pub cards_line : ℕ → ℕ → Line
cards_line lines kind = fields_of (lines ∷ kind ∷ replicate 10 0)

-- a Header's further fields that are free, 13 to 15
abbrev pub free_fields : Line
free_fields = fields_of (1 ∷ 1 ∷ 1 ∷ [])

-- ---- sheets

-- no amendment stands
abbrev pub none_stands : List ℕ
none_stands = sheet_of version1 []

-- this one stands
abbrev pub one_stands : Entry → List ℕ
one_stands e = sheet_of version1 (e ∷ [])

-- "64 amendments stand"
abbrev pub all_stand : List ℕ
all_stand = sheet_of version1 (replicate 64 (1 ∷ 18 ∷ 900 ∷ 900 ∷ []))
