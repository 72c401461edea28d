-- Document 01, "Answer numbers", and document 02: for each call a least input for each of its refusals. Where a row of a paper names several things, or has
-- an edge, there is an input for each. What is proved is the answer, not that no shorter input has it.
use Rattle.std.specs.Prelude.{ℕ, ◌-◌, List, [], ◌∷◌, ◌++◌, replicate, take}
use Rattle.units.specs.declared.Answer.{Answer}
use Rattle.units.specs.Answers.{answer}
use Rattle.words.specs.Words.{bytes_of, block_from}
use Rattle.write_parts.specs.Laid.{fields_of}
use Rattle.field.specs.Writing.{blanks}
use Rattle.report.specs.Text.{text}
use Rattle.refusals.specs.Questions.{Trial, AnsweredSo, lent_to, judge_block, block_to_lines, judge_text, block_of_text, open_sheet, start_sheet, amend_value, undo_last, repack_blocks, data_of, cards_of, least_record, value_record, blank_card, in_place, turned, word_put, data_line, cards_line, free_fields, none_stands, one_stands, all_stand}

-- the block of the least record, 18 words
abbrev pub least_block : List ℕ
least_block = block_from least_record

-- with this word in place k of its record
abbrev pub least_with : ℕ → ℕ → List ℕ
least_with k w = word_put 1 k w least_block

-- so the block of a Catalogue (2001) or a Header (3002) alone, 42 words
abbrev pub head_with : ℕ → ℕ → ℕ → List ℕ
head_with kind k w = word_put 1 k w (block_from (cards_of kind []))

-- so that of one with a card, 82 words
abbrev pub card_with : ℕ → ℕ → ℕ → List ℕ
card_with kind k w = word_put 1 k w (block_from (cards_of kind blank_card))

-- blocks of the size that their length word states, and refused: 3, "then each record: 4, 5, 6, 7, 8, 9"
unfoldable pub stated_blocks : List (List ℕ × Answer)
unfolding word_put turned
stated_blocks =
    (turned 1 least_block, answer 3 0 0 1)
    ∷ (turned 0xFFFF least_block, answer 3 0 0 16)
    -- of 17 record words the first record has 16
    ∷ (block_from (least_record ++ (0 ∷ [])), answer 4 2 1 0)
    ∷ (least_with 2 0, answer 5 1 2 0)
    -- "Data: under 16", "past the last record word"
    ∷ (least_with 1 15, answer 6 1 1 0)
    ∷ (least_with 1 17, answer 6 1 1 0)
    -- "under 40", past the last record word, "no multiple of 40"
    ∷ (least_with 2 2001, answer 6 1 1 0)
    ∷ (word_put 1 1 40 (least_with 2 2001), answer 6 1 1 0)
    ∷ (block_from (cards_of 2001 (0 ∷ [])), answer 6 1 1 0)
    ∷ (least_with 2 3002, answer 6 1 1 0)
    ∷ (word_put 1 1 40 (least_with 2 3002), answer 6 1 1 0)
    ∷ (block_from (cards_of 3002 (0 ∷ [])), answer 6 1 1 0)
    -- the first and the last that must be zero
    ∷ (head_with 2001 13 1, answer 7 1 13 0)
    ∷ (head_with 2001 40 1, answer 7 1 40 0)
    ∷ (head_with 3002 16 1, answer 7 1 16 0)
    ∷ (head_with 3002 40 1, answer 7 1 40 0)
    -- the second byte of the card is 31; the last but one is 127
    ∷ (card_with 2001 41 0x201F, answer 8 1 41 0)
    ∷ (card_with 2001 80 0x7F20, answer 8 1 80 0)
    ∷ (card_with 3002 41 0x201F, answer 8 1 41 0)
    -- LPROL 15; -1 for each count; JPAR 1 in 16 words
    ∷ (least_with 13 15, answer 9 1 13 0)
    ∷ (least_with 13 0xFFFF, answer 9 1 13 0)
    ∷ (least_with 14 0xFFFF, answer 9 1 14 0)
    ∷ (least_with 15 0xFFFF, answer 9 1 15 0)
    ∷ (least_with 16 0xFFFF, answer 9 1 16 0)
    ∷ (least_with 14 1, answer 9 1 1 0)
    ∷ []

-- blocks that are refused, "Order for a block: 1, 2, 3, then each record"
unfoldable pub bad_blocks : List (List ℕ × Answer)
unfolding word_put turned stated_blocks
bad_blocks =
    -- "byte count odd, under 36 or over 16,000"
    (replicate 37 0, answer 1 0 0 0)
    ∷ ([], answer 1 0 0 0)
    ∷ (replicate 34 0, answer 1 0 0 0)
    ∷ (replicate 16002 0, answer 1 0 0 0)
    ∷ (word_put 0 1 17 least_block, answer 2 0 0 0)
    ∷ stated_blocks

-- "Judge a binary block"; "To lines: the block, then 29"; "Amend: block, 40"; "Undo: block, 40": the others with no room and no sheet
unfoldable pub block_trials : List Trial
unfolding bad_blocks
block_trials =
    lent_to judge_block bad_blocks
    ++ lent_to (λ b. block_to_lines b 0) bad_blocks
    ++ lent_to (λ b. amend_value b [] (0 ∷ 0 ∷ 0 ∷ 0 ∷ [])) bad_blocks
    ++ lent_to (λ b. undo_last b []) bad_blocks

-- texts that are refused; a line may end with the text
unfoldable pub bad_texts : List (List ℕ × Answer)
unfolding fields_of
bad_texts =
    -- "line over 120"; bad bytes, the last of them a CR with no LF behind it
    (blanks 121, answer 20 1 121 0)
    ∷ (31 ∷ [], answer 20 1 1 0)
    ∷ (127 ∷ [], answer 20 1 1 0)
    ∷ (13 ∷ [], answer 20 1 1 0)
    -- "first such column"
    ∷ (blanks 4 ++ (127 ∷ 127 ∷ []), answer 20 1 5 0)
    ∷ (blanks 4 ++ (127 ∷ blanks 116), answer 20 1 5 0)
    -- no line at all, and blank lines only; CR LF ends one
    ∷ ([], answer 21 0 0 0)
    ∷ (32 ∷ 10 ∷ 10 ∷ [], answer 21 0 0 0)
    ∷ (13 ∷ 10 ∷ [], answer 21 0 0 0)
    -- no digit in the last column of field 1; field 2 is blank
    ∷ (text "0", answer 22 1 1 0)
    ∷ (text "     0", answer 22 1 7 0)
    ∷ (cards_line 0 0, answer 23 1 7 0)
    -- "Catalogue and Header have 1 to 199 lines"
    ∷ (cards_line 0 2101, answer 24 1 1 0)
    ∷ (cards_line 200 2101, answer 24 1 1 0)
    ∷ (cards_line 0 3101 ++ free_fields, answer 24 1 1 0)
    ∷ (cards_line 200 3101 ++ free_fields, answer 24 1 1 0)
    -- "not the lines its four counts need", "20 fields a line"
    ∷ (data_line 2 (16 ∷ 0 ∷ 0 ∷ 0 ∷ []), answer 24 1 1 0)
    ∷ (data_line 2 (16 ∷ 0 ∷ 21 ∷ 0 ∷ []), answer 24 1 1 0)
    -- a card is lacking; the codes are, on one line or two
    ∷ (cards_line 2 2101, answer 25 2 1 0)
    ∷ (data_line 3 (16 ∷ 1 ∷ 0 ∷ 0 ∷ []), answer 25 2 1 0)
    ∷ (data_line 2 (16 ∷ 0 ∷ 20 ∷ 0 ∷ []), answer 25 2 1 0)
    ∷ (data_line 3 (16 ∷ 0 ∷ 21 ∷ 0 ∷ []), answer 25 2 1 0)
    -- blank columns: behind the fields of a first line, of a later one, and behind a card
    ∷ (data_line 1 (16 ∷ 0 ∷ 0 ∷ 0 ∷ []) ++ text "0", answer 26 1 97 0)
    ∷ (data_line 1 (16 ∷ 0 ∷ 0 ∷ 0 ∷ []) ++ text " 0 0", answer 26 1 98 0)
    ∷ (data_line 3 (16 ∷ 1 ∷ 0 ∷ 0 ∷ []) ++ (10 ∷ text "     70"), answer 26 2 7 0)
    ∷ (cards_line 2 2101 ++ (10 ∷ blanks 80 ++ text "0"), answer 26 2 81 0)
    -- the fields that must be zero, the first and the last
    ∷ (cards_line 1 2101 ++ text "     1", answer 26 1 73 0)
    ∷ (cards_line 1 2101 ++ blanks 42 ++ text "     1", answer 26 1 115 0)
    ∷ (cards_line 1 3101 ++ free_fields ++ text "     1", answer 26 1 91 0)
    ∷ (cards_line 1 3101 ++ free_fields ++ blanks 24 ++ text "     1", answer 26 1 115 0)
    -- LPROL 15, -1 for each of the others, and for two of them
    ∷ (data_line 1 (15 ∷ 0 ∷ 0 ∷ 0 ∷ []), answer 27 1 73 0)
    ∷ (data_line 1 (16 ∷ 0xFFFF ∷ 0 ∷ 0 ∷ []), answer 27 1 79 0)
    ∷ (data_line 1 (16 ∷ 0 ∷ 0xFFFF ∷ 0 ∷ []), answer 27 1 85 0)
    ∷ (data_line 1 (16 ∷ 0 ∷ 0 ∷ 0xFFFF ∷ []), answer 27 1 91 0)
    ∷ (data_line 1 (16 ∷ 0xFFFF ∷ 0 ∷ 0xFFFF ∷ []), answer 27 1 79 0)
    -- 16 and 7,983 words; a Catalogue's 40, then one of 199 lines, 7,960
    ∷ (data_line 7984 (16 ∷ 0 ∷ 1 ∷ 7982 ∷ []), answer 28 1 1 0)
    ∷ (cards_line 1 2101 ++ (10 ∷ cards_line 199 2101), answer 28 2 1 0)
    ∷ (cards_line 1 2101 ++ (10 ∷ cards_line 199 3101 ++ free_fields), answer 28 2 1 0)
    ∷ (replicate 65537 10, answer 30 0 0 0)
    ∷ []

-- "Judging gives every text refusal but 29; writing gives all of them", here with no room
unfoldable pub text_trials : List Trial
unfolding bad_texts
text_trials = lent_to judge_text bad_texts ++ lent_to (λ t. block_of_text t 0) bad_texts

-- 7,998 record words, as many as a block takes: a Catalogue of 199 lines, and a Data record of 38 words on two
abbrev pub full_text : List ℕ
full_text = cards_line 199 2101 ++ replicate 199 10 ++ data_line 2 (38 ∷ 0 ∷ 0 ∷ 0 ∷ replicate 4 0) ++ (10 ∷ fields_of (replicate 18 0))

-- "output shorter than needed": a byte short of 16 fields and LF, and of 18 words; "gives the block's size in bytes": of 18 words, and of 8,000
unfoldable pub room_trials : List Trial
unfolding fields_of
room_trials =
    (block_to_lines least_block 96, answer 29 97 0 0)
    ∷ (block_of_text (data_line 1 (16 ∷ 0 ∷ 0 ∷ 0 ∷ [])) 35, answer 29 36 0 0)
    ∷ (judge_text (data_line 1 (16 ∷ 0 ∷ 0 ∷ 0 ∷ [])), answer 0 36 0 0)
    ∷ (judge_text full_text, answer 0 16000 0 0)
    ∷ (block_of_text full_text 15999, answer 29 16000 0 0)
    ∷ []

-- a sheet opened, and "start an amendment sheet"
unfoldable pub sheet_trials : List Trial
sheet_trials =
    -- "not 520 bytes": none, one fewer, one more
    (open_sheet [], answer 40 0 0 0)
    ∷ (open_sheet (take 519 none_stands), answer 40 0 0 0)
    ∷ (open_sheet (none_stands ++ (0 ∷ [])), answer 40 0 0 0)
    -- each byte of the mark, both of the version
    ∷ (open_sheet (in_place 1 0 none_stands), answer 40 0 0 0)
    ∷ (open_sheet (in_place 2 0 none_stands), answer 40 0 0 0)
    ∷ (open_sheet (in_place 3 0 none_stands), answer 40 0 0 0)
    ∷ (open_sheet (in_place 4 1 none_stands), answer 40 0 0 0)
    ∷ (open_sheet (in_place 5 2 none_stands), answer 40 0 0 0)
    -- counts 256 and 65
    ∷ (open_sheet (in_place 6 1 none_stands), answer 40 0 0 0)
    ∷ (open_sheet (in_place 7 65 none_stands), answer 40 0 0 0)
    -- the zero byte; the first and the last byte past the count
    ∷ (open_sheet (in_place 8 1 none_stands), answer 40 0 0 0)
    ∷ (open_sheet (in_place 9 1 none_stands), answer 40 0 0 0)
    ∷ (open_sheet (in_place 520 1 none_stands), answer 40 0 0 0)
    -- "all that starting tests": any 520 bytes are started
    ∷ (start_sheet [], answer 40 0 0 0)
    ∷ (start_sheet (replicate 519 0), answer 40 0 0 0)
    ∷ (start_sheet (replicate 521 0), answer 40 0 0 0)
    ∷ (start_sheet (replicate 520 255), answer 0 0 0 0)
    ∷ []

-- "amend a value"
unfoldable pub amend_trials : List Trial
unfolding word_put turned
amend_trials =
    (amend_value least_block [] (1 ∷ 16 ∷ 0 ∷ 0 ∷ []), answer 40 0 0 0)
    ∷ (amend_value least_block all_stand (1 ∷ 16 ∷ 0 ∷ 0 ∷ []), answer 44 0 0 0)
    -- record 0, and one past the last
    ∷ (amend_value least_block none_stands (0 ∷ 16 ∷ 0 ∷ 0 ∷ []), answer 41 0 0 0)
    ∷ (amend_value least_block none_stands (2 ∷ 16 ∷ 0 ∷ 0 ∷ []), answer 41 0 0 0)
    -- word 0, the prologue's last, one past the record
    ∷ (amend_value least_block none_stands (1 ∷ 0 ∷ 0 ∷ 0 ∷ []), answer 42 0 0 0)
    ∷ (amend_value least_block none_stands (1 ∷ 16 ∷ 0 ∷ 0 ∷ []), answer 42 0 0 0)
    ∷ (amend_value least_block none_stands (1 ∷ 17 ∷ 0 ∷ 0 ∷ []), answer 42 0 0 0)
    -- a 2-D code, a 1-D code, a word of a Catalogue, a free word of a Header
    ∷ (amend_value (block_from (data_of (16 ∷ 0 ∷ 1 ∷ 0 ∷ 7 ∷ []))) none_stands (1 ∷ 17 ∷ 7 ∷ 0 ∷ []), answer 42 0 0 0)
    ∷ (amend_value (block_from value_record) none_stands (1 ∷ 17 ∷ 7 ∷ 0 ∷ []), answer 42 0 0 0)
    ∷ (amend_value (block_from (cards_of 2001 [])) none_stands (1 ∷ 40 ∷ 0 ∷ 0 ∷ []), answer 42 0 0 0)
    ∷ (amend_value (block_from (cards_of 3002 [])) none_stands (1 ∷ 15 ∷ 0 ∷ 0 ∷ []), answer 42 0 0 0)
    -- "the word found, 0 to 65,535": of 1-D values, and a 2-D one
    ∷ (amend_value (block_from value_record) none_stands (1 ∷ 18 ∷ 901 ∷ 900 ∷ []), answer 43 900 0 0)
    ∷ (amend_value (word_put 1 18 0xFFFF (block_from value_record)) none_stands (1 ∷ 18 ∷ 1 ∷ 1 ∷ []), answer 43 65535 0 0)
    ∷ (amend_value (block_from (data_of (16 ∷ 0 ∷ 1 ∷ 1 ∷ 7 ∷ 900 ∷ []))) none_stands (1 ∷ 18 ∷ 7 ∷ 0 ∷ []), answer 43 900 0 0)
    ∷ []

-- "undo the last amendment"
unfoldable pub undo_trials : List Trial
unfolding word_put turned
undo_trials =
    (undo_last least_block [], answer 40 0 0 0)
    ∷ (undo_last least_block none_stands, answer 45 0 0 0)
    -- no value place: a word of the prologue, a code; no record
    ∷ (undo_last least_block (one_stands (1 ∷ 16 ∷ 0 ∷ 0 ∷ [])), answer 46 0 0 0)
    ∷ (undo_last (block_from value_record) (one_stands (1 ∷ 17 ∷ 0 ∷ 7 ∷ [])), answer 46 0 0 0)
    ∷ (undo_last least_block (one_stands (2 ∷ 16 ∷ 0 ∷ 0 ∷ [])), answer 46 0 0 0)
    ∷ (undo_last least_block (one_stands (0 ∷ 0 ∷ 0 ∷ 0 ∷ [])), answer 46 0 0 0)
    -- the old value stands there, not the new
    ∷ (undo_last (block_from value_record) (one_stands (1 ∷ 18 ∷ 900 ∷ 905 ∷ [])), answer 46 0 0 0)
    ∷ []

-- the block of a Data record of n words, all of them its prologue's
abbrev pub prologue_block : ℕ → List ℕ
prologue_block n = block_from (data_of (n ∷ 0 ∷ 0 ∷ 0 ∷ replicate (n - 16) 0))

-- the most bytes: four blocks of 8,000 words
abbrev pub full_slice : List ℕ
full_slice = let full = prologue_block 7998 in full ++ full ++ full ++ full

-- slices that are refused: the block stands first in it, or behind a good one
unfoldable pub bad_slices : List (List ℕ × Answer)
unfolding bytes_of
bad_slices =
    -- "slice over 64,000 bytes", also where one byte is left behind the blocks, which would be 51; one of 64,000 is asked for its first word
    (replicate 64001 0, answer 52 0 0 0)
    ∷ (full_slice ++ (0 ∷ []), answer 52 0 0 0)
    ∷ (replicate 64000 0, answer 1 0 0 0)
    -- "only one byte is left"
    ∷ (0 ∷ [], answer 51 1 0 0)
    ∷ (least_block ++ (0 ∷ []), answer 51 2 0 0)
    -- "the block runs past the slice": a byte, a word, and all but the first word of the least and of the longest
    ∷ (take 35 least_block, answer 51 1 0 0)
    ∷ (take 34 least_block, answer 51 1 0 0)
    ∷ (bytes_of (18 ∷ []), answer 51 1 0 0)
    ∷ (bytes_of (8000 ∷ []), answer 51 1 0 0)
    ∷ (least_block ++ take 35 least_block, answer 51 2 0 0)
    -- "a first word under 18 or over 8,000"; all but the block of 0 words run past the slice too
    ∷ (bytes_of (0 ∷ []), answer 1 0 0 0)
    ∷ (bytes_of (17 ∷ []), answer 1 0 0 0)
    ∷ (bytes_of (8001 ∷ []), answer 1 0 0 0)
    ∷ (bytes_of (0xFFFF ∷ []), answer 1 0 0 0)
    ∷ (least_block ++ bytes_of (17 ∷ []), answer 1 0 0 0)
    ∷ (least_block ++ bytes_of (8001 ∷ []), answer 1 0 0 0)
    ∷ []

-- "it takes blocks one after the other ... and writes blocks again"
unfoldable pub repack_trials : List Trial
unfolding bad_slices stated_blocks
repack_trials =
    -- "the block's own refusals, which keep their numbers", from 3 on: its size is what its first word states, so its own 1 and 2 cannot be
    lent_to (λ s. repack_blocks s 0) (bad_slices ++ stated_blocks)
    ++ lent_to (λ b. repack_blocks (least_block ++ b) 0) stated_blocks
    -- "output too short": a byte short of 18 words; of 34, since the records of both blocks go into one
    ++ ((repack_blocks least_block 35, answer 50 36 0 0)
    ∷ (repack_blocks (least_block ++ least_block) 67, answer 50 68 0 0)
    ∷ (repack_blocks (least_block ++ least_block) 68, answer 0 68 0 0)
    -- "An empty slice gives no blocks"; "up to 64,000 bytes"
    ∷ (repack_blocks [] 0, answer 0 0 0 0)
    ∷ (repack_blocks full_slice 64000, answer 0 64000 0 0)
    -- "into the current block if it fits, else into a new one": 16 and 7,982 words, in either order, make one of 8,000, and 16 and 7,983 stay two
    ∷ (repack_blocks (least_block ++ prologue_block 7982) 16000, answer 0 16000 0 0)
    ∷ (repack_blocks (prologue_block 7982 ++ least_block) 16000, answer 0 16000 0 0)
    ∷ (repack_blocks (least_block ++ prologue_block 7983) 16006, answer 0 16006 0 0)
    ∷ [])

-- each of them is answered so
abbrev pub EveryRefusal : Type 0
EveryRefusal = AnsweredSo block_trials × AnsweredSo text_trials × AnsweredSo room_trials × AnsweredSo sheet_trials × AnsweredSo amend_trials × AnsweredSo undo_trials × AnsweredSo repack_trials
