-- Document 01, "Answer numbers": "A refusal is given exactly when its row holds and none before it in the order does; otherwise the call succeeds."
-- For each order an input that passes, and changes of it in the paper's order, each of which makes a row hold. Of each two that are made the
-- first is told, and where it is mended the other. Where the first takes away what the later row is asked of, only the first holds of the two:
-- 5 with 7 to 9, 23 with the rows behind it on the line (the kind says what is asked), 7 or 8 with 9 (other kinds);
-- 4 with 8, with a Header's 7, with 9's words 16 and 1 (these words are lacking), 25 with a row of the line that is lacking;
-- 6, and 9 at word 1, with the rows of the next record (where it begins is not known); 22 of a count with 28 and 24, and it, 23 and 27 with 22, 25 and 26 of
-- later lines (what is asked of them is not known); 28 of Data with 26 of the next line (a field stands there);
-- 21 with 22 to 28 (a line that is not blank begins a record), 45 with 46 (no entry is the last), 29 or 50 with a row before it (what is needed is not known);
-- in a slice of blocks 1 and 51 with the block's own and with the blocks behind it (where it ends is not known, or it is not all there), 51 of one byte left with 1 (no first word).
use Rattle.std.specs.Prelude.{ℕ, ◌+◌, ◌-◌, ◌<◌, ◌≡◌, List, [], ◌∷◌, ◌++◌, map, length, get_or, set, take, drop}
use Rattle.units.specs.declared.Answer.{Answer}
use Rattle.units.specs.Answers.{answer}
use Rattle.units.specs.Units.{Line}
use Rattle.words.specs.Words.{joined, block_from}
use Rattle.field.specs.Writing.{blanks}
use Rattle.write_parts.specs.Laid.{fields_of, ended}
use Rattle.report.specs.Text.{text}
use Rattle.sheet.specs.Sheets.{Entry}
use Rattle.refusals.specs.Questions.{Question, judge_block, block_to_lines, judge_text, block_of_text, amend_value, undo_last, repack_blocks, answer_to, Trial, AnsweredSo, cards_of, least_record, value_record, blank_card, in_place, turned, word_put, cut_to, data_line, cards_line, free_fields, none_stands, one_stands, all_stand}

-- a change of what is lent, and what is told when it alone is made
abbrev pub Change : Type 0 → Type 0
Change A = (A → A) × Answer

-- a change with each of those behind it in the order: it is told
abbrev pub with_each : {A : Type 0} → (A → Question) → A → Change A → List (Change A) → List Trial
with_each given good f gs = map (λ g. (given (f.0 (g.0 good)), f.1)) gs

-- each change alone, and each two of them
unfoldable pub every_two : {A : Type 0} → (A → Question) → A → List (Change A) → List Trial
every_two given good [] = []
every_two given good (f ∷ fs) = (given (f.0 good), f.1) ∷ (with_each given good f fs ++ every_two given good fs)

-- nothing is changed: "otherwise the call succeeds"
abbrev pub none : {A : Type 0} → A → A
none a = a

-- ---- "Order for a block: 1, 2, 3, then each record: 4, 5, 6, 7, 8, 9"

-- one byte more; word 1 is 0
unfoldable pub size_order : List (Change (List ℕ))
unfolding word_put turned
size_order = (λ b. b ++ (0 ∷ []), answer 1 0 0 0) ∷ (word_put 0 1 0, answer 2 0 0 0) ∷ []

-- two bits of the checksum
unfoldable pub checksum_order : List (Change (List ℕ))
unfolding turned
checksum_order = (turned 3, answer 3 0 0 2) ∷ []

-- "1, 2, 3"
unfoldable pub frame_order : List (Change (List ℕ))
unfolding size_order checksum_order
frame_order = size_order ++ checksum_order

-- two Data records; the second begins behind 17 words, and 4 leaves it 15
unfoldable pub two_data_order : List (Change (List ℕ))
unfolding word_put turned cut_to
two_data_order =
    (word_put 1 2 0, answer 5 1 2 0)
    ∷ (word_put 1 1 15, answer 6 1 1 0)
    ∷ (word_put 1 13 15, answer 9 1 13 0)
    ∷ (word_put 1 14 0xFFFF, answer 9 1 14 0)
    ∷ (word_put 1 15 0xFFFF, answer 9 1 15 0)
    ∷ (word_put 1 16 0xFFFF, answer 9 1 16 0)
    ∷ (word_put 1 1 17, answer 9 1 1 0)
    ∷ (cut_to 31, answer 4 2 1 0)
    ∷ (word_put 17 2 0, answer 5 2 2 0)
    ∷ (word_put 17 1 17, answer 6 2 1 0)
    ∷ (word_put 17 13 15, answer 9 2 13 0)
    ∷ (word_put 17 14 0xFFFF, answer 9 2 14 0)
    ∷ (word_put 17 15 0xFFFF, answer 9 2 15 0)
    ∷ (none, answer 0 2 0 0)
    ∷ []

-- a Catalogue as the second record, with word 13 among the 15 that 4 leaves it
unfoldable pub short_catalogue_order : List (Change (List ℕ))
unfolding word_put turned cut_to
short_catalogue_order =
    (cut_to 31, answer 4 2 1 0)
    ∷ (word_put 17 2 0, answer 5 2 2 0)
    ∷ (word_put 17 1 39, answer 6 2 1 0)
    ∷ (word_put 17 13 1, answer 7 2 13 0)
    ∷ (none, answer 0 2 0 0)
    ∷ []

-- a Catalogue or a Header with a card, where word z is the first that must be zero; "first such word", "word of the first such byte"
unfoldable pub cards_order : ℕ → List (Change (List ℕ))
unfolding word_put turned
cards_order z =
    (word_put 1 2 0, answer 5 1 2 0)
    ∷ (word_put 1 1 79, answer 6 1 1 0)
    ∷ (word_put 1 z 1, answer 7 1 z 0)
    ∷ (word_put 1 40 1, answer 7 1 40 0)
    ∷ (word_put 1 41 0x201F, answer 8 1 41 0)
    ∷ (word_put 1 80 0x7F20, answer 8 1 80 0)
    ∷ (none, answer 0 1 0 0)
    ∷ []

-- of two Data records, of a Catalogue behind one, of a Catalogue with a card, of a Header with one, whose word 15 is free
unfoldable pub block_orders : List Trial
unfolding frame_order two_data_order short_catalogue_order cards_order every_two
block_orders =
    every_two judge_block (block_from (least_record ++ least_record)) (frame_order ++ two_data_order)
    ++ every_two judge_block (block_from (least_record ++ cards_of 2001 [])) (frame_order ++ short_catalogue_order)
    ++ every_two judge_block (block_from (cards_of 2001 blank_card)) (frame_order ++ cards_order 13)
    ++ every_two judge_block (block_from (in_place 15 1 (cards_of 3002 blank_card))) (frame_order ++ cards_order 16)

-- ---- conversions

-- what a conversion is lent: a block or the lines of a text, and how many bytes its output has
pub record Conversion (A : Type 0) : Type 0 where
  pub input : A
  pub room : ℕ

-- another input
abbrev pub in_input : {A : Type 0} → (A → A) → Conversion A → Conversion A
in_input f c = record { input = f c.input; room = c.room }

-- an output of no bytes
abbrev pub no_room : {A : Type 0} → Conversion A → Conversion A
no_room c = record { input = c.input; room = 0 }

-- changes of a part of what is lent
abbrev pub in_part : {A B : Type 0} → ((A → A) → B → B) → List (Change A) → List (Change B)
in_part into fs = map (λ f. (into f.0, f.1)) fs

-- "At the end ... 29", with the bytes needed
abbrev pub room_order : {A : Type 0} → ℕ → List (Change (Conversion A))
room_order bytes = (no_room, answer 29 bytes 0 0) ∷ (none, answer 0 bytes 0 0) ∷ []

-- a Data record of 18 words with a value; a Catalogue with a card, behind 19 words; a Data record, behind 99
abbrev pub three_records : List ℕ
three_records = block_from (value_record ++ cards_of 2001 blank_card ++ least_record)

-- of these: each number from 3 on once, record after record
unfoldable pub own_order : List (Change (List ℕ))
unfolding word_put turned cut_to checksum_order
own_order =
    checksum_order
    ++ ((word_put 1 2 0, answer 5 1 2 0)
    ∷ (word_put 1 1 15, answer 6 1 1 0)
    ∷ (word_put 1 13 15, answer 9 1 13 0)
    ∷ (word_put 19 13 1, answer 7 2 13 0)
    ∷ (word_put 19 41 0x201F, answer 8 2 41 0)
    ∷ (cut_to 113, answer 4 3 1 0)
    ∷ [])

-- and each number of a block
unfoldable pub records_order : List (Change (List ℕ))
unfolding size_order own_order
records_order = size_order ++ own_order

-- "To lines: the block, then 29"; their lines have 111, 202 and 97 bytes
unfoldable pub lines_orders : List Trial
unfolding records_order every_two
lines_orders =
    every_two (λ c. block_to_lines c.input c.room) (record { input = three_records; room = 410 })
    (in_part in_input records_order ++ room_order 410)

-- ---- "Order for text: 30, then line by line"

-- these bytes on line n from column k on
unfoldable pub on_line : ℕ → ℕ → List ℕ → List Line → List Line
on_line n k bytes ls =
    let l = get_or ls (n - 1) [] in
    set ls (n - 1) (take (k - 1) (l ++ blanks (k - 1)) ++ bytes ++ drop (k - 1 + length bytes) l)

-- a Data record of three lines: "20; fields 1 to 12; 23; ... (Data: 13 to 16); Data: 27, fields 17 on, then blank columns by 26"; then 28, 24, and each later line
unfoldable pub data_lines_order : List (Change (List Line))
unfolding on_line
data_lines_order =
    (on_line 1 104 (127 ∷ []), answer 20 1 104 0)
    ∷ (on_line 1 67 (text "     x"), answer 22 1 67 0)
    ∷ (on_line 1 7 (text "  1002"), answer 23 1 7 0)
    ∷ (on_line 1 91 (text "     x"), answer 22 1 91 0)
    ∷ (on_line 1 85 (text "    -1"), answer 27 1 85 0)
    ∷ (on_line 1 97 (text "     x"), answer 22 1 97 0)
    ∷ (on_line 1 103 (text "0"), answer 26 1 103 0)
    ∷ (on_line 1 79 (text "  4000"), answer 28 1 1 0)
    ∷ (on_line 1 1 (text "     2"), answer 24 1 1 0)
    ∷ (on_line 2 8 (127 ∷ []), answer 20 2 8 0)
    ∷ (on_line 2 1 (text "     x"), answer 22 2 1 0)
    ∷ (on_line 2 7 (text "0"), answer 26 2 7 0)
    ∷ (take 2, answer 25 3 1 0)
    ∷ []

-- "22 or 26 from left to right": two fields on line 2, the first at column k
unfoldable pub left_to_right : ℕ → List (Change (List Line))
unfolding on_line
left_to_right k =
    (on_line 2 k (text "     x"), answer 22 2 k 0)
    ∷ (on_line 2 (k + 6) (text "     1"), answer 26 2 (k + 6) 0)
    ∷ []

-- "After that Catalogue and Header give 24, then 28": on line 2, behind a Catalogue of one line, with these changes of its further fields
unfoldable pub first_line_order : List (Change (List Line)) → List (Change (List Line))
unfolding on_line
first_line_order further =
    (on_line 2 109 (127 ∷ []), answer 20 2 109 0)
    ∷ (on_line 2 67 (text "     x"), answer 22 2 67 0)
    ∷ (on_line 2 7 (text "  2001"), answer 23 2 7 0)
    ∷ (further ++ ((on_line 2 1 (text "   200"), answer 24 2 1 0) ∷ (on_line 2 1 (text "   199"), answer 28 2 1 0) ∷ []))

-- cards, on lines 3 and 4
unfoldable pub card_lines_order : List (Change (List Line))
unfolding on_line
card_lines_order = (on_line 3 82 (127 ∷ []), answer 20 3 82 0) ∷ (on_line 3 81 (text "0"), answer 26 3 81 0) ∷ (take 3, answer 25 4 1 0) ∷ []

-- a bad byte on a blank line; no record behind it: "At the end 21"
unfoldable pub blank_lines_order : List (Change (List Line))
unfolding on_line
blank_lines_order = (on_line 1 2 (9 ∷ []), answer 20 1 2 0) ∷ (take 1, answer 21 0 0 0) ∷ []

-- of a text of these lines, which makes a block of so many bytes: "At the end 21, then 29"
abbrev pub text_order : List Line → ℕ → List (Change (List Line)) → List Trial
text_order lines bytes changes =
    every_two (λ c. block_of_text (ended c.input) c.room) (record { input = lines; room = bytes })
    (in_part in_input changes ++ room_order bytes)

-- of a Data record; of a Catalogue, whose fields 13 to 20 must be zero; of a Header, whose fields 16 to 20 must; of a Data record behind a blank line
unfoldable pub text_orders : List Trial
unfolding data_lines_order left_to_right first_line_order card_lines_order blank_lines_order every_two
text_orders =
    text_order (data_line 3 (17 ∷ 1 ∷ 0 ∷ 0 ∷ 0 ∷ []) ∷ fields_of (7 ∷ []) ∷ fields_of (900 ∷ []) ∷ []) 42 data_lines_order
    ++ text_order (cards_line 1 2101 ∷ cards_line 3 2101 ∷ [] ∷ [] ∷ []) 324 (first_line_order (left_to_right 73 ++ left_to_right 85) ++ card_lines_order)
    ++ text_order (cards_line 1 2101 ∷ (cards_line 3 3101 ++ free_fields) ∷ [] ∷ [] ∷ []) 324 (first_line_order (left_to_right 85 ++ left_to_right 97) ++ card_lines_order)
    ++ text_order ([] ∷ data_line 1 (16 ∷ 0 ∷ 0 ∷ 0 ∷ []) ∷ []) 36 blank_lines_order

-- "30, then line by line": whatever else is wrong in a text that is too long
abbrev pub LongFirst : Type 0
LongFirst =
    (lines : List ℕ) (room : ℕ) → 65536 < length lines →
    (answer_to (judge_text lines) ≡ answer 30 0 0 0) × (answer_to (block_of_text lines room) ≡ answer 30 0 0 0)

-- ---- "Amend: block, 40, 44, 41, 42, 43. Undo: block, 40, 45, 46"

-- what amend is lent: a block, its sheet and the four numbers; undo takes none
pub record BlockSheet : Type 0 where
  pub block : List ℕ
  pub sheet : List ℕ
  pub entry : Entry

-- another block, another sheet, other numbers
abbrev pub in_block : (List ℕ → List ℕ) → BlockSheet → BlockSheet
in_block f a = record { block = f a.block; sheet = a.sheet; entry = a.entry }

abbrev pub in_sheet : (List ℕ → List ℕ) → BlockSheet → BlockSheet
in_sheet f a = record { block = a.block; sheet = f a.sheet; entry = a.entry }

abbrev pub in_entry : (List ℕ → List ℕ) → BlockSheet → BlockSheet
in_entry f a = record { block = a.block; sheet = a.sheet; entry = f a.entry }

-- 900 to 905 in word 18 of record 1. The sheet's zero byte is 1; 64 stand; there is no record 4; word 17 is a code; 901 is not what stands there
unfoldable pub amend_orders : List Trial
unfolding records_order every_two
amend_orders =
    every_two (λ a. amend_value a.block a.sheet a.entry) (record { block = three_records; sheet = none_stands; entry = 1 ∷ 18 ∷ 900 ∷ 905 ∷ [] })
    (in_part in_block records_order
    ++ ((in_sheet (in_place 8 1), answer 40 0 0 0)
    ∷ (in_sheet (λ _. all_stand), answer 44 0 0 0)
    ∷ (in_entry (in_place 1 4), answer 41 0 0 0)
    ∷ (in_entry (in_place 2 17), answer 42 0 0 0)
    ∷ (in_entry (in_place 3 901), answer 43 900 0 0)
    ∷ (none, answer 0 1 0 0)
    ∷ []))

-- 899 was made 900 there. The sheet's zero byte is 1; none stands; 901 stands in the block
unfoldable pub undo_orders : List Trial
unfolding records_order every_two word_put turned
undo_orders =
    every_two (λ a. undo_last a.block a.sheet) (record { block = three_records; sheet = one_stands (1 ∷ 18 ∷ 899 ∷ 900 ∷ []); entry = [] })
    (in_part in_block records_order
    ++ ((in_sheet (in_place 8 1), answer 40 0 0 0)
    ∷ (in_sheet (λ _. none_stands), answer 45 0 0 0)
    ∷ (in_block (word_put 1 18 901), answer 46 0 0 0)
    ∷ (none, answer 0 0 0 0)
    ∷ []))

-- ---- document 02, request 1: "52 ... first of all; then block by block 51 ... before the block's own refusals ...; a first word ... is 1, before 51; 50 ... last of all"

-- another block n
abbrev pub in_nth : ℕ → (List ℕ → List ℕ) → List (List ℕ) → List (List ℕ)
in_nth n f blocks = set blocks (n - 1) (f (get_or blocks (n - 1) []))

-- the slice ends behind the first k bytes of block n
abbrev pub ends_in : ℕ → ℕ → List (List ℕ) → List (List ℕ)
ends_in n k blocks = take (n - 1) blocks ++ (take k (get_or blocks (n - 1) []) ∷ [])

-- where block n begins: "only one byte is left"; the first word is 17; 32 bytes are left, and 17 words would have 34
unfoldable pub start_order : ℕ → List (Change (List (List ℕ)))
unfolding word_put turned
start_order n = (ends_in n 1, answer 51 n 0 0) ∷ (in_nth n (word_put 0 1 17), answer 1 0 0 0) ∷ (ends_in n 32, answer 51 n 0 0) ∷ []

-- "the block's own refusals, which keep their numbers"
abbrev pub own_of : ℕ → List (Change (List (List ℕ)))
own_of n = in_part (in_nth n) own_order

-- of two blocks, whose records go into one of 230 words
unfoldable pub repack_orders : List Trial
unfolding start_order own_order every_two
repack_orders =
    every_two (λ c. repack_blocks (joined c.input) c.room) (record { input = three_records ∷ three_records ∷ []; room = 460 })
    (in_part in_input (start_order 1 ++ own_of 1 ++ start_order 2 ++ own_of 2)
    ++ ((no_room, answer 50 460 0 0) ∷ (none, answer 0 460 0 0) ∷ []))

-- "52 ... first of all": whatever else is wrong in a slice that is too long
abbrev pub LongSliceFirst : Type 0
LongSliceFirst = (slice : List ℕ) (room : ℕ) → 64000 < length slice → answer_to (repack_blocks slice room) ≡ answer 52 0 0 0

-- each order is kept
abbrev pub EveryOrder : Type 0
EveryOrder = AnsweredSo block_orders × AnsweredSo lines_orders × AnsweredSo text_orders × AnsweredSo amend_orders × AnsweredSo undo_orders × AnsweredSo repack_orders
