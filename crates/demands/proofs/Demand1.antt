-- Demand 1 holds.
use mathlib.Core.Path.{◌≡◌, refl, ap, sym, ◌∙◌}
use mathlib.Core.Logic.{◌⊎◌, inl, inr}
use mathlib.Core.Bool.{Bool, true, false, ◌&&◌, not}
use mathlib.Core.List.{List, [], ◌∷◌}
use Prim.Native.Nat.{ℕ, ◌-◌, ◌^◌, ◌≤◌, ◌<◌}
use native.Mathlib.Omega.{arith}
use borrow.Author.Tests.{ltb-true, leb-false}
use lib.Dec.{ltb, eqb, leb}
use lib.ListN.{length, length-append, length-take}
use Rattle.std.specs.Prelude.{if◌then◌else◌}
use Rattle.units.specs.Answers.{answer, Verdict, passed, refused, onward, answered, taken_apart, Packs}
use Rattle.units.proofs.Packing.{taken_apart_lem}
use Rattle.units.proofs.Verdicts.{and_on, never_passed}
use Rattle.words.specs.Words.{All, Below}
use Rattle.words.specs.Outcomes.{Written, written, leaves}
use Rattle.words.proofs.Writing.{written_either}
use Rattle.block.specs.Cases.{BlockRow}
use Rattle.block.specs.Judging.{judged}
use Rattle.block.specs.Records.{records_of}
use Rattle.write_lines.specs.Text.{text_of, to_lines}
use Rattle.write_lines.proofs.Outcome.{outcome_told}
use Rattle.block.proofs.Known.{KnownBlock, judged_known}
use Rattle.prefix.specs.declared.Letters.{Letters}
use Rattle.prefix.specs.LookUp.{beside}
use Rattle.prefix.specs.Table.{table, dashes, prefix_of, answer_of}
use Rattle.cedar.specs.Calls.{returned, converted, returned_both, amended_both}
use Rattle.read_records.specs.Cases.{TextRow}
use Rattle.read_text.specs.Block.{block_in, judge_lines, write_block}
use Rattle.read_text.proofs.Known.{size_known, answer_told}
use Rattle.demands.specs.Demand1.{Unpacks, Judgement, JudgeAnswers, PrefixAnswers, LinesAnswers, JudgeLinesAnswers, BlockAnswers, RepackAnswers, Writes, SheetRow, OpenAnswers, StartAnswers, BothAnswer, AmendRow, AmendAnswers, UndoRow, UndoAnswers, CedarJudgeTells, CedarPrefixTells, TellsWritten, CedarLinesTell, CedarJudgeLinesTells, CedarBlockTells, CedarStartTells, CedarRepackTells, TellsBoth, CedarAmendTells, CedarUndoTells}
use Rattle.units.specs.declared.Answer.{Answer}
use Rattle.units.proofs.Choosing.{by_test, both_ways}
use Rattle.words.proofs.Laws.{get_or_below}
use Rattle.words.proofs.Lists.{all_get_d, all_map}
use Rattle.record.specs.Rules.{RecordOk}
use Rattle.block.proofs.Exact.{only_good}
use Rattle.sheet.specs.Sheets.{Entry, version1, sheet_bytes, sheet_of, entries_of, broken, count_in, opened, started}
use Rattle.sheet.proofs.Sheets.{sheet_opened}
use Rattle.block_value.specs.Places.{record_number, word_number, old_value, record_in, no_record, no_value, found, stands}
use Rattle.amending.specs.Amending.{Outcome, Both, both, amendable, undoable, last_of, leaving, on_both, amend, undo}
use Rattle.units.proofs.Told.{Known}
use Rattle.block_slice.specs.Blocks.{blocks_in, records_in}
use Rattle.packing.specs.Packing.{repacked}
use Rattle.repacking.specs.Repacking.{repack}
use Rattle.repacking.proofs.Known.{repack_told}

-- ---- the calls on a block, on a text, and the prefix call

pub judge_answers : JudgeAnswers
judge_answers block bytes = by (judged block) (judged_known block bytes)
  where
    by : (v : Verdict ℕ) → KnownBlock v → Judgement BlockRow v
    by (passed k) h = taken_apart_lem (answer 0 k 0 0) (omega arith)
    by (refused r) h = (h.listed, taken_apart_lem r h.packs)

-- three letters are bytes, of each row and so of each code
bytes : Letters → Bool
bytes l = ltb l.0 256 && (ltb l.1 256 && ltb l.2 256)

each : List (ℕ × Letters) → Bool
each [] = true
each (row ∷ rows) = bytes row.1 && each rows

beside_bytes : (rows : List (ℕ × Letters)) (code : ℕ) (other : Letters) → each rows ≡ true → bytes other ≡ true → bytes (beside rows code other) ≡ true
unfolding each beside
beside_bytes [] code other e o = o
beside_bytes (row ∷ rows) code other e o =
    let a = and_on (bytes row.1) (each rows) e in
    by (eqb row.0 code) a.0 (beside_bytes rows code other a.1 o)
  where
    by : (t : Bool) → bytes row.1 ≡ true → bytes (beside rows code other) ≡ true → bytes (if t then row.1 else beside rows code other) ≡ true
    by true p q = p
    by false p q = q

letters_pack : (l : Letters) → bytes l ≡ true → Packs (answer 0 l.0 l.1 l.2)
unfolding bytes
letters_pack l e =
    let a = and_on (ltb l.0 256) _ e in
    let b = and_on (ltb l.1 256) _ a.1 in
    omega (arith, ltb-true l.0 256 a.0, ltb-true l.1 256 b.0, ltb-true l.2 256 b.1)

table_bytes : each table ≡ true
unfolding each bytes table
table_bytes = refl

dashes_bytes : bytes dashes ≡ true
unfolding bytes
dashes_bytes = refl

pub prefix_answers : PrefixAnswers
prefix_answers instrument =
    (refl, taken_apart_lem (answer_of (prefix_of instrument)) (letters_pack (prefix_of instrument) (beside_bytes table instrument dashes table_bytes dashes_bytes)))

-- what is not a success leaves the output
kept : (n : ℕ) (out : List ℕ) (v : Verdict (List ℕ)) → ((written n out v).answer.n ≡ 0 → ⊥) → (written n out v).out ≡ out
unfolding written
kept n out (refused r) h = refl
kept n out (passed bytes) h = by (written_either n out bytes) h
  where
    by : {w : Written} {all : List ℕ} → (w ≡ leaves (answer n (length bytes) 0 0) out) ⊎ (w ≡ leaves (answer 0 (length bytes) 0 0) all) → (w.answer.n ≡ 0 → ⊥) → w.out ≡ out
    by (inl e) h = ap (λ x. x.out) e
    by (inr e) h = absurd (h (ap (λ x. x.answer.n) e))

pub lines_answers : LinesAnswers
unfolding to_lines
lines_answers block text bytes =
    let t = outcome_told block text bytes in
    ((t.0, taken_apart_lem (to_lines block text).answer t.1), kept 29 text (onward (judged block) (λ _. passed (text_of (records_of block)))))

pub repack_answers : RepackAnswers
unfolding repack
repack_answers slice out bytes =
    let t = repack_told slice out bytes in
    ((t.0, taken_apart_lem (repack slice out).answer t.1), kept 50 out (onward (blocks_in slice) (λ blocks. passed (repacked (records_in blocks)))))

pub judge_lines_answers : JudgeLinesAnswers
judge_lines_answers text = by (judge_lines text) (size_known text)
  where
    by : (v : Verdict ℕ) → Known TextRow (λ size. size ≤ 16000) v → Judgement TextRow v
    by (passed size) h = taken_apart_lem (answer 0 size 0 0) (omega (arith, h))
    by (refused r) h = (h.listed, taken_apart_lem r h.packs)

pub block_answers : BlockAnswers
unfolding write_block
block_answers text block =
    let t = answer_told text block in
    ((t.listed, taken_apart_lem (write_block text block).answer t.packs), kept 29 block (block_in text))

-- ---- the calls on a sheet, and on a block and its sheet: rows 40 to 46

pub start_answers : StartAnswers
unfolding started
start_answers sheet =
    both_ways (Writes SheetRow sheet)
    (eqb (length sheet) (sheet_bytes version1)) (leaves (answer 0 0 0 0) (sheet_of version1 [])) (leaves (answer 40 0 0 0) sheet)
    ((inl refl, taken_apart_lem (answer 0 0 0 0) (omega arith)), λ h. absurd (h refl))
    ((inr refl, taken_apart_lem (answer 40 0 0 0) (omega arith)), λ h. refl)

-- a sheet is refused with 40 only
opened_refused : (sheet : List ℕ) (r : Answer) → opened version1 sheet ≡ refused r → r ≡ answer 40 0 0 0
unfolding opened
opened_refused sheet r =
    both_ways (λ v. v ≡ refused r → r ≡ answer 40 0 0 0) (broken version1 sheet) (refused (answer 40 0 0 0)) (passed (count_in sheet))
    (λ q. cc) (λ q. absurd (never_passed (sym q)))

pub open_answers : OpenAnswers
open_answers sheet bytes = by (opened version1 sheet) refl
  where
    by : (v : Verdict ℕ) → opened version1 sheet ≡ v → Judgement SheetRow v
    by (passed n) e = let s = sheet_opened version1 sheet n bytes e in taken_apart_lem (answer 0 n 0 0) (omega (arith, s.0.most, s.1))
    by (refused r) e = rw (opened_refused sheet r e) (refl, taken_apart_lem (answer 40 0 0 0) (omega arith))

-- a refusal that the paper lists, or no more entries than a sheet has room for
module _ (Own : ℕ → Type 0) where
  record Listed (r : Answer) : Type 0 where
    listed : BlockRow r.n ⊎ Own r.n
    packs : Packs r

  abbrev Fine : Verdict Both → Type 0
  Fine (passed t) = length t.entries ≤ 64
  Fine (refused r) = Listed r

  row : (n a : ℕ) → Own n → n ≤ 46 → a < 2 ^ 16 → Fine (refused (answer n a 0 0))
  row n a h k l = record { listed = inr h; packs = omega arith }

  both-answer : (block sheet : List ℕ) (v : Verdict Both) → Fine v → BothAnswer Own block sheet (leaving version1 block sheet v)
  both-answer block sheet (refused r) h = ((inr h.listed, taken_apart_lem r h.packs), λ _. (refl, refl))
  both-answer block sheet (passed t) h = ((inl refl, taken_apart_lem _ (omega arith)), λ n. absurd (n refl))

-- ---- each call

-- "block, 40", and then what the call does
on_both_lem : (Own : ℕ → Type 0) → Own 40 → (does : Both → Verdict Both) → ((rs : List (List ℕ)) (es : List Entry) → All RecordOk rs → length es ≤ 64 → Fine Own (does (both rs es)))
    → (block sheet : List ℕ) → Below 256 block → Below 256 sheet → BothAnswer Own block sheet (on_both version1 does block sheet)
unfolding on_both
on_both_lem Own forty does fine block sheet bytes entries =
    both-answer Own block sheet (onward (judged block) (λ _. onward (opened version1 sheet) (λ _. on))) (judges (judged block) refl (judged_known block bytes))
  where
    on : Verdict Both
    on = does (both (records_of block) (entries_of version1 sheet))

    opens : (k : ℕ) → judged block ≡ passed k → (o : Verdict ℕ) → opened version1 sheet ≡ o → Fine Own (onward o (λ _. on))
    opens k e (passed n) f =
        let s = (sheet_opened version1 sheet n entries f).0 in fine (records_of block) (entries_of version1 sheet) (only_good block k bytes e).0.each s.most
    opens k e (refused r) f = rw (opened_refused sheet r f) (row Own 40 0 forty (omega arith) (omega arith))

    judges : (v : Verdict ℕ) → judged block ≡ v → KnownBlock v → Fine Own (onward v (λ _. onward (opened version1 sheet) (λ _. on)))
    judges (passed k) e h = opens k e (opened version1 sheet) refl
    judges (refused r) e h = record { listed = inl h.listed; packs = h.packs }

-- what stands at any place of good records is a word
found_fits : (rs : List (List ℕ)) (e : Entry) → All RecordOk rs → found rs e < 65536
found_fits rs e good =
    get_or_below 65536 (record_in rs (record_number e)) (word_number e - 1) (omega arith)
    (all_get_d (Below 65536) rs (record_number e - 1) [] tt (all_map RecordOk (Below 65536) (λ r h. h.sized) rs good))

pub amend_answers : AmendAnswers
unfolding amendable
amend_answers e = on_both_lem AmendRow (omega arith, omega arith) (amendable version1 e) fine
  where
    refuses : (n a : ℕ) → 40 ≤ n → n ≤ 44 → a < 2 ^ 16 → Fine AmendRow (refused (answer n a 0 0))
    refuses n a h k l = row AmendRow n a (h, k) (omega arith) l

    fine : (rs : List (List ℕ)) (es : List Entry) → All RecordOk rs → length es ≤ 64 → Fine AmendRow (amendable version1 e (both rs es))
    fine rs es good most =
        by_test (Fine AmendRow) (leb 64 (length es)) _ _ (λ _. refuses 44 0 (omega arith) (omega arith) (omega arith)) λ room.
        both_ways (Fine AmendRow) (no_record rs (record_number e)) _ _ (refuses 41 0 (omega arith) (omega arith) (omega arith))
        (both_ways (Fine AmendRow) (no_value rs e) _ _ (refuses 42 0 (omega arith) (omega arith) (omega arith))
        (both_ways (Fine AmendRow) (not (eqb (old_value e) (found rs e))) _ _ (refuses 43 (found rs e) (omega arith) (omega arith) (found_fits rs e good))
        (omega (arith, leb-false 64 (length es) room, length-append es (e ∷ [])))))

pub undo_answers : UndoAnswers
unfolding undoable
undo_answers = on_both_lem UndoRow (inl refl) undoable fine
  where
    refuses : (n : ℕ) → 45 ≤ n → n ≤ 46 → Fine UndoRow (refused (answer n 0 0 0))
    refuses n h k = row UndoRow n 0 (inr (h, k)) k (omega arith)

    fine : (rs : List (List ℕ)) (es : List Entry) → All RecordOk rs → length es ≤ 64 → Fine UndoRow (undoable (both rs es))
    fine rs es good most =
        both_ways (Fine UndoRow) (eqb (length es) 0) _ _ (refuses 45 (omega arith) (omega arith))
        (both_ways (Fine UndoRow) (not (stands rs (last_of es))) _ _ (refuses 46 (omega arith) (omega arith)) (omega (arith, length-take (length es - 1) es)))

-- ---- the calls for C

judgement_unpacks : (Row : ℕ → Type 0) (v : Verdict ℕ) → Judgement Row v → Unpacks (answered v)
judgement_unpacks Row (passed a) h = h
judgement_unpacks Row (refused r) h = h.1

pub cedar_judge_tells : CedarJudgeTells
cedar_judge_tells block r bytes p = ap taken_apart p ∙ judgement_unpacks BlockRow (judged block) (judge_answers block bytes)

pub cedar_prefix_tells : CedarPrefixTells
cedar_prefix_tells instrument r p = ap taken_apart p ∙ (prefix_answers instrument).1

-- where the answer can be taken apart
tells_written : (w : Written) (r : ℕ) (after : List ℕ) → Unpacks w.answer → returned r after ≡ converted w → TellsWritten w r after
tells_written w r after u p = (ap (λ x. taken_apart x.number) p ∙ u, ap (λ x. x.out) p)

pub cedar_lines_tell : CedarLinesTell
cedar_lines_tell block text after r bytes = tells_written (to_lines block text) r after (lines_answers block text bytes).0.1

pub cedar_judge_lines_tells : CedarJudgeLinesTells
cedar_judge_lines_tells text r p = ap taken_apart p ∙ judgement_unpacks TextRow (judge_lines text) (judge_lines_answers text)

pub cedar_block_tells : CedarBlockTells
cedar_block_tells text block after r = tells_written (write_block text block) r after (block_answers text block).0.1

pub cedar_repack_tells : CedarRepackTells
cedar_repack_tells blocks out after r bytes = tells_written (repack blocks out) r after (repack_answers blocks out bytes).0.1

pub cedar_start_tells : CedarStartTells
cedar_start_tells sheet after r = tells_written (started version1 sheet) r after (start_answers sheet).0.1

tells_both : (o : Outcome) (r : ℕ) (b s : List ℕ) → Unpacks o.answer → returned_both r b s ≡ amended_both o → TellsBoth o r b s
tells_both o r b s u p = (ap (λ x. taken_apart x.number) p ∙ u, ap (λ x. x.block) p, ap (λ x. x.sheet) p)

pub cedar_amend_tells : CedarAmendTells
cedar_amend_tells e block sheet b s r bytes entries = tells_both (amend version1 e block sheet) r b s (amend_answers e block sheet bytes entries).0.1

pub cedar_undo_tells : CedarUndoTells
cedar_undo_tells block sheet b s r bytes entries = tells_both (undo version1 block sheet) r b s (undo_answers block sheet bytes entries).0.1
