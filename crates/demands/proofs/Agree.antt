-- The promises agree.
use mathlib.Core.Path.{◌≡◌, refl, sym, ap, ◌∙◌}
use mathlib.Core.Bool.{false}
use mathlib.Core.Logic.{◌⊎◌, inl, inr}
use mathlib.Core.List.{List, [], ◌∷◌}
use native.Mathlib.Omega.{arith}
use borrow.Author.Tests.{ne_eqb}
use Prim.Native.Nat.{ℕ, ◌≤◌}
use lib.Dec.{eqb}
use lib.ListN.{get_or}
use Rattle.std.specs.Prelude.{if◌then◌else◌, Result, Ok, Err}
use Rattle.units.specs.declared.Answer.{Answer}
use Rattle.units.specs.declared.Lines.{Lines}
use Rattle.units.specs.declared.Bytes.{Bytes}
use Rattle.units.specs.declared.Unwritten.{Unwritten}
use Rattle.units.specs.declared.Unwritten.TheVariants.{Refused, Short}
use Rattle.units.specs.Answers.{Verdict, passed, refused, answered}
use Rattle.words.specs.Outcomes.{Written, leaves}
use Rattle.write_lines.specs.Text.{to_lines}
use Rattle.read_text.specs.Block.{write_block}
use Rattle.sheet.specs.Sheets.{version1, started}
use Rattle.record.specs.declared.Fault.TheVariants.{Kind, Total, NotZero, Card, Counts}
use Rattle.record.specs.declared.Fault.TheVariants as fault
use Rattle.block.specs.declared.Refusal.{Refusal}
use Rattle.block.specs.declared.Refusal.TheVariants.{Size, WordCount, Checksum, Record}
use Rattle.block.specs.Cases.{BlockRow, refusal_of, judged_of}
use Rattle.write_lines.specs.Cases.{lined_of}
use Rattle.read_columns.specs.declared.Flaw.{Flaw}
use Rattle.read_columns.specs.declared.Flaw.TheVariants.{Byte, NoRecord, Field, Count, Ends, NotBlank, Range, Much, Long}
use Rattle.read_columns.specs.declared.Flaw.TheVariants as columns
use Rattle.read_columns.specs.Cases.{flaw_of}
use Rattle.read_text.specs.Cases.{built_of}
use Rattle.read_text.specs.Cases as looking
use Rattle.sheet.specs.declared.Broken.{Broken}
use Rattle.sheet.specs.Cases.{opened_of}
use Rattle.amending.specs.declared.Objection.{Objection}
use Rattle.amending.specs.declared.Objection.TheVariants as rows
use Rattle.block_value.specs.declared.Obstacle.TheVariants as value
use Rattle.amending.specs.Cases.{amended_of}
use Rattle.amending.specs.Amending.{Outcome, buffers, amend, undo}
use Rattle.block_slice.specs.declared.SliceRefusal.{SliceRefusal}
use Rattle.block_slice.specs.declared.SliceRefusal.TheVariants as slice
use Rattle.repacking.specs.Cases.{repacked_of}
use Rattle.repacking.specs.Repacking.{repack}
use Rattle.cedar.specs.Calls.{Returned, returned, converted, ReturnedBoth, returned_both, amended_both}
use Rattle.listed.specs.Listing.{listing_of}
use Rattle.printed.specs.Printed.{lines_printed, size_printed, block_printed, blocks_printed}
use Rattle.demands.specs.Agree.{FixesOne, FixesTwo, OpenNotFixed, JudgeAgrees, StepAgrees, FindAgrees, PrefixAgrees, LinesAgree, JudgeLinesAgrees, BlockAgrees, OpenAgrees, StartAgrees, AmendAgrees, UndoAgrees, RepackAgrees, CedarJudgeAgrees, CedarPrefixAgrees, CedarLinesAgree, CedarJudgeLinesAgrees, CedarBlockAgrees, CedarStartAgrees, CedarAmendAgrees, CedarUndoAgrees, CedarRepackAgrees, PutAgrees, PrintedListingAgrees, PrintedLinesAgree, PrintedSizeAgrees, PrintedBlockAgrees, PrintedBlocksAgree}

-- the case that a refusal's numbers tell
refusal_case : Answer → Refusal
refusal_case r =
    if eqb r.n 1 then Size
    else if eqb r.n 2 then WordCount
    else if eqb r.n 3 then Checksum r.c
    else if eqb r.n 4 then Record (fault.Short r.a)
    else if eqb r.n 5 then Record (Kind r.a)
    else if eqb r.n 6 then Record (Total r.a)
    else if eqb r.n 7 then Record (NotZero r.a r.b)
    else if eqb r.n 8 then Record (Card r.a r.b)
    else Record (Counts r.a r.b)

refusal_back : (r : Refusal) → refusal_case (refusal_of r) ≡ r
unfolding refusal_case
refusal_back Size = refl
refusal_back WordCount = refl
refusal_back (Checksum bits) = refl
refusal_back (Record (fault.Short k)) = refl
refusal_back (Record (Kind k)) = refl
refusal_back (Record (Total k)) = refl
refusal_back (Record (NotZero k w)) = refl
refusal_back (Record (Card k w)) = refl
refusal_back (Record (Counts k w)) = refl

-- its number is one of the block's
refusal_low : (r : Refusal) → BlockRow (refusal_of r).n
refusal_low Size = omega arith
refusal_low WordCount = omega arith
refusal_low (Checksum bits) = omega arith
refusal_low (Record (fault.Short k)) = omega arith
refusal_low (Record (Kind k)) = omega arith
refusal_low (Record (Total k)) = omega arith
refusal_low (Record (NotZero k w)) = omega arith
refusal_low (Record (Card k w)) = omega arith
refusal_low (Record (Counts k w)) = omega arith

-- so it is no other number
other : (r : Refusal) (m : ℕ) → (m ≡ 0) ⊎ (10 ≤ m) → eqb (refusal_of r).n m ≡ false
other r m h = ne_eqb (refusal_of r).n m (λ e. by h e)
  where
    by : (m ≡ 0) ⊎ (10 ≤ m) → (refusal_of r).n ≡ m → ⊥
    by (inl z) e = omega (arith, (refusal_low r).0)
    by (inr k) e = omega (arith, (refusal_low r).1)

judged_case : Verdict ℕ → Result ℕ Refusal
judged_case (passed k) = Ok k
judged_case (refused r) = Err (refusal_case r)

judged_back : (j : Result ℕ Refusal) → judged_case (judged_of j) ≡ j
unfolding judged_case
judged_back (Ok k) = refl
judged_back (Err r) = ap Err (refusal_back r)

-- the case that the numbers of block to lines tell
lined_case : Answer → Result Bytes (Unwritten Refusal)
lined_case r = if eqb r.n 0 then Ok (record { 0 = r.a }) else if eqb r.n 29 then Err (Short (record { 0 = r.a })) else Err (Refused (refusal_case r))

lined_back : (l : Result Bytes (Unwritten Refusal)) → lined_case (lined_of l) ≡ l
unfolding lined_case
lined_back (Ok size) = refl
lined_back (Err (Short size)) = refl
lined_back (Err (Refused r)) = simp (other r 0 (inl refl), other r 29 (inr (omega arith))) (ap (λ b. Err (Refused b)) (refusal_back r))

-- the case that a text's refusal's numbers tell
flaw_case : Answer → Flaw
flaw_case r =
    let line : Lines = record { 0 = r.a } in
    let column : Bytes = record { 0 = r.b } in
    if eqb r.n 20 then Byte line column
    else if eqb r.n 21 then NoRecord
    else if eqb r.n 22 then Field line column
    else if eqb r.n 23 then columns.Kind line
    else if eqb r.n 24 then Count line
    else if eqb r.n 25 then Ends line
    else if eqb r.n 26 then NotBlank line column
    else if eqb r.n 27 then Range line column
    else if eqb r.n 28 then Much line
    else Long

flaw_back : (f : Flaw) → flaw_case (flaw_of f) ≡ f
unfolding flaw_case
flaw_back (Byte line column) = refl
flaw_back NoRecord = refl
flaw_back (Field line column) = refl
flaw_back (columns.Kind line) = refl
flaw_back (Count line) = refl
flaw_back (Ends line) = refl
flaw_back (NotBlank line column) = refl
flaw_back (Range line column) = refl
flaw_back (Much line) = refl
flaw_back Long = refl

-- its number is no success, and no buffer that is too short
flaw_other : (f : Flaw) → (eqb (flaw_of f).n 0 ≡ false) × (eqb (flaw_of f).n 29 ≡ false)
flaw_other (Byte line column) = (refl, refl)
flaw_other NoRecord = (refl, refl)
flaw_other (Field line column) = (refl, refl)
flaw_other (columns.Kind line) = (refl, refl)
flaw_other (Count line) = (refl, refl)
flaw_other (Ends line) = (refl, refl)
flaw_other (NotBlank line column) = (refl, refl)
flaw_other (Range line column) = (refl, refl)
flaw_other (Much line) = (refl, refl)
flaw_other Long = (refl, refl)

-- the case that the numbers of writing a block tell
built_case : Answer → Result Bytes (Unwritten Flaw)
built_case r = if eqb r.n 0 then Ok (record { 0 = r.a }) else if eqb r.n 29 then Err (Short (record { 0 = r.a })) else Err (Refused (flaw_case r))

built_back : (b : Result Bytes (Unwritten Flaw)) → built_case (built_of b) ≡ b
unfolding built_case
built_back (Ok size) = refl
built_back (Err (Short size)) = refl
built_back (Err (Refused f)) = let o = flaw_other f in simp (o.0, o.1) (ap (λ x. Err (Refused x)) (flaw_back f))

-- the case that a size or a refusal tells
size_case : Verdict ℕ → Result Bytes Flaw
size_case (passed n) = Ok (record { 0 = n })
size_case (refused r) = Err (flaw_case r)

size_back : (r : Result Bytes Flaw) → size_case (looking.judged_of r) ≡ r
unfolding size_case
size_back (Ok n) = refl
size_back (Err f) = ap Err (flaw_back f)

-- the case that the numbers of a sheet tell
opened_case : Answer → Result ℕ Broken
opened_case r = if eqb r.n 0 then Ok r.a else Err record {}

opened_back : (o : Result ℕ Broken) → opened_case (answered (opened_of o)) ≡ o
unfolding opened_case
opened_back (Ok count) = refl
opened_back (Err b) = refl

-- the case that the numbers of amend and undo tell
amended_case : Answer → Result ℕ Objection
amended_case r =
    if eqb r.n 0 then Ok r.a
    else if eqb r.n 40 then Err rows.Broken
    else if eqb r.n 41 then Err (rows.Value value.NoSuchRecord)
    else if eqb r.n 42 then Err (rows.Value value.NoValue)
    else if eqb r.n 43 then Err (rows.Value (value.Differs r.a))
    else if eqb r.n 44 then Err rows.Full
    else if eqb r.n 45 then Err rows.Empty
    else if eqb r.n 46 then Err rows.NotStanding
    else Err (rows.Block (refusal_case r))

amended_back : (a : Result ℕ Objection) → amended_case (answered (amended_of a)) ≡ a
unfolding amended_case
amended_back (Ok count) = refl
amended_back (Err rows.Broken) = refl
amended_back (Err (rows.Value value.NoSuchRecord)) = refl
amended_back (Err (rows.Value value.NoValue)) = refl
amended_back (Err (rows.Value (value.Differs found))) = refl
amended_back (Err rows.Full) = refl
amended_back (Err rows.Empty) = refl
amended_back (Err rows.NotStanding) = refl
amended_back (Err (rows.Block r)) =
    let far : (m : ℕ) → 10 ≤ m → eqb (refusal_of r).n m ≡ false = λ m h. other r m (inr h) in
    simp (other r 0 (inl refl), far 40 (omega arith), far 41 (omega arith), far 42 (omega arith), far 43 (omega arith), far 44 (omega arith), far 45 (omega arith), far 46 (omega arith))
    (ap (λ b. Err (rows.Block b)) (refusal_back r))

-- the case that the numbers of repacking tell
repacked_case : Answer → Result Bytes (Unwritten SliceRefusal)
repacked_case r =
    if eqb r.n 0 then Ok (record { 0 = r.a })
    else if eqb r.n 50 then Err (Short (record { 0 = r.a }))
    else if eqb r.n 51 then Err (Refused (slice.Cut r.a))
    else if eqb r.n 52 then Err (Refused slice.Long)
    else Err (Refused (slice.Block (refusal_case r)))

repacked_back : (a : Result Bytes (Unwritten SliceRefusal)) → repacked_case (repacked_of a) ≡ a
unfolding repacked_case
repacked_back (Ok size) = refl
repacked_back (Err (Short size)) = refl
repacked_back (Err (Refused (slice.Cut number))) = refl
repacked_back (Err (Refused slice.Long)) = refl
repacked_back (Err (Refused (slice.Block r))) =
    simp (other r 0 (inl refl), other r 50 (inr (omega arith)), other r 51 (inr (omega arith)), other r 52 (inr (omega arith)))
    (ap (λ b. Err (Refused (slice.Block b))) (refusal_back r))

-- ---- what is fixed

-- 0 is not 1, also as a byte
zero_one : ◌≡◌ {A = ℕ} 0 1 → ⊥
zero_one e = absurd (omega (arith, e))

byte_zero_one : ◌≡◌ {A = List ℕ} (0 ∷ []) (1 ∷ []) → ⊥
byte_zero_one e = zero_one (ap (λ l. get_or l 0 0) e)

pub open_not_fixed : OpenNotFixed
open_not_fixed = (
  λ f. zero_one (f 0 1 tt tt),
  λ f. zero_one (f 0 1 [] [] refl refl).0,
  λ f. byte_zero_one (f 0 0 (0 ∷ []) (1 ∷ []) (refl, refl) (refl, refl)).1,
  λ f. zero_one (f 0 1 [] [] [] [] (refl, refl) (refl, refl)).0,
  λ f. byte_zero_one (f 0 0 (0 ∷ []) (1 ∷ []) [] [] (refl, refl, refl) (refl, refl, refl)).1,
  λ f. byte_zero_one (f 0 0 [] [] (0 ∷ []) (1 ∷ []) (refl, refl, refl) (refl, refl, refl)).2,
)

-- ---- the calls

-- two that are the same as a third are the same
same : {A : Type 0} {x r s : A} → r ≡ x → s ≡ x → r ≡ s
same p q = p ∙ sym q

-- where an answer's numbers tell its case, those that have the same numbers are the same
by_case : {R N : Type 0} (of : R → N) (case : N → R) → ((r : R) → case (of r) ≡ r) → (r s : R) → of r ≡ of s → r ≡ s
by_case of case back r s e = sym (back r) ∙ ap case e ∙ back s

pub judge_agrees : JudgeAgrees
judge_agrees block r s p q = by_case judged_of judged_case judged_back r s (same p q)

pub step_agrees : StepAgrees
step_agrees block at r s p q = same p q

pub find_agrees : FindAgrees
find_agrees block number r s p q = same p q

pub prefix_agrees : PrefixAgrees
prefix_agrees instrument r s p q = same p q

-- and where these stand with a buffer, it is the same too
written_agree : {R : Type 0} (of : R → Answer) (case : Answer → R) → ((r : R) → case (of r) ≡ r) → (o : Written) → FixesOne (λ r t. leaves (of r) t ≡ o)
written_agree of case back o r s t u p q = let e = same p q in (by_case of case back r s (ap (λ w. w.answer) e), ap (λ w. w.out) e)

pub lines_agree : LinesAgree
lines_agree block text r s t u p q = written_agree lined_of lined_case lined_back (to_lines block text) r s t u p.outcome q.outcome

pub judge_lines_agrees : JudgeLinesAgrees
judge_lines_agrees lines r s p q = by_case looking.judged_of size_case size_back r s (same p.outcome q.outcome)

pub block_agrees : BlockAgrees
block_agrees text block r s t u p q = written_agree built_of built_case built_back (write_block text block) r s t u p.outcome q.outcome

pub open_agrees : OpenAgrees
open_agrees sheet r s p q = by_case (λ o. answered (opened_of o)) opened_case opened_back r s (ap answered (same p q))

pub start_agrees : StartAgrees
start_agrees sheet = written_agree (λ (o : Result ℕ Broken). answered (opened_of o)) opened_case opened_back (started version1 sheet)

-- with both buffers
both_agree : (o : Outcome) → FixesTwo (λ r b x. buffers (answered (amended_of r)) b x ≡ o)
both_agree o r s b c x y p q =
    let e = same p q in (by_case (λ a. answered (amended_of a)) amended_case amended_back r s (ap (λ a. a.answer) e), ap (λ a. a.block) e, ap (λ a. a.sheet) e)

pub amend_agrees : AmendAgrees
amend_agrees e block sheet = both_agree (amend version1 e block sheet)

pub undo_agrees : UndoAgrees
undo_agrees block sheet = both_agree (undo version1 block sheet)

pub repack_agrees : RepackAgrees
repack_agrees blocks out r s t u p q = written_agree repacked_of repacked_case repacked_back (repack blocks out) r s t u p.outcome q.outcome

-- ---- the calls for C

pub cedar_judge_agrees : CedarJudgeAgrees
cedar_judge_agrees block r s p q = same p q

pub cedar_prefix_agrees : CedarPrefixAgrees
cedar_prefix_agrees instrument r s p q = same p q

returned_agree : (o : Returned) → FixesOne (λ r t. returned r t ≡ o)
returned_agree o r s t u p q = let e = same p q in (ap (λ w. w.number) e, ap (λ w. w.out) e)

pub cedar_lines_agree : CedarLinesAgree
cedar_lines_agree block text = returned_agree (converted (to_lines block text))

pub cedar_judge_lines_agrees : CedarJudgeLinesAgrees
cedar_judge_lines_agrees lines r s p q = same p q

pub cedar_block_agrees : CedarBlockAgrees
cedar_block_agrees text block = returned_agree (converted (write_block text block))

pub cedar_start_agrees : CedarStartAgrees
cedar_start_agrees sheet = returned_agree (converted (started version1 sheet))

pub cedar_repack_agrees : CedarRepackAgrees
cedar_repack_agrees blocks out = returned_agree (converted (repack blocks out))

returned-both_agree : (o : ReturnedBoth) → FixesTwo (λ r b x. returned_both r b x ≡ o)
returned-both_agree o r s b c x y p q = let e = same p q in (ap (λ a. a.number) e, ap (λ a. a.block) e, ap (λ a. a.sheet) e)

pub cedar_amend_agrees : CedarAmendAgrees
cedar_amend_agrees e block sheet = returned-both_agree (amended_both (amend version1 e block sheet))

pub cedar_undo_agrees : CedarUndoAgrees
cedar_undo_agrees block sheet = returned-both_agree (amended_both (undo version1 block sheet))

-- ---- what the programs print

pub put_agrees : PutAgrees
put_agrees before text at n m after also p q = (same p.ends q.ends, same p.bytes q.bytes)

pub printed_listing_agrees : PrintedListingAgrees
printed_listing_agrees block out r s t u p q = put_agrees out (listing_of block) 0 r s t u p.put q.put

pub printed_lines_agree : PrintedLinesAgree
printed_lines_agree block out r s t u p q = put_agrees out (lines_printed block) 0 r s t u p.put q.put

pub printed_size_agrees : PrintedSizeAgrees
printed_size_agrees lines out r s t u p q = put_agrees out (size_printed lines) 0 r s t u p.put q.put

pub printed_block_agrees : PrintedBlockAgrees
printed_block_agrees text out r s t u p q = put_agrees out (block_printed text) 0 r s t u p.put q.put

pub printed_blocks_agree : PrintedBlocksAgree
printed_blocks_agree blocks out r s t u p q = put_agrees out (blocks_printed blocks) 0 r s t u p.put q.put
