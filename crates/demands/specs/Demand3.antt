-- Demand 3: "Amend and undo, in any sequence, refused ones among them: the block is the first block with the standing
-- amendments put in, oldest first, its checksum fresh; its lines differ only in the amended six columns; undoing all gives
-- back both buffers exactly."
use Rattle.std.specs.Prelude.{◌≡◌, ◌↔◌, List, [], ◌∷◌, ◌++◌, map, ℕ, ◌+◌, ◌-◌, ◌≤◌, ◌<◌, length, take, replicate}
use Rattle.units.specs.declared.Answer.{Answer}
use Rattle.units.specs.Answers.{answer, Verdict, passed, refused, taken_apart}
use Rattle.words.specs.Words.{All, Below}
use Rattle.words.specs.Outcomes.{written}
use Rattle.block.specs.Judging.{judged}
use Rattle.block.specs.Records.{records_of}
use Rattle.block.specs.Rules.{block_of}
use Rattle.write_lines.specs.Text.{text_of, to_lines}
use Rattle.write_lines.specs.Columns.{columns_before}
use Rattle.sheet.specs.Sheets.{Layout, Entry, version1, sheet_of}
use Rattle.sheet.specs.Rules.{IsEntry}
use Rattle.block_value.specs.Places.{record_number, word_number, old_value, new_value, record_in, NamesValuePlace, found, with_value}
use Rattle.amending.specs.Amending.{Outcome, buffers, Both, both, amendable, undoable, amend, undo}
use Rattle.cedar.specs.Promises.{CedarAmends, CedarUndoes}
use Rattle.demands.specs.Lines.{Outside, Shows, SameAt}

-- ---- the calls

-- a call on a block and its sheet: amend with any numbers, undo, or convert to lines with any output
pub data Call : Type 0 where
  amends : Entry → Call
  undoes : Call
  prints : List ℕ → Call

-- what a call leaves: its answer, both buffers, and the output that was lent to a conversion
pub record Done : Type 0 where
  pub answer : Answer
  pub block : List ℕ
  pub sheet : List ℕ
  pub out : List ℕ

-- amend and undo have no output
abbrev pub of_both : Outcome → Done
of_both a = record { answer = a.answer; block = a.block; sheet = a.sheet; out = [] }

-- what the call's definition says
abbrev pub done : Layout → List ℕ → List ℕ → Call → Done
done y block sheet (amends e) = of_both (amend y e block sheet)
done y block sheet undoes = of_both (undo y block sheet)
done y block sheet (prints text) = record { answer = (to_lines block text).answer; block = block; sheet = sheet; out = (to_lines block text).out }

-- "in any sequence": each call finds what the one before it left
abbrev pub done_all : Layout → List ℕ → List ℕ → List Call → List Done
done_all y block sheet [] = []
done_all y block sheet (c ∷ cs) = let d = done y block sheet c in d ∷ done_all y d.block d.sheet cs

-- both buffers when all calls are over
pub record Buffers : Type 0 where
  pub block : List ℕ
  pub sheet : List ℕ

abbrev pub left_by : Layout → Buffers → List Call → Buffers
left_by y p [] = p
left_by y p (c ∷ cs) = let d = done y p.block p.sheet c in left_by y (record { block = d.block; sheet = d.sheet }) cs

-- a block and an empty sheet
abbrev pub fresh : Layout → List ℕ → Buffers
fresh y block = record { block = block; sheet = sheet_of y [] }

-- the numbers of an amend call are as many as the layout says, and 16-bit ones
abbrev pub Takes : Layout → Call → Type 0
Takes y (amends e) = IsEntry y e
Takes y undoes = Unit {0}
Takes y (prints text) = Unit {0}

-- ---- the model: a stack of amendments over the records of the first block; no bytes, no sheet, no checksum

-- "the standing amendments put in, oldest first"
abbrev pub put_in : List (List ℕ) → List Entry → List (List ℕ)
put_in rs [] = rs
put_in rs (e ∷ es) = put_in (with_value rs e (new_value e)) es

-- the answer to a call, the stack afterwards, and the output of a conversion
pub record Modelled : Type 0 where
  pub answer : Answer
  pub stack : List Entry
  pub out : List ℕ

-- an amendment or its undoing: the entries that then stand, or the stack as it was
abbrev pub stacked : List Entry → Verdict Both → Modelled
stacked es (passed t) = record { answer = answer 0 (length t.entries) 0 0; stack = t.entries; out = [] }
stacked es (refused r) = record { answer = r; stack = es; out = [] }

-- what the model does
abbrev pub modelled : Layout → List (List ℕ) → List Entry → Call → Modelled
modelled y rs es (amends e) = stacked es (amendable y e (both (put_in rs es) es))
modelled y rs es undoes = stacked es (undoable (both (put_in rs es) es))
modelled y rs es (prints text) =
    let w = written 29 text (passed (text_of (put_in rs es))) in record { answer = w.answer; stack = es; out = w.out }

-- and does, call by call
abbrev pub modelled_all : Layout → List (List ℕ) → List Entry → List Call → List Modelled
modelled_all y rs es [] = []
modelled_all y rs es (c ∷ cs) = let m = modelled y rs es c in m ∷ modelled_all y rs m.stack cs

-- the stack when all calls are over
abbrev pub stack_after : Layout → List (List ℕ) → List Entry → List Call → List Entry
stack_after y rs es [] = es
stack_after y rs es (c ∷ cs) = stack_after y rs (modelled y rs es c).stack cs

-- the stated old value stands, in the block so amended, at a "value place", and there is room
pub record MayAmend (y : Layout) (rs : List (List ℕ)) (es : List Entry) (e : Entry) : Type 0 where
  pub room : length es < y.limit
  pub place : NamesValuePlace rs e
  pub old : found (put_in rs es) e ≡ old_value e

-- ---- the demand, from an accepted block of k records and an empty sheet

-- "Success is n = 0 with a = ... standing amendments": these stand, the block has them put in, and the sheet is theirs
abbrev pub success : Layout → List (List ℕ) → List Entry → Outcome
success y rs es = buffers (answer 0 (length es) 0 0) (block_of (put_in rs es)) (sheet_of y es)

-- the rule of acceptance, after "Amend and undo, in any sequence, refused ones among them": exactly when each succeeds, and what it then leaves
abbrev pub AcceptanceRule : Type 0
AcceptanceRule =
    (y : Layout) (b : List ℕ) (k : ℕ) (cs : List Call) → Below 256 b → judged b ≡ passed k → All (Takes y) cs →
    let rs = records_of b in let es = stack_after y rs [] cs in let p = left_by y (fresh y b) cs in
    ((e : Entry) → ((amend y e p.block p.sheet).answer.n ≡ 0) ↔ MayAmend y rs es e)
    × (((undo y p.block p.sheet).answer.n ≡ 0) ↔ (1 ≤ length es))
    × ((e : Entry) → MayAmend y rs es e → amend y e p.block p.sheet ≡ success y rs (es ++ e ∷ []))
    × ((before : List Entry) (e : Entry) → es ≡ before ++ e ∷ [] → undo y p.block p.sheet ≡ success y rs before)
    × (es ≡ [] → undo y p.block p.sheet ≡ buffers (answer 45 0 0 0) p.block p.sheet)

-- and so of the C calls, by the n that a caller takes out of the number returned
abbrev pub CedarAcceptance : Type 0
CedarAcceptance =
    (b : List ℕ) (k : ℕ) (cs : List Call) → Below 256 b → judged b ≡ passed k → All (Takes version1) cs →
    let rs = records_of b in let es = stack_after version1 rs [] cs in let p = left_by version1 (fresh version1 b) cs in
    (r : ℕ) (block sheet : List ℕ) →
    ((e : Entry) → CedarAmends e p.block p.sheet r block sheet → ((taken_apart r).n ≡ 0) ↔ MayAmend version1 rs es e)
    × (CedarUndoes p.block p.sheet r block sheet → ((taken_apart r).n ≡ 0) ↔ (1 ≤ length es))

-- what the calls leave where the model leaves this
abbrev pub as_buffers : Layout → List (List ℕ) → Modelled → Done
as_buffers y rs m = record { answer = m.answer; block = block_of (put_in rs m.stack); sheet = sheet_of y m.stack; out = m.out }

-- "the block is the first block with the standing amendments put in, oldest first, its checksum fresh"; at the end of all calls,
-- and after each one, where every answer, sheet and output is the model's too and the block is accepted with as many records
abbrev pub StandingPutIn : Type 0
StandingPutIn =
    (y : Layout) (b : List ℕ) (k : ℕ) (cs : List Call) → Below 256 b → judged b ≡ passed k → All (Takes y) cs →
    let rs = records_of b in let es = stack_after y rs [] cs in
    (left_by y (fresh y b) cs ≡ record { block = block_of (put_in rs es); sheet = sheet_of y es })
    × (done_all y b (sheet_of y []) cs ≡ map (as_buffers y rs) (modelled_all y rs [] cs))
    × All (λ d. judged d.block ≡ passed k) (done_all y b (sheet_of y []) cs)

-- an entry that names another place
abbrev pub Elsewhere : Entry → Entry → Type 0
Elsewhere e f = record_number f ≡ record_number e → word_number f ≡ word_number e → ⊥

-- the value that stands at a value place is the new one of the last entry that names it
abbrev pub LastStands : Type 0
LastStands =
    (y : Layout) (b : List ℕ) (k : ℕ) (cs : List Call) → Below 256 b → judged b ≡ passed k → All (Takes y) cs →
    let rs = records_of b in let es = stack_after y rs [] cs in
    (before after : List Entry) (e : Entry) → es ≡ before ++ e ∷ after → All (Elsewhere e) after →
    NamesValuePlace rs e × (found (put_in rs es) e ≡ new_value e)

-- how many bytes of the text stand before the six columns of the number that an entry names: the records' before, and its own record's
abbrev pub bytes_before : List (List ℕ) → Entry → ℕ
bytes_before rs e = length (text_of (take (record_number e - 1) rs)) + columns_before (record_in rs (record_number e)) (word_number e - 1)

-- "its lines differ only in the amended six columns", which show the value that stands
abbrev pub LinesDiffer : Type 0
LinesDiffer =
    (y : Layout) (b : List ℕ) (k : ℕ) (cs : List Call) → Below 256 b → judged b ≡ passed k → All (Takes y) cs →
    let rs = records_of b in let es = stack_after y rs [] cs in
    let first = text_of rs in let text = text_of (records_of (left_by y (fresh y b) cs).block) in
    SameAt (λ i. All (λ e. Outside i (bytes_before rs e)) es) text first
    × All (λ e. Shows text (bytes_before rs e) (found (put_in rs es) e)) es

-- "undoing all gives back both buffers exactly", and no undo on the way is refused
abbrev pub UndoneGivesBack : Type 0
UndoneGivesBack =
    (y : Layout) (b : List ℕ) (k : ℕ) (cs : List Call) → Below 256 b → judged b ≡ passed k → All (Takes y) cs →
    let all = replicate (length (stack_after y (records_of b) [] cs)) undoes in let p = left_by y (fresh y b) cs in
    (left_by y p all ≡ fresh y b)
    × All (λ d. d.answer.n ≡ 0) (done_all y p.block p.sheet all)
