-- Document 01, "The amendment sheet" and "Answer numbers": what amend and undo answer, and leave of block and sheet.
use Rattle.std.specs.Prelude.{ℕ, ◌-◌, List, [], ◌∷◌, ◌++◌, not, eqb, leb, length, get_or, take}
use Rattle.std.specs.Prelude.{if◌then◌else◌}
use Rattle.units.specs.declared.Answer.{Answer}
use Rattle.units.specs.Answers.{answer, Verdict, passed, refused, onward}
use Rattle.block.specs.Judging.{judged}
use Rattle.block.specs.Records.{records_of}
use Rattle.block.specs.Rules.{block_of}
use Rattle.sheet.specs.Sheets.{Layout, Entry, sheet_of, entries_of, opened}
use Rattle.block_value.specs.Places.{record_number, old_value, new_value, no_record, no_value, found, with_value, stands}

-- the four numbers, and both buffers afterwards
pub record Outcome : Type 0 where
  pub answer : Answer
  pub block : List ℕ
  pub sheet : List ℕ

-- an answer, and the buffers as they are then
abbrev pub buffers : Answer → List ℕ → List ℕ → Outcome
buffers r block sheet = record { answer = r; block = block; sheet = sheet }

-- the records of a block, and the entries of its sheet
pub record Both : Type 0 where
  pub records : List (List ℕ)
  pub entries : List Entry

-- these records and these entries
abbrev pub both : List (List ℕ) → List Entry → Both
both rs es = record { records = rs; entries = es }

-- "44, 41, 42, 43"; then it "writes the new value at its place, adds its own entry after the last and raises the count by one"
unfoldable pub amendable : Layout → Entry → Both → Verdict Both
amendable y e t =
    let rs = t.records in
    if leb y.limit (length t.entries) then refused (answer 44 0 0 0)
    else if no_record rs (record_number e) then refused (answer 41 0 0 0)
    else if no_value rs e then refused (answer 42 0 0 0)
    else if not (eqb (old_value e) (found rs e)) then refused (answer 43 (found rs e) 0 0)
    else passed (both (with_value rs e (new_value e)) (t.entries ++ e ∷ []))

-- the last of the entries
abbrev pub last_of : List Entry → Entry
last_of es = get_or es (length es - 1) []

-- those before it
abbrev pub others_of : List Entry → List Entry
others_of es = take (length es - 1) es

-- "45, 46"; then it "puts the last entry's old value back, clears the entry to zero and lowers the count by one"
unfoldable pub undoable : Both → Verdict Both
undoable t =
    let e = last_of t.entries in
    if eqb (length t.entries) 0 then refused (answer 45 0 0 0)
    else if not (stands t.records e) then refused (answer 46 0 0 0)
    else passed (both (with_value t.records e (old_value e)) (others_of t.entries))

-- "Success is n = 0 with a = ... standing amendments"; "Both keep the checksum right"; "Every refusal leaves every buffer untouched"
abbrev pub leaving : Layout → List ℕ → List ℕ → Verdict Both → Outcome
leaving y block sheet (refused r) = buffers r block sheet
leaving y block sheet (passed t) = buffers (answer 0 (length t.entries) 0 0) (block_of t.records) (sheet_of y t.entries)

-- "block, 40", and then what the call does
unfoldable pub on_both : Layout → (Both → Verdict Both) → List ℕ → List ℕ → Outcome
on_both y does block sheet =
    leaving y block sheet (onward (judged block) (λ _. onward (opened y sheet) (λ _. does (both (records_of block) (entries_of y sheet)))))

-- "Amend: block, 40, 44, 41, 42, 43"
abbrev pub amend : Layout → Entry → List ℕ → List ℕ → Outcome
amend y e = on_both y (amendable y e)

-- "Undo: block, 40, 45, 46"
abbrev pub undo : Layout → List ℕ → List ℕ → Outcome
undo y = on_both y undoable
