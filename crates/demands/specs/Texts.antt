-- Demand 2: which texts are accepted, with no order of tests in it.
use Rattle.std.specs.Prelude.{◌↔◌, ◌≡◌, List, ℕ, ◌≤◌, length, Some}
use Rattle.units.specs.Answers.{passed}
use Rattle.words.specs.Words.{joined, All, most_record_words}
use Rattle.record.specs.Rules.{RecordOk}
use Rattle.field.specs.Reading.{read_field}
use Rattle.field.specs.Grammar.{IsField}
use Rattle.read_cut.specs.Lines.{lines_in}
use Rattle.read_records.specs.Reading.{read_text}
use Rattle.read_records.specs.Spelled.{Readable, Spelled}

-- a field is read as a word exactly where the grammar has it as a field of that word
abbrev pub FieldsExactly : Type 0
FieldsExactly = (bs : List ℕ) (w : ℕ) → (read_field bs ≡ Some w) ↔ IsField bs w

-- this text is one of these records: at most 65,536 bytes, whose lines are the records in some spelling with blank lines around them
pub record IsText (t : List ℕ) (rs : List (List ℕ)) : Type 0 where
  pub size : length t ≤ 65536
  pub lines : All Readable (lines_in t)
  pub spelled : Spelled (lines_in t) rs
  pub each : All RecordOk rs
  pub some : 1 ≤ length rs
  pub most : length (joined rs) ≤ most_record_words

-- a text is accepted exactly when it is one of good records, and then it is read as their words
abbrev pub TextsExactly : Type 0
TextsExactly = (t ws : List ℕ) → (read_text t ≡ passed ws) ↔ ((rs : List (List ℕ)) × IsText t rs × (ws ≡ joined rs))
