-- What the functions of this crate tell: the place of a value, and a block with another value there.
use Rattle.std.specs.Prelude.{ℕ, ◌+◌, ◌-◌, ◌≡◌, List, [], ◌∷◌, not, eqb, length, get_or, take}
use Rattle.std.specs.Int.Bits.{bit_xor}
use Rattle.std.proofs.lemmas.List.Edits.{sets}
use Rattle.std.specs.Prelude.{if◌then◌else◌}
use Rattle.units.specs.Units.{bytes_of_words}
use Rattle.units.specs.Answers.{answer, Verdict, passed, refused}
use Rattle.words.specs.Words.{word, words_of, bytes_of, joined}
use Rattle.record.specs.Values.{is_value}
use Rattle.block.specs.Records.{records_of}
use Rattle.block.specs.Rules.{block_of}
use Rattle.sheet.specs.Sheets.{Entry}
use Rattle.block_value.specs.Places.{record_number, word_number, record_in, no_record, with_value}

-- word w of a record with `at` words of the block before it, where v must stand: row 42 or 43, or how many words of the block stand before it
abbrev pub value_in : List ℕ → ℕ → ℕ → ℕ → Verdict ℕ
value_in r at w v =
    if not (is_value r w) then refused (answer 42 0 0 0)
    else if not (eqb v (word r w)) then refused (answer 43 (word r w) 0 0)
    else passed (at + (w - 1))

-- the place that an entry names, where v must stand: row 41, 42 or 43, or behind the length word and the records before it
unfoldable pub value_place : List (List ℕ) → Entry → ℕ → Verdict ℕ
value_place rs e v =
    if no_record rs (record_number e) then refused (answer 41 0 0 0)
    else value_in (record_in rs (record_number e)) (1 + length (joined (take (record_number e - 1) rs))) (word_number e) v

-- a block with a value put in behind `at` words, and its last one "patched with old and new word"
abbrev pub patched : List ℕ → ℕ → ℕ → ℕ → List ℕ
patched block at old new =
    let last = length (words_of block) - 1 in
    sets (sets block (bytes_of_words at) (bytes_of (new ∷ []))) (bytes_of_words last) (bytes_of (bit_xor (bit_xor (get_or (words_of block) last 0) old) new ∷ []))

-- a refusal leaves the block; else the new value is put at the place that the entry names
abbrev pub exchanged : List ℕ → Entry → ℕ → Verdict ℕ → List ℕ
exchanged block e new (refused r) = block
exchanged block e new (passed at) = block_of (with_value (records_of block) e new)

-- an exchange of values: the old one must stand at that place
pub record Exchanged (block : List ℕ) (e : Entry) (old new : ℕ) (v : Verdict ℕ) (after : List ℕ) : Type 0 where
  pub place : v ≡ value_place (records_of block) e old
  pub left : after ≡ exchanged block e new v
