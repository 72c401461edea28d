-- Document 01, "The binary block" and "Answer numbers": judging a block's bytes.
use Rattle.std.specs.Prelude.{ℕ, zero, suc, ◌+◌, ◌-◌, ◌%◌, List, [], ◌∷◌, ◌≡◌, Bool, not, ◌||◌, ltb, eqb, length, take}
use Rattle.std.specs.Int.Bits.{bit_xor}
use Rattle.std.specs.Int.Count.{ones}
use Rattle.std.specs.Prelude.{if◌then◌else◌}
use Rattle.units.specs.Answers.{answer, Verdict, passed, refused, onward}
use Rattle.words.specs.Words.{words_of, xor_all, word, words}
use Rattle.record.specs.Judging.{judge_record}

-- row 1: "byte count odd, under 36 or over 16,000"
unfoldable pub wrong_size : ℕ → Bool
wrong_size bytes = not (eqb (bytes % 2) 0) || (ltb bytes 36 || ltb 16000 bytes)

-- the record words: those between the first and the last
abbrev pub inner : List ℕ → List ℕ
inner ws = words ws 2 (length ws - 1)

-- "the exclusive or of all the other words": of all but the last
abbrev pub checksum_of : List ℕ → ℕ
checksum_of ws = xor_all (take (length ws - 1) ws)

-- record after record: one is judged where it starts and its other words are skipped; n is the next one's number
unfoldable pub walk : ℕ → ℕ → List ℕ → Verdict ℕ
walk skip n [] = passed (n - 1)
walk zero n (w ∷ ws) = onward (judge_record n (w ∷ ws)) (λ k. walk (k - 1) (n + 1) ws)
walk (suc skip) n (w ∷ ws) = walk skip n ws

-- row 3: "checksum wrong", "then each record", of a block whose size and length word are right
abbrev pub judge_words : List ℕ → Verdict ℕ
judge_words ws =
    let stored = word ws (length ws) in
    if not (eqb stored (checksum_of ws)) then refused (answer 3 0 0 (ones (bit_xor stored (checksum_of ws)))) else walk 0 1 (inner ws)

-- "Order for a block: 1, 2, 3, then each record"; the number of records, or the first refusal
unfoldable pub judged : List ℕ → Verdict ℕ
judged b =
    let ws = words_of b in
    if wrong_size (length b) then refused (answer 1 0 0 0)
    else if not (eqb (word ws 1) (length ws)) then refused (answer 2 0 0 0)
    else judge_words ws

-- a block that is accepted, with `count` records
pub record Accepted (b : List ℕ) : Type 0 where
  pub count : ℕ
  pub is : judged b ≡ passed count
