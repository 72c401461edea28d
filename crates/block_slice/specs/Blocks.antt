-- Document 02, request 1: the blocks that stand one after the other in a slice, judged block by block.
use Rattle.std.specs.Prelude.{ℕ, zero, suc, ◌+◌, ◌-◌, Bool, ◌||◌, ltb, eqb, length, take}
use mathlib.Core.List.{List, [], ◌∷◌, map, flatten}
use Rattle.std.specs.Prelude.{if◌then◌else◌}
use Rattle.units.specs.Units.{bytes_of_words}
use Rattle.units.specs.Answers.{answer, Verdict, passed, refused, onward}
use Rattle.words.specs.Words.{words_of, word, most_words}
use Rattle.block.specs.Judging.{judged}
use Rattle.block.specs.Records.{records_of}

-- "a lent slice of up to 64,000 bytes"
abbrev pub most_bytes : ℕ
most_bytes = 64000

-- "a first word under 18 or over 8,000"
unfoldable pub wrong_first : ℕ → Bool
wrong_first stated = ltb stated 18 || ltb most_words stated

-- 51 "when the block runs past the slice ... before the block's own refusals, which keep their numbers": block n by the words that it states; it passes with its size in bytes
unfoldable pub judge_stated : ℕ → ℕ → List ℕ → Verdict ℕ
judge_stated n stated rest =
    if ltb (length rest) (bytes_of_words stated) then refused (answer 51 n 0 0)
    else onward (judged (take (bytes_of_words stated) rest)) (λ _. passed (bytes_of_words stated))

-- 51 when "only one byte is left"; a wrong first word "is 1, before 51"; then the block that it states: block n, the next of what is left
unfoldable pub judge_next : ℕ → List ℕ → Verdict ℕ
judge_next n rest =
    let stated = word (words_of rest) 1 in
    if eqb (length rest) 1 then refused (answer 51 n 0 0)
    else if wrong_first stated then refused (answer 1 0 0 0)
    else judge_stated n stated rest

-- a block put before those found behind it, unless one of these is refused
abbrev pub before : List ℕ → Verdict (List (List ℕ)) → Verdict (List (List ℕ))
before block others = onward others (λ blocks. passed (block ∷ blocks))

-- "block by block": one is judged where it starts and its other bytes are skipped; n is the next one's number
unfoldable pub walk_blocks : ℕ → ℕ → List ℕ → Verdict (List (List ℕ))
walk_blocks skip n [] = passed []
walk_blocks zero n (b ∷ bs) = onward (judge_next n (b ∷ bs)) (λ k. before (take k (b ∷ bs)) (walk_blocks (k - 1) (n + 1) bs))
walk_blocks (suc skip) n (b ∷ bs) = walk_blocks skip n bs

-- "52 slice over 64,000 bytes, first of all; then block by block"
unfoldable pub blocks_in : List ℕ → Verdict (List (List ℕ))
blocks_in slice = if ltb most_bytes (length slice) then refused (answer 52 0 0 0) else walk_blocks 0 1 slice

-- the records of the blocks, "in their order"
abbrev pub records_in : List (List ℕ) → List (List ℕ)
records_in blocks = flatten (map records_of blocks)
