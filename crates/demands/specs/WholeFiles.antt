-- Document 02, request 1, "Whole files": what repacking keeps, and that no other packing has fewer blocks.
use Rattle.std.specs.Prelude.{◌↔◌, ◌⊎◌, ◌≡◌, ℕ, ◌+◌, ◌≤◌, ◌<◌, length, take}
use mathlib.Core.List.{List, [], ◌∷◌, ◌++◌, flatten}
use Rattle.units.specs.declared.Answer.{Answer}
use Rattle.units.specs.Answers.{answer, passed, refused}
use Rattle.units.specs.Units.{bytes_of_words}
use Rattle.words.specs.Words.{words_of, word, joined, All, Below, most_record_words}
use Rattle.words.specs.Outcomes.{leaves}
use Rattle.block.specs.Judging.{judged, Accepted}
use Rattle.block.specs.Records.{records_of}
use Rattle.block_slice.specs.Blocks.{most_bytes, blocks_in, records_in}
use Rattle.block_slice.specs.Rules.{IsSlice}
use Rattle.packing.specs.Packing.{Group}
use Rattle.repacking.specs.Repacking.{repack}
use Rattle.demands.specs.Demand2.{bytes_in, wrote}

-- ---- what is taken

-- a slice passes exactly when it is accepted blocks, one after the other, of at most 64,000 bytes together; and these are its blocks
abbrev pub SlicesExactly : Type 0
SlicesExactly = (slice : List ℕ) (blocks : List (List ℕ)) → (blocks_in slice ≡ passed blocks) ↔ IsSlice slice blocks

-- "then block by block": behind accepted blocks the refusal of the next one is told, whatever stands behind it. 51 with its number when "only one byte is left";
-- "a first word under 18 or over 8,000 is 1, before 51"; 51 "when the block runs past the slice"; then "the block's own refusals, which keep their numbers"
abbrev pub BlockByBlock : Type 0
BlockByBlock =
    (blocks : List (List ℕ)) (rest out : List ℕ) → All Accepted blocks → length (joined blocks ++ rest) ≤ most_bytes →
    let w = repack (joined blocks ++ rest) out in let cut = leaves (answer 51 (1 + length blocks) 0 0) out in
    let first = word (words_of rest) 1 in let size = bytes_of_words first in
    (length rest ≡ 1 → w ≡ cut)
    × (2 ≤ length rest → (first < 18) ⊎ (8000 < first) → w ≡ leaves (answer 1 0 0 0) out)
    × (2 ≤ length rest → 18 ≤ first → first ≤ 8000 → length rest < size → w ≡ cut)
    × ((r : Answer) → 18 ≤ first → first ≤ 8000 → size ≤ length rest → judged (take size rest) ≡ refused r → w ≡ leaves r out)

-- "50 output too short, last of all, a = bytes needed": a is what a success writes, and any output of that many bytes has room
abbrev pub BytesNeeded : Type 0
BytesNeeded =
    (slice out other : List ℕ) → Below 256 slice → let r = (repack slice out).answer in r.n ≡ 0 →
    (length other < r.a → repack slice other ≡ leaves (answer 50 r.a 0 0) other) × (r.a ≤ length other → (repack slice other).answer ≡ r)

-- "An empty slice gives no blocks"
abbrev pub EmptySlice : Type 0
EmptySlice = (out : List ℕ) → repack [] out ≡ leaves (answer 0 0 0 0) out

-- ---- what is made

-- a slice of some blocks was repacked, and what was written is a slice of some blocks
pub record Repacking (slice out : List ℕ) (blocks result : List (List ℕ)) : Type 0 where
  pub bytes : Below 256 slice
  pub success : (repack slice out).answer.n ≡ 0
  pub given : IsSlice slice blocks
  pub made : IsSlice (bytes_in (repack slice out)) result

-- "it takes blocks ... and writes blocks again": each success is of accepted blocks, and has written accepted blocks; "Success has a = bytes written", and all other bytes stay
abbrev pub BlocksAgain : Type 0
BlocksAgain =
    (slice out : List ℕ) → Below 256 slice → let w = repack slice out in w.answer.n ≡ 0 →
    (w ≡ wrote (bytes_in w) out) × ((blocks result : List (List ℕ)) × Repacking slice out blocks result)

-- "Each repacked block starts with an empty sheet; demand 3 still speaks of one block": each is bytes that the judge accepts, which is what demand 3 asks
abbrev pub StartsAnew : Type 0
StartsAnew =
    (slice out : List ℕ) (blocks result : List (List ℕ)) → Repacking slice out blocks result → All (λ b. Below 256 b × Accepted b) result

-- "The record list and the total of record words are the same before and after"
abbrev pub SameRecords : Type 0
SameRecords =
    (slice out : List ℕ) (blocks result : List (List ℕ)) → Repacking slice out blocks result →
    (records_in result ≡ records_in blocks) × (length (joined (records_in result)) ≡ length (joined (records_in blocks)))

-- "no other in-order packing uses fewer blocks": the records grouped in any way, each group of as many words as a block has room for
abbrev pub FewestBlocks : Type 0
FewestBlocks =
    (slice out : List ℕ) (blocks result : List (List ℕ)) → Repacking slice out blocks result →
    (gs : List Group) → flatten gs ≡ records_in blocks → All (λ g. length (joined g) ≤ most_record_words) gs → length result ≤ length gs

-- "A record goes into the current block if it fits, else into a new one": the first record of a block did not fit into the one before it
abbrev pub FitsElseNew : Type 0
FitsElseNew =
    (slice out : List ℕ) (blocks result : List (List ℕ)) → Repacking slice out blocks result →
    (front back rs : List (List ℕ)) (b c r : List ℕ) → result ≡ front ++ b ∷ c ∷ back → records_of c ≡ r ∷ rs →
    most_record_words < length (joined (records_of b)) + length r

-- what was repacked is repacked to the same bytes
abbrev pub RepackedTwice : Type 0
RepackedTwice =
    (slice out again : List ℕ) → Below 256 slice → let w = repack slice out in w.answer.n ≡ 0 → length (bytes_in w) ≤ length again →
    repack (bytes_in w) again ≡ wrote (bytes_in w) again

-- the result is never longer than the slice, so an output of the slice's size suffices
abbrev pub NeverLonger : Type 0
NeverLonger =
    (slice out : List ℕ) (blocks : List (List ℕ)) → Below 256 slice → IsSlice slice blocks →
    ((repack slice out).answer.a ≤ length slice) × (length slice ≤ length out → (repack slice out).answer.n ≡ 0)
