-- The numbers of a slice's refusal: listed, and with room in the packing.
use mathlib.Core.Logic.{inl, inr}
use mathlib.Core.Path.{◌≡◌, refl, sym, ap, ◌∙◌}
use mathlib.Core.List.{List, [], ◌∷◌}
use Prim.Native.Nat.{ℕ, zero, suc, ◌+◌, ◌-◌, ◌^◌, ◌≤◌, ◌<◌}
use native.Mathlib.Omega.{arith}
use borrow.Author.Tests.{ltb-false, eq-eqb}
use lib.Dec.{ltb, eqb}
use lib.ListN.{length, take}
use lib.Seq.{length-take-le, get_or-take}
use Rattle.units.specs.Units.{bytes_of_words}
use Rattle.units.specs.Answers.{answer, Verdict, passed, refused}
use Rattle.units.proofs.Told.{Told, Known, then_known}
use Rattle.units.proofs.Choosing.{by_test, both_ways}
use Rattle.words.specs.Words.{words_of, word, Below, most_words}
use Rattle.words.proofs.Laws.{length_words_of, words_take}
use Rattle.words.proofs.Lists.{all_take}
use Rattle.block.specs.Judging.{judged, judge_words}
use Rattle.block.proofs.Size.{SizeRight, right_size}
use Rattle.block.proofs.Known.{words_rows, words_known}
use Rattle.block_slice.specs.Cases.{SliceRow}
use Rattle.block_slice.specs.Blocks.{most_bytes, wrong_first, judge_stated, judge_next, walk_blocks, blocks_in}
use Rattle.block_slice.proofs.Slices.{first_right}

-- a refusal of the slice is told
abbrev pub KnownSlice : {A : Type 0} → Verdict A → Type 0
KnownSlice v = Known SliceRow (λ _. Unit {0}) v

-- no row of a slice is 0
pub row_not_0 : {n : ℕ} → SliceRow n → n ≡ 0 → ⊥
row_not_0 (inl one) z = omega arith
row_not_0 (inr (inl own)) z = omega (arith, own.0)
row_not_0 (inr (inr cut)) z = omega (arith, cut.0)

-- its own rows, with a block's number or none
told : (n a : ℕ) → 51 ≤ n → n ≤ 52 → a < 2 ^ 16 → Told SliceRow (answer n a 0 0)
told n a low high h = record { listed = inr (inr (low, high)); packs = omega arith }

-- ---- one block

-- a block cut by its own first word is neither of a wrong size nor of another count of words
module _ (stated : ℕ) (rest b : List ℕ) (cut : b ≡ take (bytes_of_words stated) rest) (least : 18 ≤ stated) (most : stated ≤ most_words) (first : stated ≡ word (words_of rest) 1) (room : bytes_of_words stated ≤ length rest) where
  block_length : length b ≡ bytes_of_words stated
  block_length = ap length cut ∙ length-take-le (bytes_of_words stated) rest room

  block_words : length (words_of b) ≡ stated
  block_words = length_words_of b ∙ omega (arith, block_length)

  block_first : word (words_of b) 1 ≡ length (words_of b)
  block_first =
      ap (λ l. word (words_of l) 1) cut ∙ ap (λ ws. word ws 1) (words_take stated rest) ∙ get_or-take stated (words_of rest) 0 0 (omega arith) ∙ sym first ∙ sym block_words

  own_known : Below 256 b → Known SliceRow (λ a. a < 2 ^ 16) (judged b)
  unfolding judged
  own_known bytes =
      let size : SizeRight (length b) (length (words_of b)) = record { even = omega (arith, block_length); least = omega (arith, block_words); most = omega (arith, block_words) } in
      simp (right_size b size, eq-eqb (word (words_of b) 1) (length (words_of b)) block_first)
      (words_rows SliceRow (λ n h. inr (inl h)) (judge_words (words_of b)) (words_known b bytes size))

stated_known : (n stated : ℕ) (rest : List ℕ) → n < 2 ^ 16 → 18 ≤ stated → stated ≤ most_words → stated ≡ word (words_of rest) 1 → Below 256 rest → KnownSlice (judge_stated n stated rest)
unfolding judge_stated
stated_known n stated rest hn least most first bytes =
    let size = bytes_of_words stated in
    by_test KnownSlice (ltb (length rest) size) (refused (answer 51 n 0 0)) _ (λ _. told 51 n (omega arith) (omega arith) hn)
    (λ t. then_known SliceRow (λ a. a < 2 ^ 16) (λ _. Unit {0}) (judged (take size rest)) (λ _. passed size)
    (own_known stated rest (take size rest) refl least most first (ltb-false (length rest) size t) (all_take (λ x. x < 256) size rest bytes)) (λ _ _. tt))

block_known : (n : ℕ) (rest : List ℕ) → n < 2 ^ 16 → Below 256 rest → KnownSlice (judge_next n rest)
unfolding judge_next
block_known n rest hn bytes =
    let stated = word (words_of rest) 1 in
    both_ways KnownSlice (eqb (length rest) 1) (refused (answer 51 n 0 0)) _ (told 51 n (omega arith) (omega arith) hn)
    (by_test KnownSlice (wrong_first stated) (refused (answer 1 0 0 0)) _ (λ _. record { listed = inl refl; packs = omega arith })
    (λ t. let right = first_right stated t in stated_known n stated rest hn right.0 right.1 refl bytes))

-- ---- all of them

blocks_known : (skip n : ℕ) (slice : List ℕ) → n + length slice < 2 ^ 16 → Below 256 slice → KnownSlice (walk_blocks skip n slice)
unfolding walk_blocks
blocks_known skip n [] h bytes = tt
blocks_known (suc skip) n (b ∷ bs) h bytes = blocks_known skip n bs (omega arith) bytes.1
blocks_known zero n (b ∷ bs) h bytes =
    then_known SliceRow (λ _. Unit {0}) (λ _. Unit {0}) (judge_next n (b ∷ bs)) _ (block_known n (b ∷ bs) (omega arith) bytes)
    (λ k _. then_known SliceRow (λ _. Unit {0}) (λ _. Unit {0}) (walk_blocks (k - 1) (n + 1) bs) _ (blocks_known (k - 1) (n + 1) bs (omega arith) bytes.1) (λ _ _. tt))

pub slice_known : (slice : List ℕ) → Below 256 slice → KnownSlice (blocks_in slice)
unfolding blocks_in
slice_known slice bytes =
    by_test KnownSlice (ltb most_bytes (length slice)) (refused (answer 52 0 0 0)) _ (λ _. told 52 0 (omega arith) (omega arith) (omega arith))
    (λ t. blocks_known 0 1 slice (omega (arith, ltb-false most_bytes (length slice) t)) bytes)
