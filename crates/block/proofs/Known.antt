-- The numbers of a block's answer: listed, and with room in the packing.
use mathlib.Core.Path.{◌≡◌, sym, ap, ◌∙◌}
use mathlib.Core.Bool.{Bool, true, false, not}
use mathlib.Core.List.{List, [], ◌∷◌}
use Prim.Native.Nat.{ℕ, zero, suc, ◌+◌, ◌-◌, ◌^◌, ◌≤◌, ◌<◌}
use native.Mathlib.Omega.{arith}
use borrow.Author.Tests.{ltb-true}
use lib.Bits.{bit_xor, xor_lt}
use lib.Count.{ones, ones-le}
use lib.Dec.{ltb, eqb}
use lib.ListN.{length, take}
use lib.Seq.{length-slice}
use Rattle.std.specs.Prelude.{Result, Ok, if◌then◌else◌}
use Rattle.units.specs.declared.Answer.{Answer}
use Rattle.units.specs.Answers.{answer, Verdict, passed, refused, onward}
use Rattle.units.proofs.Told.{Told, Known}
use Rattle.units.proofs.Choosing.{by_test, both_ways}
use Rattle.words.specs.Words.{words_of, word, words, Below}
use Rattle.words.proofs.Laws.{words_below, get_or_below}
use Rattle.words.proofs.Lists.{all_take, all_drop}
use Rattle.words.proofs.Xor.{fold_below}
use Rattle.words.specs.Scans.{passing, some_fails, is_zero}
use Rattle.counts.specs.Counts.{counts_of, words_needed, in_range}
use Rattle.record.specs.Judging.{card_word, wrong_total, wrong_data_total, judge_content, judge_cards, judge_counts, judge_data, judge_record}
use Rattle.record.proofs.Passed.{total_right}
use Rattle.block.specs.Cases.{BlockRow, judged_of}
use Rattle.block.specs.declared.Refusal.{Refusal}
use Rattle.block.specs.Judging.{wrong_size, inner, checksum_of, walk, judge_words, judged, Accepted}
use Rattle.block.proofs.Size.{SizeRight, size_right}

-- what the judge returned, of a block that it accepts
pub accepted_by : (b : List ℕ) {j : Result ℕ Refusal} {k : ℕ} → judged_of j ≡ judged b → j ≡ Ok k → Accepted b
accepted_by b e is = record { count = _; is = sym e ∙ ap judged_of is }

-- the answer of the judge: its number is one of the paper's, and the others have room
abbrev pub KnownBlock : Verdict ℕ → Type 0
KnownBlock v = Known BlockRow (λ a. a < 2 ^ 16) v

-- of a block whose size and length word are right: rows 3 to 9
abbrev pub WordsRow : ℕ → Type 0
WordsRow n = (3 ≤ n) × (n ≤ 9)

abbrev pub KnownWords : Verdict ℕ → Type 0
KnownWords v = Known WordsRow (λ a. a < 2 ^ 16) v

-- so of any rows that have these
pub words_rows : (Row : ℕ → Type 0) → ((n : ℕ) → WordsRow n → Row n) → (v : Verdict ℕ) → KnownWords v → Known Row (λ a. a < 2 ^ 16) v
words_rows Row f (passed a) h = h
words_rows Row f (refused r) h = record { listed = f r.n h.listed; packs = h.packs }

-- refusal n at record k, with b and c
told_at : (n k b c : ℕ) → WordsRow n → k < 2 ^ 16 → b < 2 ^ 16 → c < 2 ^ 16 → Told WordsRow (answer n k b c)
told_at n k b c hn hk hb hc =
    record { listed = hn; packs = omega arith }

-- one row of the order: its numbers need only be known where its test holds, and the rest where it does not
row : (t : Bool) (r : Answer) (v : Verdict ℕ) → (t ≡ true → Told WordsRow r) → (t ≡ false → KnownWords v) → KnownWords (if t then refused r else v)
row t r v h k = by_test KnownWords t (refused r) v h k

module _ (n : ℕ) (hn : n < 2 ^ 16) (rest : List ℕ) (below : word rest 1 < 2 ^ 16) where
  cards_known : (z : ℕ) → 1 ≤ z → z ≤ 41 → KnownWords (judge_cards n z rest)
  unfolding judge_cards judge_content
  cards_known z low high =
      let front = words rest z 40 in
      let cards = words rest 41 (word rest 1) in
      row (wrong_total (word rest 1) (length rest)) (answer 6 n 1 0) _ (λ _. told_at 6 n 1 0 (omega arith) hn (omega arith) (omega arith))
      (λ w. let right = total_right (word rest 1) (length rest) w in
      row (some_fails is_zero front) (answer 7 n (z + passing is_zero front) 0) _
      (λ t. told_at 7 n (z + passing is_zero front) 0 (omega arith) hn
      (omega (arith, ltb-true (passing is_zero front) (length front) t, length-slice (z - 1) 40 rest (omega arith))) (omega arith))
      (λ _. row (some_fails card_word cards) (answer 8 n (41 + passing card_word cards) 0) _
      (λ t. told_at 8 n (41 + passing card_word cards) 0 (omega arith) hn
      (omega (arith, ltb-true (passing card_word cards) (length cards) t, length-slice 40 (word rest 1) rest right.room)) (omega arith))
      (λ _. below)))

  data_known : KnownWords (judge_data n rest)
  unfolding judge_data judge_counts
  data_known =
      let c = counts_of rest in
      row (wrong_data_total (word rest 1) (length rest)) (answer 6 n 1 0) _ (λ _. told_at 6 n 1 0 (omega arith) hn (omega arith) (omega arith))
      (λ _. row (ltb (in_range c) 4) (answer 9 n (13 + in_range c) 0) _
      (λ t. told_at 9 n (13 + in_range c) 0 (omega arith) hn (omega (arith, ltb-true (in_range c) 4 t)) (omega arith))
      (λ _. row (not (eqb (word rest 1) (words_needed c))) (answer 9 n 1 0) _ (λ _. told_at 9 n 1 0 (omega arith) hn (omega arith) (omega arith))
      (λ _. below)))

  record_known : KnownWords (judge_record n rest)
  unfolding judge_record
  record_known =
      row (ltb (length rest) 16) (answer 4 n 1 0) _ (λ _. told_at 4 n 1 0 (omega arith) hn (omega arith) (omega arith))
      (λ _. both_ways KnownWords (eqb (word rest 2) 2001) (judge_cards n 13 rest) _ (cards_known 13 (omega arith) (omega arith))
      (both_ways KnownWords (eqb (word rest 2) 3002) (judge_cards n 16 rest) _ (cards_known 16 (omega arith) (omega arith))
      (both_ways KnownWords (eqb (word rest 2) 1002) (judge_data n rest) (refused (answer 5 n 2 0)) data_known (told_at 5 n 2 0 (omega arith) hn (omega arith) (omega arith)))))

walk_known : (skip n : ℕ) (ws : List ℕ) → n + length ws < 2 ^ 16 → Below 65536 ws → KnownWords (walk skip n ws)
unfolding walk
walk_known skip n [] h b = omega arith
walk_known (suc skip) n (w ∷ ws) h b = walk_known skip n ws (omega arith) b.1
walk_known zero n (w ∷ ws) h b =
    by (judge_record n (w ∷ ws)) (record_known n (omega arith) (w ∷ ws) b.0) (λ k. walk_known (k - 1) (n + 1) ws (omega arith) b.1)
  where
    by : (v : Verdict ℕ) → KnownWords v → ((k : ℕ) → KnownWords (walk (k - 1) (n + 1) ws)) → KnownWords (onward v (λ k. walk (k - 1) (n + 1) ws))
    by (passed k) h on = on k
    by (refused r) h on = h

pub words_known : (b : List ℕ) → Below 256 b → SizeRight (length b) (length (words_of b)) → KnownWords (judge_words (words_of b))
words_known b bytes s =
    let ws = words_of b in
    let stored = word ws (length ws) in
    let below = words_below b bytes in
    let front = all_take (λ w. w < 65536) (length ws - 1) ws below in
    row (not (eqb stored (checksum_of ws))) (answer 3 0 0 (ones (bit_xor stored (checksum_of ws)))) _
    (λ _. told_at 3 0 0 (ones (bit_xor stored (checksum_of ws))) (omega arith) (omega arith) (omega arith)
    (omega (arith, ones-le 16 (bit_xor stored (checksum_of ws)) (xor_lt 16 stored (checksum_of ws) (get_or_below 65536 ws (length ws - 1) (omega arith) below) (fold_below (take (length ws - 1) ws) front)))))
    (λ _. walk_known 0 1 (inner ws) (omega (arith, s.most, length-slice 1 (length ws - 1) ws (omega arith))) (all_drop (λ w. w < 65536) 1 (take (length ws - 1) ws) front))

pub judged_known : (b : List ℕ) → Below 256 b → KnownBlock (judged b)
unfolding judged
judged_known b bytes =
    let ws = words_of b in
    by_test KnownBlock (wrong_size (length b)) (refused (answer 1 0 0 0)) _ (λ _. record { listed = omega arith; packs = omega arith })
    (λ t. both_ways KnownBlock (not (eqb (word ws 1) (length ws))) (refused (answer 2 0 0 0)) _ (record { listed = omega arith; packs = omega arith })
    (words_rows BlockRow (λ n h. omega arith) (judge_words ws) (words_known b bytes (size_right b t))))
