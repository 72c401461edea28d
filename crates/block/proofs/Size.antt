-- A size that is right: an even count of bytes, 18 to 8,000 words.
use mathlib.Core.Path.{◌≡◌}
use mathlib.Core.Bool.{false, not}
use mathlib.Core.List.{List}
use Prim.Native.Nat.{ℕ, ◌%◌, ◌≤◌}
use native.Mathlib.Omega.{arith}
use borrow.Author.Tests.{ltb-false, eqb-true, not-false, le-ltb, eq-eqb}
use lib.Dec.{ltb, eqb}
use lib.ListN.{length}
use Rattle.units.proofs.Verdicts.{or_off}
use Rattle.words.specs.Words.{words_of, most_words}
use Rattle.words.proofs.Laws.{length_words_of}
use Rattle.block.specs.Judging.{wrong_size}

pub record SizeRight (bytes words : ℕ) : Type 0 where
  pub even : bytes % 2 ≡ 0
  pub least : 18 ≤ words
  pub most : words ≤ most_words

pub size_right : (b : List ℕ) → wrong_size (length b) ≡ false → SizeRight (length b) (length (words_of b))
unfolding wrong_size
size_right b e =
    let o = or_off (not (eqb (length b % 2) 0)) _ e in
    let p = or_off (ltb (length b) 36) _ o.1 in
    let even = eqb-true (length b % 2) 0 (not-false _ o.0) in
    let l = length_words_of b in
    record {
      even = even;
      least = omega (arith, ltb-false (length b) 36 p.0);
      most = omega (arith, ltb-false 16000 (length b) p.1);
    }

pub right_size : (b : List ℕ) → SizeRight (length b) (length (words_of b)) → wrong_size (length b) ≡ false
unfolding wrong_size
right_size b h =
    let l = length_words_of b in
    simp (eq-eqb (length b % 2) 0 h.even, le-ltb (length b) 36 (omega arith), le-ltb 16000 (length b) (omega arith))
