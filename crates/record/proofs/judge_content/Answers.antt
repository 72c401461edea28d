use Rattle.record.specs.Judging.{judge_content}
use Rattle.words.specs.Scans.{passing, word_within, is_zero}
use Rattle.words.specs.Words.{words_of, words}
use Rattle.words.proofs.Scans.{scan_same, zero_within}
use lib.ListN.{length}
use lib.Seq.{length-slice}
use native.Mathlib.Omega.{arith}
use mathlib.Core.List.{List}
use mathlib.Core.Path.{◌≡◌, sym, ◌∙◌}
use Prim.Native.Nat.{ℕ, ◌-◌, ◌≤◌}
use borrow.Author.Tests.{lt-ltb, le-ltb}
use Rattle.record.proofs.judge_content.Goals as goal

-- the words that must be zero: how many they are, and how many are before one that is not
module _ (first : ℕ) (ws : List ℕ) (low : 1 ≤ first) (high : first ≤ 40) (long : 40 ≤ length ws) where
  front_long : length (words ws first 40) ≡ 41 - first
  front_long = length-slice (first - 1) 40 ws long ∙ omega arith

zeros_are : (ws : List ℕ) {zeros : ℕ} → zeros ≡ passing (word_within 0 0) ws → passing is_zero ws ≡ zeros
zeros_are ws e = sym (e ∙ scan_same (word_within 0 0) is_zero zero_within ws)

pub returns-then-zeros-z : goal.returns-then-zeros-z
unfolding judge_content
returns-then-zeros-z c =
    let r = c.requires.0 in
    let long = front_long c.args.first.0 (words_of c.args.rest.now) (omega arith) (omega arith) (omega arith) in
    simp (zeros_are _ c.passing_in-zeros.ensures, long, lt-ltb _ _ c.if-zeros-z.true)

pub returns-then-cards-total : goal.returns-then-cards-total
unfolding judge_content
returns-then-cards-total c =
    let r = c.requires.0 in
    let long = front_long c.args.first.0 (words_of c.args.rest.now) (omega arith) (omega arith) (omega arith) in
    simp (zeros_are _ c.passing_in-zeros.ensures, long, le-ltb _ _ c.if-zeros-z.false, ← c.passing_in-cards.ensures, length-slice 40 c.args.total.0 (words_of c.args.rest.now) r.room, lt-ltb _ _ c.if-cards-total.true)

pub returns : goal.returns
unfolding judge_content
returns c =
    let r = c.requires.0 in
    let long = front_long c.args.first.0 (words_of c.args.rest.now) (omega arith) (omega arith) (omega arith) in
    simp (zeros_are _ c.passing_in-zeros.ensures, long, le-ltb _ _ c.if-zeros-z.false, ← c.passing_in-cards.ensures, length-slice 40 c.args.total.0 (words_of c.args.rest.now) r.room, le-ltb _ _ c.if-cards-total.false)
