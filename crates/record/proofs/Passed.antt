-- What is known of a record that passed, and that it passes where this is known.
use mathlib.Core.Path.{◌≡◌, refl, sym, ◌∙◌}
use mathlib.Core.Bool.{Bool, true, false, not, ◌||◌}
use mathlib.Core.List.{List}
use Prim.Native.Nat.{ℕ, ◌%◌, ◌≤◌}
use native.Mathlib.Omega.{arith}
use borrow.Author.Tests.{ltb-false, eqb-true, not-false, le-ltb, eq-eqb}
use lib.Dec.{ltb, eqb}
use lib.ListN.{length}
use Rattle.std.specs.Prelude.{if◌then◌else◌}
use Rattle.units.specs.Answers.{answer, passed, refused}
use Rattle.units.proofs.Verdicts.{never_passed, else_passed, or_off}
use Rattle.words.specs.Words.{word, words}
use Rattle.words.specs.Scans.{passing, some_fails, is_zero}
use Rattle.counts.specs.Counts.{counts_of, words_needed, in_range}
use Rattle.counts.specs.Rules.{CountsOk}
use Rattle.counts.proofs.FourCounts.{range_ok, ok_range}
use Rattle.record.specs.Judging.{TotalRight, card_word, wrong_total, judge_content, judge_cards, judge_counts, judge_data, judge_record}

pub total_right : (total left : ℕ) → wrong_total total left ≡ false → TotalRight total left
unfolding wrong_total
total_right total left e =
    let o = or_off (ltb total 40) _ e in
    let p = or_off (not (eqb (total % 40) 0)) _ o.1 in
    record {
      least = ltb-false total 40 o.0;
      whole = eqb-true (total % 40) 0 (not-false _ p.0);
      room = ltb-false left total p.1;
    }

right_total : (total left : ℕ) → TotalRight total left → wrong_total total left ≡ false
unfolding wrong_total
right_total total left h = simp (le-ltb total 40 h.least, eq-eqb (total % 40) 0 h.whole, le-ltb left total h.room)

-- a Catalogue or a Header of k words that passed
pub record CardsPassed (z : ℕ) (rest : List ℕ) (k : ℕ) : Type 0 where
  pub total : word rest 1 ≡ k
  pub right : TotalRight k (length rest)
  pub zeros : length (words rest z 40) ≤ passing is_zero (words rest z 40)
  pub cards : length (words rest 41 k) ≤ passing card_word (words rest 41 k)

cards_passed : (n z : ℕ) (rest : List ℕ) (k : ℕ) → judge_cards n z rest ≡ passed k → CardsPassed z rest k
unfolding judge_cards judge_content
cards_passed n z rest k e =
    let a = else_passed (wrong_total (word rest 1) (length rest)) _ _ _ e in
    let b = else_passed (some_fails is_zero (words rest z 40)) _ _ _ a.1 in
    let d = else_passed (some_fails card_word (words rest 41 (word rest 1))) _ _ _ b.1 in
    let t : word rest 1 ≡ k = cc d.1 in
    record {
      total = t;
      right = rw t at (total_right (word rest 1) (length rest) a.0);
      zeros = ltb-false (passing is_zero (words rest z 40)) (length (words rest z 40)) b.0;
      cards = rw t at (ltb-false (passing card_word (words rest 41 (word rest 1))) (length (words rest 41 (word rest 1))) d.0);
    }

passed_cards : (n z : ℕ) (rest : List ℕ) (k : ℕ) → CardsPassed z rest k → judge_cards n z rest ≡ passed k
unfolding judge_cards judge_content
passed_cards n z rest k c = simp (c.total, right_total k (length rest) c.right, le-ltb _ _ c.zeros, le-ltb _ _ c.cards)

-- a Data record of k words that passed
pub record DataPassed (rest : List ℕ) (k : ℕ) : Type 0 where
  pub total : word rest 1 ≡ k
  pub least : 16 ≤ k
  pub room : k ≤ length rest
  pub counts : CountsOk (counts_of rest)
  pub sum : k ≡ words_needed (counts_of rest)

data_passed : (n : ℕ) (rest : List ℕ) (k : ℕ) → judge_data n rest ≡ passed k → DataPassed rest k
unfolding judge_data judge_counts
data_passed n rest k e =
    let a = else_passed (ltb (word rest 1) 16 || ltb (length rest) (word rest 1)) _ _ _ e in
    let r = else_passed (ltb (in_range (counts_of rest)) 4) _ _ _ a.1 in
    let s = else_passed (not (eqb (word rest 1) (words_needed (counts_of rest)))) _ _ _ r.1 in
    let t : word rest 1 ≡ k = cc s.1 in
    let o = or_off (ltb (word rest 1) 16) _ a.0 in
    record {
      total = t;
      least = omega (arith, ltb-false (word rest 1) 16 o.0);
      room = omega (arith, ltb-false (length rest) (word rest 1) o.1);
      counts = range_ok (counts_of rest) (ltb-false _ _ r.0);
      sum = sym t ∙ eqb-true (word rest 1) _ (not-false _ s.0);
    }

passed_data : (n : ℕ) (rest : List ℕ) (k : ℕ) → DataPassed rest k → judge_data n rest ≡ passed k
unfolding judge_data judge_counts
passed_data n rest k c =
    simp
    (c.total, le-ltb k 16 c.least, le-ltb (length rest) k c.room, ok_range (counts_of rest) c.counts, eq-eqb k (words_needed (counts_of rest)) c.sum)

-- a record that passed, by its kind
pub data RecordPassed (rest : List ℕ) (k : ℕ) : Type 0 where
  a_catalogue : word rest 2 ≡ 2001 → CardsPassed 13 rest k → RecordPassed rest k
  a_header : word rest 2 ≡ 3002 → CardsPassed 16 rest k → RecordPassed rest k
  a_data : word rest 2 ≡ 1002 → DataPassed rest k → RecordPassed rest k

kind_passed : (n : ℕ) (rest : List ℕ) (k : ℕ) (c h d : Bool) → eqb (word rest 2) 2001 ≡ c → eqb (word rest 2) 3002 ≡ h → eqb (word rest 2) 1002 ≡ d
    → (if c then judge_cards n 13 rest else if h then judge_cards n 16 rest else if d then judge_data n rest else refused (answer 5 n 2 0)) ≡ passed k
    → RecordPassed rest k
kind_passed n rest k true h d ec eh ed e = a_catalogue (eqb-true _ _ ec) (cards_passed n 13 rest k e)
kind_passed n rest k false true d ec eh ed e = a_header (eqb-true _ _ eh) (cards_passed n 16 rest k e)
kind_passed n rest k false false true ec eh ed e = a_data (eqb-true _ _ ed) (data_passed n rest k e)
kind_passed n rest k false false false ec eh ed e = absurd (never_passed e)

pub record_passed : (n : ℕ) (rest : List ℕ) (k : ℕ) → judge_record n rest ≡ passed k → RecordPassed rest k
unfolding judge_record
record_passed n rest k e = kind_passed n rest k _ _ _ refl refl refl (else_passed (ltb (length rest) 16) _ _ _ e).1

-- what passed is 16 words or more, no longer than what is left, and says its length
pub record SizeSaid (rest : List ℕ) (k : ℕ) : Type 0 where
  pub least : 16 ≤ k
  pub most : k ≤ length rest
  pub says : word rest 1 ≡ k

room : {rest : List ℕ} {k : ℕ} → RecordPassed rest k → SizeSaid rest k
room (a_catalogue e c) = record { least = omega (arith, c.right.least); most = c.right.room; says = c.total }
room (a_header e c) = record { least = omega (arith, c.right.least); most = c.right.room; says = c.total }
room (a_data e c) = record { least = c.least; most = c.room; says = c.total }

pub passed_size : (n : ℕ) (rest : List ℕ) (k : ℕ) → judge_record n rest ≡ passed k → SizeSaid rest k
passed_size n rest k e = room (record_passed n rest k e)

pub passed_record : (n : ℕ) (rest : List ℕ) (k : ℕ) → RecordPassed rest k → judge_record n rest ≡ passed k
unfolding judge_record
passed_record n rest k r = by r (room r)
  where
    by : RecordPassed rest k → SizeSaid rest k → judge_record n rest ≡ passed k
    by (a_catalogue e c) m = simp (le-ltb (length rest) 16 (omega arith), e) (passed_cards n 13 rest k c)
    by (a_header e c) m = simp (le-ltb (length rest) 16 (omega arith), e) (passed_cards n 16 rest k c)
    by (a_data e c) m = simp (le-ltb (length rest) 16 (omega arith), e) (passed_data n rest k c)
