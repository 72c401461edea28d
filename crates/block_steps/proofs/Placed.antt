-- On an accepted block a step and a search find just the block's records, each at its place.
use mathlib.Core.Path.{◌≡◌, refl, sym, ap, ◌∙◌}
use mathlib.Core.Bool.{Bool, true, false}
use mathlib.Core.List.{List, [], ◌∷◌, ◌++◌, append_assoc, append-nil}
use Prim.Native.Nat.{ℕ, zero, suc, ◌+◌, ◌-◌, ◌≤◌, ◌<◌}
use native.Mathlib.Nat.{add-zero, add_assoc}
use native.Mathlib.Omega.{arith}
use borrow.Author.Tests.{eqb-false, lt-ltb, le-ltb, ne_eqb}
use lib.Dec.{eqb}
use lib.ListN.{length, get_or, take, drop, length-append, length-drop, get_or-append}
use lib.Seq.{slice, drop-drop, take-append_seam, drop-append_seam, get_or-drop}
use Rattle.std.specs.Prelude.{None, if◌then◌else◌}
use Rattle.units.specs.Answers.{passed}
use Rattle.words.specs.Words.{words_of, word, joined, framed, All, Below, most_words}
use Rattle.words.proofs.Lists.{part_slice}
use Rattle.record.specs.Rules.{RecordOk}
use Rattle.block.specs.Judging.{judged}
use Rattle.block.specs.Records.{records_of}
use Rattle.block_steps.specs.Steps.{place_of, step_of, past, find_of, placed}
use Rattle.block.proofs.Exact.{ok_long, frame_ok, only_good, words_are}

-- the word at a place is the first of the record that stands there
first_word : (ws : List ℕ) (at : ℕ) (r rest : List ℕ) → drop at ws ≡ r ++ rest → 0 < length r → get_or ws at 0 ≡ word r 1
first_word ws at r rest e h = sym (rw add-zero at (get_or-drop at ws 0 0)) ∙ ap (λ l. get_or l 0 0) e ∙ get_or-append r rest 0 0 h

-- good records that are left from a place on, behind the length word and before the checksum
pub record LeftFrom (ws : List ℕ) (at : ℕ) (rs : List (List ℕ)) : Type 0 where
  pub each : All RecordOk rs
  pub checksum : ℕ
  pub stand : drop at ws ≡ joined rs ++ (checksum ∷ [])
  pub start : 1 ≤ at
  pub most : length ws ≤ most_words

-- the first of them is what a step finds, and behind it the others are left
pub record FirstOfLeft (ws : List ℕ) (at : ℕ) (r : List ℕ) (rs : List (List ℕ)) : Type 0 where
  pub ok : RecordOk r
  pub long : 16 ≤ length r
  pub within : at + length r < length ws
  pub found : step_of ws at ≡ place_of at (length r)
  pub words : slice at (at + length r) ws ≡ r
  pub left : LeftFrom ws (at + length r) rs

module _ {ws : List ℕ} {at : ℕ} where
  pub first_left : {r : List ℕ} {rs : List (List ℕ)} → LeftFrom ws at (r ∷ rs) → FirstOfLeft ws at r rs
  unfolding joined step_of
  first_left {r} {rs} l =
      let n = length r in
      let ok = l.each.0 in
      let long = ok_long r ok in
      let end = l.checksum ∷ [] in
      let e : drop at ws ≡ r ++ (joined rs ++ end) = l.stand ∙ append_assoc r (joined rs) end in
      let all : length ws ≡ at + n + length (joined rs) + 1 =
      omega (arith, length-drop at ws, ap length e, length-append r (joined rs ++ end), length-append (joined rs) end) in
      let said : get_or ws at 0 ≡ n = first_word ws at r (joined rs ++ end) e (omega arith) ∙ ok.total in
      let k : at + n - at ≡ n = omega arith in
      record {
        ok = ok;
        long = long;
        within = omega arith;
        found = simp (said, ne_eqb n 0 (λ z. omega arith), le-ltb (length ws - 1 - at) n (omega arith));
        words = sym (part_slice at (at + n) ws (omega arith)) ∙ ap (λ m. take m (drop at ws)) k ∙ ap (take n) e ∙ take-append_seam r (joined rs ++ end);
        left =
            record {
              each = l.each.1;
              checksum = l.checksum;
              stand = sym (drop-drop n at ws) ∙ ap (drop n) e ∙ drop-append_seam r (joined rs ++ end);
              start = omega (arith, l.start);
              most = l.most;
            };
      }

  -- where none is left a step finds none
  pub none_left : LeftFrom ws at [] → step_of ws at ≡ None
  unfolding joined step_of
  none_left l = by (eqb (get_or ws at 0) 0) refl
    where
      by : (t : Bool) → eqb (get_or ws at 0) 0 ≡ t → step_of ws at ≡ None
      by true q = simp q
      by false q =
          let one : length ws ≡ at + 1 = omega (arith, length-drop at ws, ap length l.stand) in
          simp (q, lt-ltb (length ws - 1 - at) (get_or ws at 0) (omega (arith, eqb-false (get_or ws at 0) 0 q)))

finds : (ws : List ℕ) (rs : List (List ℕ)) (at n : ℕ) → LeftFrom ws at rs → find_of ws at n ≡ placed rs at n
unfolding find_of placed
finds ws [] at zero l = refl
finds ws [] at (suc n) l = rw (none_left l) (by (eqb n 0))
  where
    by : (t : Bool) → (if t then None else past None (λ next. find_of ws next n)) ≡ None
    by true = refl
    by false = refl
finds ws (r ∷ rs) at zero l = refl
finds ws (r ∷ rs) at (suc n) l =
    let f = first_left l in
    rw f.found (ap (λ s. if eqb n 0 then place_of at (length r) else s) (finds ws rs (at + length r) n f.left))

-- behind some of them the others are left
left_behind : (ws : List ℕ) (before after : List (List ℕ)) (at : ℕ) → LeftFrom ws at (before ++ after) → LeftFrom ws (at + length (joined before)) after
unfolding joined
left_behind ws [] after at l = rw add-zero l
left_behind ws (r ∷ before) after at l = rw (length-append, ← add_assoc) (left_behind ws before after (at + length r) (first_left l).left)

module _ (b : List ℕ) (k : ℕ) (bytes : Below 256 b) (accepted : judged b ≡ passed k) where
  -- at the start all records are left
  pub all_left : LeftFrom (words_of b) 1 (records_of b)
  unfolding framed
  all_left =
      let good = (only_good b k bytes accepted).0 in
      record { each = good.each; checksum = _; stand = ap (drop 1) (words_are b (records_of b) good); start = omega arith; most = (frame_ok b k accepted).size.most }

  pub others_left : (before after : List (List ℕ)) → records_of b ≡ before ++ after → LeftFrom (words_of b) (1 + length (joined before)) after
  others_left before after e = left_behind (words_of b) before after 1 (rw e at all_left)

  pub step_record : (before after : List (List ℕ)) (r : List ℕ) → records_of b ≡ before ++ r ∷ after
      → step_of (words_of b) (1 + length (joined before)) ≡ place_of (1 + length (joined before)) (length r)
  step_record before after r e = (first_left (others_left before (r ∷ after) e)).found

  pub step_no_more : step_of (words_of b) (1 + length (joined (records_of b))) ≡ None
  step_no_more = none_left (others_left (records_of b) [] (sym (append-nil (records_of b))))

  pub find_record : (n : ℕ) → find_of (words_of b) 1 n ≡ placed (records_of b) 1 n
  find_record n = finds (words_of b) (records_of b) 1 n all_left
