-- A block is accepted exactly where it keeps the rules, and it can be cut into records in one way only.
use mathlib.Core.Path.{◌≡◌, refl, sym, ap, ap₂, ◌∙◌}
use mathlib.Core.Bool.{not}
use mathlib.Core.List.{List, [], ◌∷◌, ◌++◌}
use Prim.Native.Nat.{ℕ, zero, suc, ◌+◌, ◌-◌, ◌*◌, ◌≤◌, ◌<◌}
use native.Mathlib.Numerals.{sub-one}
use native.Mathlib.Omega.{arith}
use borrow.Author.Tests.{eqb-true, not-false, eq-eqb}
use lib.Dec.{eqb}
use lib.ListN.{length, get_or, take, drop, drop_of_length-le, length-append, take-append-drop}
use lib.Seq.{slice, drop-nil, length-take-le, get_or-take, length-slice, drop-append_seam, take-append_seam, take_at, get_or_at, drop-cons}
use Rattle.units.specs.Answers.{answer, Verdict, passed, refused}
use Rattle.units.proofs.Verdicts.{never_passed, else_passed}
use Rattle.words.specs.Words.{words_of, bytes_of, xor_all, word, joined, framed, All, Below, most_record_words}
use Rattle.words.proofs.Laws.{length_bytes_of, bytes_words, words_bytes, words_below}
use Rattle.words.proofs.Lists.{all_take, all_drop}
use Rattle.record.specs.Judging.{judge_record}
use Rattle.record.specs.Rules.{RecordOk}
use Rattle.record.proofs.Passed.{record_passed, passed_size, passed_record}
use Rattle.record.proofs.Exact.{record_ok, ok_passes}
use Rattle.block.specs.Judging.{wrong_size, inner, checksum_of, walk, judged}
use Rattle.block.specs.Records.{cut, records_of}
use Rattle.block.specs.Rules.{IsBlock}
use Rattle.block.proofs.Size.{SizeRight, size_right, right_size}
use Rattle.block.proofs.Walk.{walk_on, walk_end}

-- ---- the records

-- the records that a walk accepts: they keep the rules, and are all that there is
record CutInto (ws : List ℕ) (rs : List (List ℕ)) (n k : ℕ) : Type 0 where
  pub each : All RecordOk rs
  pub parts : joined rs ≡ ws
  pub count : n + length rs ≡ k + 1

no_records : (n k : ℕ) → 1 ≤ n → passed (n - 1) ≡ passed k → CutInto [] [] n k
unfolding joined
no_records n k h e =
    let q : n - 1 ≡ k = cc in
    record { each = tt; parts = refl; count = omega arith }

walked : (skip n k : ℕ) (ws : List ℕ) → 1 ≤ n → Below 65536 ws → walk skip n ws ≡ passed k → CutInto (drop skip ws) (cut skip ws) n k
unfolding walk cut joined
walked skip n k [] h b e = rw drop-nil (no_records n k h e)
walked (suc skip) n k (w ∷ ws) h b e = walked skip n k ws h b.1 e
walked zero n k (w ∷ ws) h b e = by (judge_record n (w ∷ ws)) refl (λ j. walked (j - 1) (n + 1) k ws (omega arith) b.1)
  where
    rest : List ℕ
    rest = w ∷ ws

    one : (j : ℕ) → judge_record n rest ≡ passed (suc j) → CutInto (drop j ws) (cut j ws) (n + 1) k → CutInto rest (take (suc j) rest ∷ cut j ws) n k
    one j q r =
        record {
          each = (record_ok rest (suc j) b (record_passed n rest (suc j) q), r.each);
          parts = ap (λ t. take (suc j) rest ++ t) r.parts ∙ take-append-drop (suc j) rest;
          count = omega (arith, r.count);
        }

    by : (v : Verdict ℕ) → judge_record n rest ≡ v → ((j : ℕ) → walk (j - 1) (n + 1) ws ≡ passed k → CutInto (drop (j - 1) ws) (cut (j - 1) ws) (n + 1) k)
        → CutInto rest (take w rest ∷ cut (w - 1) ws) n k
    by (refused a) q ih = absurd (never_passed (rw q at e))
    by (passed zero) q ih = absurd (omega (arith, (passed_size n rest zero q).least))
    by (passed (suc j)) q ih =
        let s : w ≡ suc j = (passed_size n rest (suc j) q).says in
        rw (s, sub-one) (rw s at (one j q (rw sub-one at (ih (suc j) (rw q at e)))))

cut-drop : (skip : ℕ) (ws : List ℕ) → cut skip ws ≡ cut 0 (drop skip ws)
unfolding cut
cut-drop skip [] = rw drop-nil
cut-drop zero (w ∷ ws) = refl
cut-drop (suc skip) (w ∷ ws) = cut-drop skip ws

-- a record in front is cut off
cut_on : (r rest : List ℕ) → word r 1 ≡ length r → 1 ≤ length r → cut 0 (r ++ rest) ≡ r ∷ cut 0 rest
unfolding cut
cut_on [] rest e h = absurd (omega arith)
cut_on (w ∷ r) rest e h =
    let s : w ≡ suc (length r) = e in
    rw (s, sub-one) (ap₂ (λ (x : List ℕ) (y : List (List ℕ)). x ∷ y) (rw (← s) (take-append_seam (w ∷ r) rest)) (cut-drop (length r) (r ++ rest) ∙ ap (cut 0) (drop-append_seam r rest)))

-- a good record passes where it stands first, and has 16 words or more
first_passes : (n : ℕ) (r tail : List ℕ) → RecordOk r → judge_record n (r ++ tail) ≡ passed (length r)
first_passes n r tail h = passed_record n (r ++ tail) (length r) (ok_passes r tail h)

pub ok_long : (r : List ℕ) → RecordOk r → 16 ≤ length r
ok_long r h = (passed_size 1 (r ++ []) (length r) (first_passes 1 r [] h)).least

cut-joined : (rs : List (List ℕ)) → All RecordOk rs → cut 0 (joined rs) ≡ rs
unfolding joined cut
cut-joined [] h = refl
cut-joined (r ∷ rs) h = cut_on r (joined rs) h.0.total (omega (arith, ok_long r h.0)) ∙ ap (λ t. r ∷ t) (cut-joined rs h.1)

walk-joined : (rs : List (List ℕ)) (n : ℕ) → All RecordOk rs → walk 0 n (joined rs) ≡ passed (n + length rs - 1)
unfolding joined
walk-joined [] n h = walk_end n ∙ ap (λ j. passed (j - 1)) (omega arith)
walk-joined (r ∷ rs) n h =
    let long = ok_long r h.0 in
    walk_on n (length r) (r ++ joined rs) (omega (arith, length-append r (joined rs))) (first_passes n r (joined rs) h.0)
    ∙ ap (walk 0 (n + 1)) (drop-append_seam r (joined rs))
    ∙ walk-joined rs (n + 1) h.1
    ∙ ap (λ j. passed j) (omega arith)

-- ---- the frame

-- a list with its last element apart
module _ (ws p : List ℕ) (x : ℕ) (e : ws ≡ p ++ (x ∷ [])) where
  front_length : length p ≡ length ws - 1
  front_length = omega (arith, length-append p (x ∷ []), ap length e)

  front : take (length ws - 1) ws ≡ p
  front = ap (take (length ws - 1)) e ∙ take_at p (x ∷ []) (length ws - 1) front_length

  back : get_or ws (length ws - 1) 0 ≡ x
  back = ap (λ l. get_or l (length ws - 1) 0) e ∙ get_or_at p x [] 0 (length ws - 1) front_length

-- two words or more: the first, those between, and the last
three_parts : (ws : List ℕ) → 2 ≤ length ws → ws ≡ (word ws 1 ∷ inner ws) ++ (word ws (length ws) ∷ [])
three_parts ws h =
    let n = length ws - 1 in
    let m = length-take-le n ws (omega arith) in
    let first : take n ws ≡ get_or ws 0 0 ∷ slice 1 n ws = drop-cons (take n ws) 0 0 (omega arith) ∙ ap (λ w. w ∷ slice 1 n ws) (get_or-take n ws 0 0 (omega arith)) in
    let last : drop n ws ≡ get_or ws n 0 ∷ [] = drop-cons ws n 0 (omega arith) ∙ ap (λ l. get_or ws n 0 ∷ l) (drop_of_length-le ws {i = suc n} (omega arith)) in
    sym (take-append-drop n ws) ∙ cc (first, last)

-- words whose first and last are right are the frame of those between
frame_is : (ws : List ℕ) → 2 ≤ length ws → word ws 1 ≡ length ws → word ws (length ws) ≡ checksum_of ws → ws ≡ framed (inner ws)
unfolding framed
frame_is ws h first sum =
    let e = three_parts ws h in
    let l : length ws ≡ length (inner ws) + 2 = omega (arith, length-slice 1 (length ws - 1) ws (omega arith)) in
    let p : word ws 1 ∷ inner ws ≡ (length (inner ws) + 2) ∷ inner ws = ap (λ w. w ∷ inner ws) (first ∙ l) in
    e ∙ ap₂ (λ (q : List ℕ) (x : ℕ). q ++ (x ∷ [])) p (sum ∙ ap xor_all (front ws _ _ e ∙ p))

-- and of a frame, word 1, the last word and the words between are known
pub record Framed (ws : List ℕ) : Type 0 where
  pub size : length (framed ws) ≡ length ws + 2
  pub first : word (framed ws) 1 ≡ length (framed ws)
  pub last : word (framed ws) (length (framed ws)) ≡ checksum_of (framed ws)
  pub between : inner (framed ws) ≡ ws

pub frame_of : (ws : List ℕ) → Framed ws
unfolding framed
frame_of ws =
    let p = (length ws + 2) ∷ ws in
    let x = xor_all p in
    let l : length (framed ws) ≡ length ws + 2 = omega (arith, length-append ws (x ∷ [])) in
    record {
      size = l;
      first = sym l;
      last = back (framed ws) p x refl ∙ ap xor_all (sym (front (framed ws) p x refl));
      between = ap (drop 1) (front (framed ws) p x refl);
    }

-- ---- the block

-- the tests of the frame, as facts
pub record FrameOk (b : List ℕ) (k : ℕ) : Type 0 where
  pub size : SizeRight (length b) (length (words_of b))
  pub first : word (words_of b) 1 ≡ length (words_of b)
  pub last : word (words_of b) (length (words_of b)) ≡ checksum_of (words_of b)
  pub records : walk 0 1 (inner (words_of b)) ≡ passed k

pub frame_ok : (b : List ℕ) (k : ℕ) → judged b ≡ passed k → FrameOk b k
unfolding judged
frame_ok b k e =
    let ws = words_of b in
    let s = else_passed (wrong_size (length b)) (answer 1 0 0 0) _ k e in
    let c = else_passed (not (eqb (word ws 1) (length ws))) (answer 2 0 0 0) _ k s.1 in
    let x = else_passed (not (eqb (word ws (length ws)) (checksum_of ws))) (answer 3 0 0 _) _ k c.1 in
    record {
      size = size_right b s.0;
      first = eqb-true (word ws 1) (length ws) (not-false _ c.0);
      last = eqb-true (word ws (length ws)) (checksum_of ws) (not-false _ x.0);
      records = x.1;
    }

ok_frame : (b : List ℕ) (k : ℕ) → FrameOk b k → judged b ≡ passed k
unfolding judged
ok_frame b k f =
    let ws = words_of b in
    simp (right_size b f.size, eq-eqb (word ws 1) (length ws) f.first, eq-eqb (word ws (length ws)) (checksum_of ws) f.last) f.records

below_inner : (b : List ℕ) → Below 256 b → Below 65536 (inner (words_of b))
below_inner b h =
    let ws = words_of b in
    all_drop (λ w. w < 65536) 1 (take (length ws - 1) ws) (all_take (λ w. w < 65536) (length ws - 1) ws (words_below b h))

-- the records of an accepted block
cut_of : (b : List ℕ) (k : ℕ) → Below 256 b → FrameOk b k → CutInto (inner (words_of b)) (records_of b) 1 k
unfolding records_of
cut_of b k h f = walked 0 1 k (inner (words_of b)) (omega arith) (below_inner b h) f.records

pub some_record : (rs : List (List ℕ)) → 1 ≤ length (joined rs) → 1 ≤ length rs
unfolding joined
some_record [] h = h
some_record (r ∷ rs) h = omega arith

-- what is accepted is a good block of its records
pub only_good : (b : List ℕ) (k : ℕ) → Below 256 b → judged b ≡ passed k → IsBlock b (records_of b) × (length (records_of b) ≡ k)
only_good b k h e =
    let f = frame_ok b k e in
    let ws = words_of b in
    let c = cut_of b k h f in
    let l = length-slice 1 (length ws - 1) ws (omega arith) in
    let most : length (joined (records_of b)) ≤ most_record_words = omega (arith, ap length c.parts, f.size.most) in
    let least : 1 ≤ length (joined (records_of b)) = omega (arith, ap length c.parts, f.size.least) in (
      record {
        bytes = sym (bytes_words b f.size.even h) ∙ ap bytes_of (frame_is ws (omega (arith, f.size.least)) f.first f.last ∙ ap framed (sym c.parts));
        each = c.each;
        some = some_record (records_of b) least;
        most = most;
      },
      omega (arith, c.count),
    )

-- a good block of records is accepted, with their number, and they are its records
module _ (b : List ℕ) (rs : List (List ℕ)) (g : IsBlock b rs) where
  pub words_are : words_of b ≡ framed (joined rs)
  words_are = ap words_of g.bytes ∙ words_bytes (framed (joined rs))

  inner_are : inner (words_of b) ≡ joined rs
  inner_are = ap inner words_are ∙ (frame_of (joined rs)).between

  long : 16 ≤ length (joined rs)
  unfolding joined
  long = by rs g.some g.each
    where
      by : (l : List (List ℕ)) → 1 ≤ length l → All RecordOk l → 16 ≤ length (joined l)
      by [] h a = absurd (omega arith)
      by (r ∷ l) h a = omega (arith, ok_long r a.0, length-append r (joined l))

  frame_good : FrameOk b (length rs)
  frame_good =
      let f = frame_of (joined rs) in
      let w = words_are in
      let size : length b ≡ length (framed (joined rs)) * 2 = ap length g.bytes ∙ length_bytes_of (framed (joined rs)) in
      record {
        size = record { even = omega arith; least = omega (arith, ap length w, f.size, long); most = omega (arith, ap length w, f.size, g.most) };
        first = rw w f.first;
        last = rw w f.last;
        records = ap (walk 0 1) inner_are ∙ walk-joined rs 1 g.each ∙ ap (λ j. passed j) (omega arith);
      }

  pub every_good : judged b ≡ passed (length rs)
  every_good = ok_frame b (length rs) frame_good

  pub its_records : records_of b ≡ rs
  unfolding records_of
  its_records = ap (cut 0) inner_are ∙ cut-joined rs g.each
