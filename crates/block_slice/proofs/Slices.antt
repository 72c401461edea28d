-- The walk over a slice finds its blocks exactly where it is accepted blocks one after the other.
use mathlib.Core.Path.{◌≡◌, refl, sym, ap, ◌∙◌}
use mathlib.Core.Bool.{false}
use mathlib.Core.List.{List, [], ◌∷◌, ◌++◌, append_assoc}
use Prim.Native.Nat.{ℕ, zero, suc, ◌+◌, ◌-◌, ◌≤◌, ◌<◌}
use native.Mathlib.Nat.{add-zero}
use native.Mathlib.Numerals.{sub-one}
use native.Mathlib.Omega.{arith}
use borrow.Author.Tests.{ltb-false, le-ltb, ne_eqb}
use lib.Dec.{ltb, eqb}
use lib.ListN.{length, take, drop, length-append, take-append-drop}
use lib.Seq.{drop-nil, take-append_seam, drop-append_seam}
use Rattle.units.specs.declared.Answer.{Answer}
use Rattle.units.specs.Units.{bytes_of_words}
use Rattle.units.specs.Answers.{answer, passed, refused}
use Rattle.units.proofs.Verdicts.{else_passed, onward_passed, or_off}
use Rattle.words.specs.Words.{words_of, word, joined, All, most_words}
use Rattle.words.proofs.Laws.{length_words_of}
use Rattle.block.specs.Judging.{judged, Accepted}
use Rattle.block.proofs.Exact.{frame_ok}
use Rattle.block_slice.specs.Blocks.{most_bytes, wrong_first, judge_stated, judge_next, before, walk_blocks, blocks_in}
use Rattle.block_slice.specs.Rules.{IsSlice}

-- ---- one block

-- the first block of what is left: k bytes of it, which are accepted
pub record FirstIs (rest : List ℕ) (k : ℕ) : Type 0 where
  pub least : 36 ≤ k
  pub room : k ≤ length rest
  pub good : Accepted (take k rest)

pub first_right : (stated : ℕ) → wrong_first stated ≡ false → (18 ≤ stated) × (stated ≤ most_words)
unfolding wrong_first
first_right stated e =
    let o = or_off (ltb stated 18) (ltb most_words stated) e in
    (ltb-false stated 18 o.0, ltb-false most_words stated o.1)

stated_is : (n stated k : ℕ) (rest : List ℕ) → 18 ≤ stated → judge_stated n stated rest ≡ passed k → FirstIs rest k
unfolding judge_stated
stated_is n stated k rest h e =
    let fits = else_passed (ltb (length rest) (bytes_of_words stated)) (answer 51 n 0 0) _ k e in
    let j = onward_passed (judged (take (bytes_of_words stated) rest)) (λ _. passed (bytes_of_words stated)) k fits.1 in
    let s : bytes_of_words stated ≡ k = cc j.2 in
    record {
      least = omega arith;
      room = omega (arith, ltb-false (length rest) (bytes_of_words stated) fits.0);
      good = record { count = j.0; is = ap (λ m. judged (take m rest)) (sym s) ∙ j.1 };
    }

pub first_is : (n k : ℕ) (rest : List ℕ) → judge_next n rest ≡ passed k → FirstIs rest k
unfolding judge_next
first_is n k rest e =
    let stated = word (words_of rest) 1 in
    let two = else_passed (eqb (length rest) 1) (answer 51 n 0 0) _ k e in
    let right = else_passed (wrong_first stated) (answer 1 0 0 0) _ k two.1 in
    stated_is n stated k rest (first_right stated right.0).0 right.1

-- an accepted block says its own size
pub record Stated (b : List ℕ) : Type 0 where
  pub least : 36 ≤ length b
  pub most : length b ≤ bytes_of_words most_words
  pub says : bytes_of_words (word (words_of b) 1) ≡ length b

pub accepted_stated : (b : List ℕ) → Accepted b → Stated b
accepted_stated b a =
    let f = frame_ok b a.count a.is in
    let l = length_words_of b in
    record {
      least = omega (arith, f.size.least, f.size.even);
      most = omega (arith, f.size.most, f.size.even);
      says = omega (arith, f.first, f.size.even);
    }

-- and its first word is that of what it stands in front of
pub same_first : (b rest : List ℕ) → 2 ≤ length b → word (words_of (b ++ rest)) 1 ≡ word (words_of b) 1
unfolding words_of
same_first [] rest h = absurd (omega arith)
same_first (x ∷ []) rest h = absurd (omega arith)
same_first (x ∷ y ∷ b) rest h = refl

-- so it passes where it stands first
pub first_passes : (n : ℕ) (b rest : List ℕ) → Accepted b → judge_next n (b ++ rest) ≡ passed (length b)
unfolding judge_next judge_stated wrong_first
first_passes n b rest a =
    let s = accepted_stated b a in
    let l = length-append b rest in
    let w = same_first b rest (omega (arith, s.least)) in
    let stated = word (words_of b) 1 in
    let taken = take-append_seam b rest in
    rw (w, s.says) (simp (
      ne_eqb (length (b ++ rest)) 1 (λ e. omega (arith, s.least)),
      le-ltb stated 18 (omega (arith, s.least, s.says)),
      le-ltb most_words stated (omega (arith, s.most, s.says)),
      le-ltb (length (b ++ rest)) (length b) (omega arith),
      taken,
      a.is,
    ))

-- ---- all of them

-- bytes that are skipped are as good as gone
blocks_drop : (skip n : ℕ) (slice : List ℕ) → walk_blocks skip n slice ≡ walk_blocks 0 n (drop skip slice)
unfolding walk_blocks
blocks_drop skip n [] = rw drop-nil
blocks_drop zero n (b ∷ bs) = refl
blocks_drop (suc skip) n (b ∷ bs) = blocks_drop skip n bs

-- a block is refused: so is the slice
pub blocks_stop : (n : ℕ) (a : Answer) (rest : List ℕ) → 0 < length rest → judge_next n rest ≡ refused a → walk_blocks 0 n rest ≡ refused a
unfolding walk_blocks
blocks_stop n a [] h e = absurd (omega arith)
blocks_stop n a (b ∷ bs) h e = rw e

-- a block passed: it is in front of those behind it
pub blocks_next : (n k : ℕ) (rest : List ℕ) → 0 < length rest → judge_next n rest ≡ passed k → walk_blocks 0 n rest ≡ before (take k rest) (walk_blocks 0 (n + 1) (drop k rest))
unfolding walk_blocks
blocks_next n k [] h e = absurd (omega arith)
blocks_next n zero (b ∷ bs) h e = absurd (omega (arith, (first_is n zero (b ∷ bs) e).least))
blocks_next n (suc k) (b ∷ bs) h e = rw (e, sub-one) (ap (before (take (suc k) (b ∷ bs))) (blocks_drop k (n + 1) bs))

-- what passes is accepted blocks, one after the other
walked : (skip n : ℕ) (slice : List ℕ) (bs : List (List ℕ)) → walk_blocks skip n slice ≡ passed bs → (drop skip slice ≡ joined bs) × All Accepted bs
unfolding walk_blocks joined
walked skip n [] [] e = (drop-nil skip, tt)
walked skip n [] (c ∷ cs) e = absurd (let z : ◌≡◌ {A = ℕ} 0 1 = cc in omega arith)
walked (suc skip) n (b ∷ bs) cs e = walked skip n bs cs e
walked zero n (b ∷ bs) cs e =
    let first = onward_passed (judge_next n (b ∷ bs)) (λ k. before (take k (b ∷ bs)) (walk_blocks (k - 1) (n + 1) bs)) cs e in
    by first.0 (first_is n first.0 (b ∷ bs) first.1) first.2 (λ j. walked j (n + 1) bs)
  where
    by : (k : ℕ) → FirstIs (b ∷ bs) k → before (take k (b ∷ bs)) (walk_blocks (k - 1) (n + 1) bs) ≡ passed cs
        → ((j : ℕ) (ds : List (List ℕ)) → walk_blocks j (n + 1) bs ≡ passed ds → (drop j bs ≡ joined ds) × All Accepted ds) → (b ∷ bs ≡ joined cs) × All Accepted cs
    by zero f e on = absurd (omega (arith, f.least))
    by (suc j) f e on =
        let others = onward_passed (walk_blocks j (n + 1) bs) (λ ds. passed (take (suc j) (b ∷ bs) ∷ ds)) cs (rw sub-one at e) in
        let it = on j others.0 others.1 in
        let whole : take (suc j) (b ∷ bs) ∷ others.0 ≡ cs = cc others.2 in
        rw (← whole) (sym (take-append-drop (suc j) (b ∷ bs)) ∙ ap (λ l. take (suc j) (b ∷ bs) ++ l) it.0, (f.good, it.1))

pub slice_cut : (n : ℕ) (slice : List ℕ) (bs : List (List ℕ)) → walk_blocks 0 n slice ≡ passed bs → (slice ≡ joined bs) × All Accepted bs
slice_cut n slice bs e = walked 0 n slice bs e

-- a block in front is cut off
blocks_on : (n : ℕ) (b rest : List ℕ) → Accepted b → walk_blocks 0 n (b ++ rest) ≡ before b (walk_blocks 0 (n + 1) rest)
blocks_on n b rest a =
    let some : 0 < length (b ++ rest) = omega (arith, length-append b rest, (accepted_stated b a).least) in
    blocks_next n (length b) (b ++ rest) some (first_passes n b rest a) ∙ rw (take-append_seam b rest, drop-append_seam b rest)

-- accepted blocks, one after the other, pass and are the blocks found
slice_made : (n : ℕ) (bs : List (List ℕ)) → All Accepted bs → walk_blocks 0 n (joined bs) ≡ passed bs
unfolding walk_blocks joined
slice_made n [] h = refl
slice_made n (b ∷ bs) h = blocks_on n b (joined bs) h.0 ∙ ap (before b) (slice_made (n + 1) bs h.1)

-- and a refusal behind them is the slice's
pub blocks_past : (n : ℕ) (a : Answer) (bs : List (List ℕ)) (rest : List ℕ) → All Accepted bs → walk_blocks 0 (n + length bs) rest ≡ refused a → walk_blocks 0 n (joined bs ++ rest) ≡ refused a
unfolding joined
blocks_past n a [] rest h e = rw add-zero at e
blocks_past n a (b ∷ bs) rest h e =
    let next : n + 1 + length bs ≡ n + suc (length bs) = omega arith in
    rw append_assoc (blocks_on n b (joined bs ++ rest) h.0 ∙ ap (before b) (blocks_past (n + 1) a bs rest h.1 (rw next e)))

-- with the limit: a slice passes exactly when it is these blocks
pub only_slices : (slice : List ℕ) (bs : List (List ℕ)) → blocks_in slice ≡ passed bs → IsSlice slice bs
unfolding blocks_in
only_slices slice bs e =
    let short = else_passed (ltb most_bytes (length slice)) (answer 52 0 0 0) (walk_blocks 0 1 slice) bs e in
    let c = slice_cut 1 slice bs short.1 in
    record { size = ltb-false most_bytes (length slice) short.0; parts = c.0; each = c.1 }

pub every_slice : (slice : List ℕ) (bs : List (List ℕ)) → IsSlice slice bs → blocks_in slice ≡ passed bs
unfolding blocks_in
every_slice slice bs h = simp (le-ltb most_bytes (length slice) h.size) (ap (walk_blocks 0 1) h.parts ∙ slice_made 1 bs h.each)
