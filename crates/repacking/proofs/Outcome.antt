-- The outcome of repacking, by what is found of the slice.
use mathlib.Core.Path.{◌≡◌, refl, sym, ap, ◌∙◌}
use mathlib.Core.List.{List, [], ◌∷◌, flatten}
use Prim.Native.Nat.{ℕ, ◌≤◌, ◌<◌}
use native.Mathlib.Omega.{arith}
use borrow.Author.Tests.{lt-ltb, le-ltb}
use lib.ListN.{length, get_or}
use lib.Seq.{sets}
use Rattle.std.proofs.Common.{Result, Fits, w8}
use Rattle.units.specs.declared.Answer.{Answer}
use Rattle.units.specs.declared.Bytes.{Bytes}
use Rattle.units.specs.declared.Unwritten.{Unwritten}
use Rattle.words.proofs.Laws.{all_below}
use Rattle.units.specs.Answers.{answer, Verdict, passed, refused, onward}
use Rattle.units.proofs.Verdicts.{never_passed}
use Rattle.words.specs.Words.{joined}
use Rattle.words.specs.Outcomes.{Written, written, leaves}
use Rattle.words.proofs.Writing.{too_short, all-written}
use Rattle.block_slice.specs.declared.SliceRefusal.{SliceRefusal}
use Rattle.block_slice.specs.Blocks.{most_bytes, walk_blocks, blocks_in, records_in}
use Rattle.packing.specs.Packing.{groups, repacked}
use Rattle.repacking.specs.Repacking.{repack}
use Rattle.repacking.specs.Between.{packed_again, bytes_needed, Packable}
use Rattle.repacking.specs.Cases.{repacked_of}
use Rattle.repacking.specs.Promises.{Repacks}
use Rattle.repacking.proofs.Known.{repack_told}

-- ---- a slice that passes, and needs so many bytes

pub record Needs (slice : List ℕ) (size : ℕ) : Type 0 where
  pub blocks : List (List ℕ)
  pub found : walk_blocks 0 1 slice ≡ passed blocks
  pub count : size ≡ length (repacked (records_in blocks))

pub needs_of : (slice : List ℕ) (size : ℕ) → passed size ≡ bytes_needed slice → Needs slice size
needs_of slice size e = by (walk_blocks 0 1 slice) refl e
  where
    by : (v : Verdict (List (List ℕ))) → walk_blocks 0 1 slice ≡ v → passed size ≡ onward v (λ bs. passed (length (repacked (records_in bs)))) → Needs slice size
    by (passed bs) f h = record { blocks = bs; found = f; count = cc }
    by (refused r) f h = absurd (never_passed (sym h))

no_bytes : (out l : List ℕ) → length l ≡ 0 → out ≡ sets out 0 l
no_bytes out [] e = refl
no_bytes out (x ∷ l) e = absurd (omega arith)

module _ (slice out : List ℕ) {size : ℕ} (its : Needs slice size) where
  -- its blocks packed again
  abbrev again : List ℕ
  again = repacked (records_in its.blocks)

  passes : packed_again slice ≡ passed again
  passes = ap (λ v. onward v (λ bs. passed (repacked (records_in bs)))) its.found

  -- the output is too short
  pub packed_short : length out < size → leaves (answer 50 size 0 0) out ≡ written 50 out (packed_again slice)
  packed_short h = too_short 50 out again size its.count h ∙ ap (written 50 out) (sym passes)

  -- or all is written
  pub packed_all : {after : List ℕ} → size ≤ length out → after ≡ sets out 0 again → leaves (answer 0 size 0 0) after ≡ written 50 out (packed_again slice)
  packed_all h put = all-written 50 out again (omega (arith, its.count)) (record { ends = omega (arith, its.count); bytes = put }) ∙ ap (written 50 out) (sym passes)

  -- which may be nothing
  pub packed_none : size ≡ 0 → leaves (answer 0 size 0 0) out ≡ written 50 out (packed_again slice)
  packed_none e = packed_all (omega arith) (no_bytes out again (omega (arith, its.count)))

  pub can_pack : length slice ≤ most_bytes → size ≤ length out → (size ≡ 0 → ⊥) → Packable slice out
  unfolding walk_blocks repacked groups joined flatten
  can_pack most room some = record { blocks = its.blocks; found = its.found; some = by slice refl; most = most; room = omega (arith, its.count) }
    where
      empty : slice ≡ [] → size ≡ 0
      empty e = let none : [] ≡ its.blocks = cc (sym (ap (walk_blocks 0 1) e) ∙ its.found) in its.count ∙ ap (λ bs. length (repacked (records_in bs))) (sym none)

      by : (l : List ℕ) → slice ≡ l → 0 < length slice
      by [] e = absurd (some (empty e))
      by (x ∷ l) e = omega (arith, ap length e)

-- ---- the whole outcome

module _ (slice out : List ℕ) where
  -- over the limit
  pub too_long : most_bytes < length slice → leaves (answer 52 0 0 0) out ≡ repack slice out
  unfolding repack blocks_in written
  too_long h = simp (lt-ltb most_bytes (length slice) h)

  module _ (h : length slice ≤ most_bytes) where
    pub within-limit : {w : Written} → w ≡ written 50 out (packed_again slice) → w ≡ repack slice out
    unfolding repack blocks_in
    within-limit e = e ∙ simp (le-ltb most_bytes (length slice) h)

    -- a block is refused
    pub block_refused : {r : Answer} → refused r ≡ bytes_needed slice → leaves r out ≡ repack slice out
    unfolding written
    block_refused {r} e = within-limit (by (walk_blocks 0 1 slice) e)
      where
        by : (v : Verdict (List (List ℕ))) → refused r ≡ onward v (λ bs. passed (length (repacked (records_in bs)))) → leaves r out ≡ written 50 out (onward v (λ bs. passed (repacked (records_in bs))))
        by (passed bs) f = absurd (never_passed f)
        by (refused s) f = let same : r ≡ s = cc in ap (λ a. leaves a out) same

-- an outcome that is the definition's keeps the promise
pub promised : {slice out : List ℕ} → ((i : ℕ) → Fits w8 (get_or slice i 0)) → {r : Result Bytes (Unwritten SliceRefusal)} {after : List ℕ} → leaves (repacked_of r) after ≡ repack slice out → Repacks slice out r after
promised {slice} {out} h e = record { outcome = e; packs = rw (ap (λ w. w.answer) e) (repack_told slice out (all_below 256 slice (λ i. omega (arith, h i)))).1 }
