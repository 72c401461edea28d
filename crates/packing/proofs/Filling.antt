-- The current block, a record at a time.
use mathlib.Core.Path.{◌≡◌, refl, sym, ◌∙◌}
use mathlib.Core.Bool.{Bool, true, false}
use mathlib.Core.List.{List, [], ◌∷◌, ◌++◌}
use Prim.Native.Nat.{ℕ, ◌+◌, ◌*◌, ◌≤◌}
use native.Mathlib.Nat.{zero-add}
use native.Mathlib.Omega.{arith}
use borrow.Author.Tests.{leb-true, ne_eqb}
use lib.Dec.{leb}
use lib.ListN.{length, length-append}
use Rattle.std.specs.Prelude.{if◌then◌else◌}
use Rattle.units.specs.Units.{bytes_of_words}
use Rattle.words.specs.Words.{joined, block_from, All, most_record_words}
use Rattle.words.proofs.Sealing.{length-framed}
use Rattle.block.specs.Rules.{block_of, BlockRecord}
use Rattle.block.proofs.Exact.{ok_long}
use Rattle.packing.specs.declared.Current.{Current}
use Rattle.packing.specs.Packing.{Group, onto, packed, groups, blocks_of, repacked}
use Rattle.packing.proofs.Groups.{some_packed}
use Rattle.packing.specs.Current.{current_at, sealed_bytes, room_for, with_record, current_after, bytes_to}

-- the block for a record of k words: it has room for them, and at most one block was sealed before it
pub record RoomAt (p : Current) (k : ℕ) (q : Current) : Type 0 where
  pub used : q.used.0 + k ≤ most_record_words
  pub least : p.start.0 + bytes_of_words p.used.0 ≤ q.start.0 + bytes_of_words q.used.0
  pub most : q.start.0 + bytes_of_words q.used.0 ≤ sealed_bytes p

module _ (p : Current) (k : ℕ) where
  pub room_at : k ≤ most_record_words → RoomAt p k (room_for p k)
  unfolding room_for
  room_at h = by (leb (p.used.0 + k) most_record_words) refl
    where
      by : (t : Bool) → leb (p.used.0 + k) most_record_words ≡ t → RoomAt p k (if t then p else current_at (sealed_bytes p) 0)
      by true e = record { used = leb-true _ _ e; least = omega arith; most = omega arith }
      by false e = record { used = omega arith; least = omega arith; most = omega arith }

-- ---- behind many records

-- one after the other, and then others
pub after-append : (p : Current) (rs ss : List (List ℕ)) → current_after (current_after p rs) ss ≡ current_after p (rs ++ ss)
unfolding current_after
after-append p [] ss = refl
after-append p (r ∷ rs) ss = after-append (with_record (room_for p (length r)) (length r)) rs ss

-- the current block has no more words than a block may have, and there are at most two words of output for each word packed
pub record After (p : Current) (rs : List (List ℕ)) (q : Current) : Type 0 where
  pub some : 1 ≤ p.used.0 → 1 ≤ q.used.0
  pub used : q.used.0 ≤ most_record_words
  pub least : p.start.0 + bytes_of_words p.used.0 ≤ q.start.0 + bytes_of_words q.used.0
  pub most : q.start.0 + bytes_of_words q.used.0 ≤ p.start.0 + bytes_of_words p.used.0 + bytes_of_words (2 * length (joined rs))

pub after : (p : Current) (rs : List (List ℕ)) → p.used.0 ≤ most_record_words → All BlockRecord rs → After p rs (current_after p rs)
unfolding current_after joined
after p [] h each = record { some = λ s. s; used = h; least = omega arith; most = omega arith }
after p (r ∷ rs) h each =
    let here = room_at p (length r) each.0.most in
    let on = after (with_record (room_for p (length r)) (length r)) rs here.used each.1 in
    let long = ok_long r each.0.ok in
    record {
      some = λ s. on.some (omega arith);
      used = on.used;
      least = omega (arith, here.least, on.least);
      most = omega (arith, here.most, on.most, length-append r (joined rs));
    }

-- ---- the bytes of the blocks

length-onto : (r : List ℕ) (gs : List Group) → 1 ≤ length gs → length (blocks_of (onto r gs)) ≡ bytes_of_words (length r) + length (blocks_of gs)
unfolding joined
length-onto r [] h = absurd (omega arith)
length-onto r (g ∷ gs) h =
    omega (
      arith,
      length-append (block_of (r ∷ g)) (blocks_of gs),
      length-append (block_of g) (blocks_of gs),
      length-framed (r ++ joined g),
      length-framed (joined g),
      length-append r (joined g),
    )

length_none : length (blocks_of []) ≡ 0
unfolding joined
length_none = refl

none-repacked : length (repacked []) ≡ 0
unfolding repacked groups
none-repacked = length_none

length_new : (gs : List Group) → length (blocks_of ([] ∷ gs)) ≡ 4 + length (blocks_of gs)
unfolding joined
length_new gs = omega (arith, length-append (block_from []) (blocks_of gs), length-framed [])

-- what goes into the current block and into the new ones, up to the end of the last
abbrev EndsAt : Current → List Group → ℕ → Type 0
EndsAt p gs end = p.start.0 + bytes_of_words p.used.0 + length (blocks_of gs) ≡ end

module _ (p : Current) (r : List ℕ) (gs : List Group) (some : 1 ≤ length gs) {end : ℕ} where
  ends_here : EndsAt (with_record p (length r)) gs end → EndsAt p (onto r gs) end
  ends_here e = omega (arith, e, length-onto r gs some)

  ends_new : EndsAt (current_at (sealed_bytes p) (length r)) gs end → EndsAt p ([] ∷ onto r gs) end
  ends_new e = omega (arith, e, length_new (onto r gs), length-onto r gs some)

packed_ends : (p : Current) (rs : List (List ℕ)) → EndsAt p (packed p.used.0 rs) (sealed_bytes (current_after p rs))
unfolding packed current_after room_for
packed_ends p [] = omega (arith, length_new [], length_none)
packed_ends p (r ∷ rs) = by (leb (p.used.0 + length r) most_record_words) (packed_ends (with_record p (length r)) rs) (packed_ends (current_at (sealed_bytes p) (length r)) rs)
  where
    by : (t : Bool) → EndsAt (with_record p (length r)) (packed (p.used.0 + length r) rs) (sealed_bytes (current_after (with_record p (length r)) rs))
        → EndsAt (current_at (sealed_bytes p) (length r)) (packed (length r) rs) (sealed_bytes (current_after (current_at (sealed_bytes p) (length r)) rs))
        → EndsAt p (if t then onto r (packed (p.used.0 + length r) rs) else [] ∷ onto r (packed (length r) rs)) (sealed_bytes (current_after (with_record (if t then p else current_at (sealed_bytes p) 0) (length r)) rs))
    by true fits new = ends_here p r (packed (p.used.0 + length r) rs) (some_packed (p.used.0 + length r) rs) fits
    by false fits new = rw zero-add (ends_new p r (packed (length r) rs) (some_packed (length r) rs) new)

-- so the bytes of all blocks are those up to the end of the last
pub repacked_ends : (rs : List (List ℕ)) → 1 ≤ length rs → sealed_bytes (current_after (current_at 0 0) rs) ≡ length (repacked rs)
unfolding repacked groups
repacked_ends [] some = absurd (omega arith)
repacked_ends (r ∷ rs) some = sym (packed_ends (current_at 0 0) (r ∷ rs)) ∙ omega arith

-- and where there is no record, none
pub repacked_bytes : (rs : List (List ℕ)) → All BlockRecord rs → bytes_to (current_after (current_at 0 0) rs) ≡ length (repacked rs)
unfolding bytes_to current_after
repacked_bytes [] each = sym none-repacked
repacked_bytes (r ∷ rs) each =
    let first = with_record (room_for (current_at 0 0) (length r)) (length r) in
    let here = room_at (current_at 0 0) (length r) each.0.most in
    let on = after first rs here.used each.1 in
    let some = on.some (omega (arith, ok_long r each.0.ok)) in
    simp (ne_eqb (current_after first rs).used.0 0 (λ z. omega arith)) (repacked_ends (r ∷ rs) (omega arith))
