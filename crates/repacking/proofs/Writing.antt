-- Records put into the output: what is still to be put in, from here, gives the whole.
use mathlib.Core.Path.{◌≡◌, refl, sym, ap, ap₂, ◌∙◌}
use mathlib.Core.Bool.{Bool, true, false}
use mathlib.Core.List.{List, [], ◌∷◌, ◌++◌, append-nil, append_assoc}
use Prim.Native.Nat.{ℕ, ◌+◌, ◌-◌, ◌*◌, ◌%◌, ◌≤◌, ◌<◌}
use native.Mathlib.Nat.{zero-add}
use native.Mathlib.Omega.{arith}
use borrow.Author.Tests.{leb-false, le-leb, lt-leb}
use lib.Dec.{leb}
use lib.ListN.{length, take, drop, length-append, length-drop, drop_of_length-le}
use lib.Seq.{sets, length-sets, slice, sets-eq, take_all, take_at, drop-drop, drop-append-le, length-take-le, length-slice, slice_empty}
use Rattle.std.specs.Prelude.{if◌then◌else◌}
use Rattle.units.specs.Units.{bytes_of_words}
use Rattle.words.specs.Words.{words_of, bytes_of, words, joined, block_from, most_record_words}
use Rattle.words.proofs.Laws.{length_words_of, length_bytes_of, words_bytes, words_append, words-slice}
use Rattle.words.proofs.Sealing.{length-framed}
use Rattle.words.proofs.Writing.{sets-append}
use Rattle.words.specs.Writing.{Room, Put}
use Rattle.block.specs.Rules.{BlockRecord}
use Rattle.packing.specs.declared.Current.{Current}
use Rattle.packing.specs.Packing.{Group, onto, packed, blocks_of}
use Rattle.packing.specs.Current.{count_limit, current_at, sealed_bytes, room_for, with_record, current_after}
use Rattle.repacking.specs.Between.{standing, finished, Fitting, RoomMade, PutOn}
use Rattle.packing.proofs.Filling.{room_at}
use Rattle.repacking.proofs.Stores.{sets_over, drop-sets-add}

-- ---- what stands in the current block

-- the bytes before the next record of the current block
abbrev pub record_start : Current → ℕ
record_start p = p.start.0 + bytes_of_words (p.used.0 + 1)

module _ (out : List ℕ) (p : Current) where
  length-standing : record_start p ≤ length out → length (standing out p) ≡ p.used.0
  length-standing h =
      let d = drop p.start.0 out in
      length-slice 1 (p.used.0 + 1) (words_of d) (omega (arith, length_words_of d, length-drop p.start.0 out)) ∙ omega arith

  -- a record put behind it stands behind it
  standing-put : (r : List ℕ) → record_start p + bytes_of_words (length r) ≤ length out
      → standing (sets out (record_start p) (bytes_of r)) (with_record p (length r)) ≡ standing out p ++ r
  standing-put r h =
      let s = p.start.0 in
      let d = drop s out in
      let i = bytes_of_words (p.used.0 + 1) in
      let t = p.used.0 + length r + 1 in
      let ld = length-drop s out in
      let lr = length_bytes_of r in
      let li : length (take i d) ≡ i = length-take-le i d (omega arith) in
      let put : drop s (sets out (s + i) (bytes_of r)) ≡ take i d ++ bytes_of r ++ drop (i + length (bytes_of r)) d =
      drop-sets-add s out i (bytes_of r) ∙ sets-eq (bytes_of r) d i (omega arith) in
      let front : slice 2 (t * 2) (drop s (sets out (s + i) (bytes_of r))) ≡ slice 2 i d ++ bytes_of r =
      ap (slice 2 (t * 2)) put
      ∙ ap (drop 2) (take_at (take i d ++ bytes_of r) (drop (i + length (bytes_of r)) d) (t * 2) (omega (arith, length-append (take i d) (bytes_of r))))
      ∙ drop-append-le 2 (take i d) (bytes_of r) (omega arith) in
      let even : length (slice 2 i d) % 2 ≡ 0 = omega (arith, length-slice 2 i d (omega arith)) in
      sym (words-slice 1 t (drop s (sets out (s + i) (bytes_of r))))
      ∙ ap words_of front
      ∙ words_append (slice 2 i d) (bytes_of r) even
      ∙ ap₂ (λ (x y : List ℕ). x ++ y) (words-slice 1 (p.used.0 + 1) d) (words_bytes r)

-- ---- groups with one more in front

onto-onto : (x r : List ℕ) (gs : List Group) → blocks_of (onto (x ++ r) gs) ≡ blocks_of (onto x (onto r gs))
unfolding joined
onto-onto x r [] = ap (λ l. block_from l ++ []) (append_assoc x r [])
onto-onto x r (g ∷ gs) = ap (λ l. block_from l ++ blocks_of gs) (append_assoc x r (joined g))

onto-none : (r : List ℕ) (gs : List Group) → blocks_of (onto [] (onto r gs)) ≡ blocks_of (onto r gs)
unfolding joined
onto-none r [] = refl
onto-none r (g ∷ gs) = refl

-- nothing in front
pub onto_nothing : (gs : List Group) → 1 ≤ length gs → blocks_of (onto [] gs) ≡ blocks_of gs
unfolding joined
onto_nothing [] h = absurd (omega arith)
onto_nothing (g ∷ gs) h = refl

onto_least : (x : List ℕ) (gs : List Group) → bytes_of_words (length x + 2) ≤ length (blocks_of (onto x gs))
unfolding joined
onto_least x [] = omega (arith, length-append (block_from (x ++ [])) [], length-framed (x ++ []), length-append x [])
onto_least x (g ∷ gs) = omega (arith, length-append (block_from (x ++ joined g)) (blocks_of gs), length-framed (x ++ joined g), length-append x (joined g))

-- ---- one more record

module _ (out : List ℕ) (p : Current) (r : List ℕ) where
  -- it goes into the current block
  put_here : p.used.0 + length r ≤ most_record_words → record_start p + bytes_of_words (length r) ≤ length out → {after : List ℕ}
      → after ≡ sets out (record_start p) (bytes_of r) → (others : List (List ℕ)) → finished after (with_record p (length r)) others ≡ finished out p (r ∷ others)
  unfolding finished packed
  put_here fits room put others =
      let s = p.start.0 in
      let cur = standing out p in
      let gs = packed (p.used.0 + length r) others in
      let lc = length-standing out p (omega arith) in
      let whole = blocks_of (onto (cur ++ r) gs) in
      let least = onto_least (cur ++ r) gs in
      rw (put, standing-put out p r room)
      (sets_over out (record_start p) s (bytes_of r) whole (omega arith) (omega (arith, least, lc, length-append cur r, length_bytes_of r))
      ∙ ap (sets out s) (onto-onto cur r gs)
      ∙ simp (le-leb (p.used.0 + length r) most_record_words fits))

  -- or the current block is sealed, and it goes into a new one
  put_new : most_record_words < p.used.0 + length r → length r ≤ most_record_words → sealed_bytes p ≤ length out → {after : List ℕ}
      → after ≡ sets out p.start.0 (block_from (standing out p)) → (others : List (List ℕ)) → finished after (current_at (sealed_bytes p) 0) (r ∷ others) ≡ finished out p (r ∷ others)
  unfolding finished packed joined
  put_new full fits room {after} put others =
      let s = p.start.0 in
      let cur = standing out p in
      let gs = packed (length r) others in
      let lc = length-standing out p (omega arith) in
      let end : s + length (block_from cur) ≡ sealed_bytes p = omega (arith, length-framed cur, lc) in
      let none : standing after (current_at (sealed_bytes p) 0) ≡ [] = slice_empty 1 (words_of (drop (sealed_bytes p) after)) in
      let first : sets out s (blocks_of (onto cur ([] ∷ onto r gs))) ≡ sets after (sealed_bytes p) (blocks_of (onto r gs)) =
      ap (λ l. sets out s (block_from l ++ blocks_of (onto r gs))) (append-nil cur)
      ∙ sets-append out s (block_from cur) (blocks_of (onto r gs))
      ∙ rw (end, ← put) refl in
      let left : finished after (current_at (sealed_bytes p) 0) (r ∷ others) ≡ sets after (sealed_bytes p) (blocks_of (onto r gs)) =
      rw (none, zero-add, le-leb (length r) most_record_words fits) (ap (sets after (sealed_bytes p)) (onto-none r gs)) in
      let right : finished out p (r ∷ others) ≡ sets out s (blocks_of (onto cur ([] ∷ onto r gs))) = simp (lt-leb (p.used.0 + length r) most_record_words full) in
      left ∙ sym (right ∙ first)

-- ---- a block sealed where it stands

-- the part of the output from the current block on, with the block sealed in it
pub sealed_there : (out : List ℕ) (p : Current) {part after : List ℕ} → let s = p.start.0 in let d = take (length out - s) (drop s out) in sealed_bytes p ≤ length out
    → part ≡ block_from (words (words_of d) 2 (p.used.0 + 1)) ++ drop (bytes_of_words (p.used.0 + 2)) d
    → after ≡ take s out ++ (part ++ drop (length out - s) (drop s out))
    → after ≡ sets out s (block_from (standing out p))
sealed_there out p {part} {after} room sealed back =
    let s = p.start.0 in
    let n = length out - s in
    let size = bytes_of_words (p.used.0 + 2) in
    let cur = standing out p in
    let all : take n (drop s out) ≡ drop s out = take_all n (drop s out) (omega (arith, length-drop s out)) in
    let none : drop n (drop s out) ≡ [] = drop_of_length-le (drop s out) {i = n} (omega (arith, length-drop s out)) in
    let lc : length (block_from cur) ≡ size = length-framed cur ∙ ap (λ k. bytes_of_words (k + 2)) (length-standing out p (omega arith)) in
    let is : part ≡ block_from cur ++ drop (s + length (block_from cur)) out =
    sealed ∙ ap (λ d. block_from (words (words_of d) 2 (p.used.0 + 1)) ++ drop size d) all ∙ ap (λ l. block_from cur ++ l) (drop-drop size s out ∙ ap (λ k. drop (s + k) out) (sym lc)) in
    back
    ∙ ap (λ l. take s out ++ (part ++ l)) none
    ∙ ap (λ l. take s out ++ l) (append-nil part ∙ is)
    ∙ sym (append_assoc (take s out) (block_from cur) (drop (s + length (block_from cur)) out))
    ∙ sym (sets-eq (block_from cur) out s (omega (arith, lc)))

-- what is sealed with no record to come is finished
pub sealed_finished : (out : List ℕ) (p : Current) {after : List ℕ} → after ≡ sets out p.start.0 (block_from (standing out p)) → after ≡ finished out p []
unfolding finished packed joined
sealed_finished out p e = e ∙ ap (sets out p.start.0) (sym (append-nil (block_from (standing out p))) ∙ ap (λ l. block_from l ++ []) (sym (append-nil (standing out p))))

-- ---- room for a record, by the block that it goes into

module _ (out : List ℕ) (p : Current) (k : ℕ) {next : Current} (is : next ≡ room_for p k) where
  -- in the current block: nothing was to be done
  pub room_here : next.start.0 ≡ p.start.0 → RoomMade out p k out next
  unfolding room_for
  room_here e = by (leb (p.used.0 + k) most_record_words) is
    where
      by : (t : Bool) → next ≡ (if t then p else current_at (sealed_bytes p) 0) → RoomMade out p k out next
      by true q = record { current = is; size = refl; same = λ r others h. ap (λ o. finished out o (r ∷ others)) q }
      by false q = absurd (omega (arith, e, ap (λ o. o.start.0) q))

  -- in a new one: the current one was sealed
  pub room_behind : (next.start.0 ≡ p.start.0 → ⊥) → k ≤ most_record_words → sealed_bytes p ≤ length out → {after : List ℕ}
      → after ≡ sets out p.start.0 (block_from (standing out p)) → RoomMade out p k after next
  unfolding room_for
  room_behind ne fits room {after} put = by (leb (p.used.0 + k) most_record_words) refl is
    where
      by : (t : Bool) → leb (p.used.0 + k) most_record_words ≡ t → next ≡ (if t then p else current_at (sealed_bytes p) 0) → RoomMade out p k after next
      by true f q = absurd (ne (ap (λ o. o.start.0) q))
      by false f q =
          record {
            current = is;
            size = ap length put ∙ length-sets out p.start.0 (block_from (standing out p));
            same = λ r others h. ap (λ o. finished after o (r ∷ others)) q ∙ put_new out p r (omega (arith, leb-false (p.used.0 + k) most_record_words f, h)) (omega (arith, h)) room put others;
          }

-- ---- a record put where there is room for it

module _ {out : List ℕ} {p : Current} {r : List ℕ} (good : BlockRecord r) (f : Fitting out p (r ∷ [])) {k : ℕ} (size : k ≡ length r) where
  -- the current block can be sealed
  pub can_seal : Fitting out p [] × (k ≤ most_record_words)
  unfolding current_after
  can_seal = let q = room_at p (length r) good.most in
      (record { used = f.used; room = omega (arith, f.room, q.least); few = omega (arith, f.few, q.least) }, omega (arith, good.most))

  module _ {mid : List ℕ} {q : Current} (made : RoomMade out p k mid q) where
    -- and the record has room in its block
    pub room-is : (q.used.0 + k ≤ most_record_words) × (record_start q + bytes_of_words k ≤ length mid) × (record_start q + bytes_of_words k ≤ count_limit)
    unfolding current_after
    room-is =
        let at = room_at p (length r) good.most in
        let is : q ≡ room_for p (length r) = made.current ∙ ap (room_for p) size in
        rw (is, size) (at.used, omega (arith, f.room, made.size), omega (arith, f.few))

    module _ {text : List ℕ} (bytes : text ≡ bytes_of r) {at : ℕ} (here : at ≡ record_start q) where
      pub put-room : Room mid at text
      put-room = omega (arith, room-is.1, ap length bytes, length_bytes_of r, size)

      pub record-put : {end : ℕ} {after : List ℕ} {next : Current} → Put mid at text after end → next ≡ with_record q k → PutOn out p (r ∷ []) after next
      unfolding current_after
      record-put {end} {after} {next} put past =
          record {
            current = past ∙ ap₂ with_record (made.current ∙ ap (room_for p) size) size;
            size = ap length put.bytes ∙ length-sets mid at text ∙ made.size;
            same = λ others.
                ap (λ o. finished after o others) (past ∙ ap (with_record q) size)
                ∙ put_here mid q r (omega (arith, room-is.0, size)) (omega (arith, room-is.1, size)) (put.bytes ∙ ap₂ (sets mid) here bytes) others
                ∙ made.same r others (sym size);
          }
