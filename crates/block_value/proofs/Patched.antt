-- A value put into a block: the checksum patched with the old and the new word is the one worked out afresh.
use mathlib.Core.Path.{◌≡◌, refl, sym, ap, ap₂, ◌∙◌}
use mathlib.Core.Bool.{not}
use mathlib.Core.List.{List, [], ◌∷◌, ◌++◌}
use Prim.Native.Nat.{ℕ, suc, ◌+◌, ◌-◌, ◌<◌}
use native.Mathlib.Omega.{arith}
use borrow.Author.Tests.{eqb-true, not-false}
use lib.Dec.{eqb}
use lib.Bits.{bit_xor}
use lib.ListN.{length, get_or, take, set, length-set}
use lib.Seq.{set-append_left, set_at, get_or-append_seam}
use Rattle.std.specs.Prelude.{Result, Ok, Err}
use Rattle.units.specs.declared.Words.{Words}
use Rattle.units.specs.Answers.{passed, refused}
use Rattle.units.proofs.Verdicts.{else_passed}
use Rattle.words.specs.Words.{words_of, bytes_of, xor_all, joined, framed, Below}
use Rattle.words.proofs.Laws.{length_words_of}
use Rattle.words.proofs.Joined.{joined_room, get_or_joined, set-joined}
use Rattle.words.proofs.Stores.{bytes_sets}
use Rattle.words.proofs.Xor.{fold_patched}
use Rattle.block.specs.Rules.{block_of, IsBlock}
use Rattle.block.specs.Judging.{Accepted}
use Rattle.block.specs.Records.{records_of}
use Rattle.block.proofs.Exact.{frame_of, only_good, words_are}
use Rattle.sheet.specs.Sheets.{Entry}
use Rattle.block_value.specs.Places.{record_number, word_number, record_in, no_record, no_value, found, with_value, NamesValuePlace}
use Rattle.block_value.specs.Exchange.{Exchanged, value_place, patched}
use Rattle.block_value.specs.declared.Obstacle.{Obstacle}
use Rattle.block_value.specs.Cases.{obstacle_of, spot_of}
use Rattle.block_value.proofs.Named.{is_record, named_inside, named_value}

-- a word of a frame changed in its place, and the last word with it
frame_patched : (ws : List ℕ) (k : ℕ) → k < length ws → (v : ℕ)
    → set (set (framed ws) (suc k) v) (suc (length ws)) (bit_xor (bit_xor (get_or (framed ws) (suc (length ws)) 0) (get_or ws k 0)) v) ≡ framed (set ws k v)
unfolding framed
frame_patched ws k h v =
    let n = length ws + 2 in
    let x = xor_all (n ∷ ws) in
    let l = length-set ws k v in
    ap₂ (λ (m : List ℕ) (y : ℕ). set (n ∷ m) (suc (length ws)) y) (set-append_left ws (x ∷ []) k v h)
    (ap (λ y. bit_xor (bit_xor y (get_or ws k 0)) v) (get_or-append_seam ws x [] 0) ∙ sym (fold_patched (n ∷ ws) (suc k) v (omega arith)))
    ∙ ap (λ m. n ∷ m) (set_at (set ws k v) x [] _ (length ws) l)
    ∙ ap (λ m. (m + 2) ∷ (set ws k v ++ (xor_all ((m + 2) ∷ set ws k v) ∷ []))) (sym l)

-- after a store the last word is still there
pub last_kept : (b b' : List ℕ) (at m : ℕ) → at + 1 < length (words_of b) → m ≡ length (words_of b) → length b' ≡ length b → m - 1 < length (words_of b')
last_kept b b' at m h e k = omega (arith, length_words_of b, length_words_of b')

-- an entry names a value, and v stands there, with `at` words of the block before it
pub record NamesValue (rs : List (List ℕ)) (e : Entry) (v at : ℕ) : Type 0 where
  pub named : NamesValuePlace rs e
  pub stands : v ≡ found rs e
  pub place : at ≡ suc (length (joined (take (record_number e - 1) rs)) + (word_number e - 1))

-- so it does where its place was found
pub names_value : (rs : List (List ℕ)) (e : Entry) (v at : ℕ) → value_place rs e v ≡ passed at → NamesValue rs e v at
unfolding value_place
names_value rs e v at q =
    let a = else_passed (no_record rs (record_number e)) _ _ at q in
    let c = else_passed (no_value rs e) _ _ at a.1 in
    let d = else_passed (not (eqb v (found rs e))) _ _ at c.1 in
    let n = is_record rs (record_number e) a.0 in
    let p : 1 + length (joined (take (record_number e - 1) rs)) + (word_number e - 1) ≡ at = cc d.1 in
    record { named = record { least = n.0; most = n.1; value = not-false _ c.0 }; stands = eqb-true v (found rs e) (not-false _ d.0); place = omega arith }

module _ (b : List ℕ) (rs : List (List ℕ)) (g : IsBlock b rs) (e : Entry) (v at : ℕ) (h : NamesValue rs e v at) where
  there : record_number e - 1 < length rs
  there = named_inside rs e h.named

  room : word_number e - 1 < length (record_in rs (record_number e))
  room = omega (arith, named_value rs e h.named g.each)

  -- its place among the words of the records, and behind the length word
  within : length (joined (take (record_number e - 1) rs)) + (word_number e - 1) < length (joined rs)
  within = joined_room rs (record_number e - 1) (word_number e - 1) there room

  checksum_place : length (words_of b) - 1 ≡ suc (length (joined rs))
  checksum_place = omega (arith, ap length (words_are b rs g), (frame_of (joined rs)).size)

  -- it stands before the checksum
  value_within : at + 1 < length (words_of b)
  value_within = omega (arith, h.place, checksum_place, within)

  -- a value put there, and the checksum patched: the block of the records with this value
  value_put : (new : ℕ) → patched b at v new ≡ block_of (with_value rs e new)
  unfolding with_value
  value_put new =
      let i = record_number e - 1 in
      let j = word_number e - 1 in
      let ws = joined rs in
      let k = length (joined (take i rs)) + j in
      let sum = bit_xor (bit_xor (get_or (framed ws) (suc (length ws)) 0) (get_or ws k 0)) new in
      rw (checksum_place, words_are b rs g, g.bytes, h.place, h.stands, ← (get_or_joined rs i j there room), set-joined rs i j there room new, bytes_sets (framed ws) (suc k) (new ∷ []), bytes_sets (set (framed ws) (suc k) new) (suc (length ws)) (sum ∷ []))
      (ap bytes_of (frame_patched ws k within new))

-- ---- an exchange of values

module _ (b : List ℕ) (e : Entry) (old : ℕ) (spot : Result Words Obstacle) (q : spot_of spot ≡ value_place (records_of b) e old) where
  pub exchange_refused : (new : ℕ) (r : Obstacle) → spot ≡ Err r → Exchanged b e old new (refused (obstacle_of r)) b
  exchange_refused new r f = record { place = ap spot_of (sym f) ∙ q; left = refl }

  module _ (bytes : Below 256 b) (accepted : Accepted b) (at : Words) (f : spot ≡ Ok at) where
    good : IsBlock b (records_of b)
    good = (only_good b accepted.count bytes accepted.is).0

    names : NamesValue (records_of b) e old at.0
    names = names_value (records_of b) e old at.0 (sym q ∙ ap spot_of f)

    pub spot-within : at.0 + 1 < length (words_of b)
    spot-within = value_within b (records_of b) good e old at.0 names

    pub exchange-done : (new : ℕ) (b' : List ℕ) → b' ≡ patched b at.0 old new → Exchanged b e old new (passed at.0) b'
    exchange-done new b' g = record { place = ap spot_of (sym f) ∙ q; left = g ∙ value_put b (records_of b) good e old at.0 names new }
