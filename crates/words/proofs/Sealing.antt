-- Sealing a block: the length word and the checksum, put around the record words that stand in it.
use mathlib.Core.Path.{◌≡◌, refl, sym, ap, ◌∙◌}
use mathlib.Core.List.{List, [], ◌∷◌, ◌++◌}
use Prim.Native.Nat.{ℕ, suc, ◌+◌, ◌*◌, ◌/◌, ◌%◌, ◌≤◌, ◌<◌}
use native.Mathlib.Numerals.{add-one}
use native.Mathlib.Omega.{arith}
use lib.ListN.{length, take, drop, set, length-append}
use lib.Seq.{sets, sets-eq, slice, length-take-le, length-slice, drop-set-lt, take_at, drop_at}
use Rattle.units.specs.Units.{bytes_of_words}
use Rattle.words.specs.Words.{words_of, bytes_of, words, xor_all, framed, Below, block_from, most_record_words}
use Rattle.words.specs.Writing.{Put}
use Rattle.words.proofs.Laws.{length_words_of, length_bytes_of, bytes_words, words_bytes, bytes_below, words_take, words-slice, bytes_append}
use Rattle.words.proofs.Lists.{all_take, all_append}
use Rattle.words.proofs.Xor.{fold_below}

-- a block's words up to the last record word, once the length word is put
words_headed : (b : List ℕ) (n w : ℕ) → 2 ≤ length b → words_of (slice 0 ((n + 1) * 2) (sets b 0 (bytes_of (w ∷ [])))) ≡ w ∷ words (words_of b) 2 (n + 1)
unfolding words_of bytes_of
words_headed [] n w h = absurd (omega arith)
words_headed (x ∷ []) n w h = absurd (omega arith)
words_headed (x ∷ y ∷ r) n w h =
    let e : w / 256 * 256 + w % 256 ≡ w = omega arith in
    words-slice 0 (n + 1) ((w / 256) ∷ ((w % 256) ∷ r)) ∙ rw (add-one, e)

-- a block's bytes, once the length word and the checksum are put
bytes_sealed : (b : List ℕ) (n w x : ℕ) → (n + 2) * 2 ≤ length b → Below 256 b
    → sets (sets b 0 (bytes_of (w ∷ []))) ((n + 1) * 2) (bytes_of (x ∷ [])) ≡ bytes_of (w ∷ (words (words_of b) 2 (n + 1) ++ (x ∷ []))) ++ drop ((n + 2) * 2) b
unfolding words_of bytes_of
bytes_sealed [] n w x h k = absurd (omega arith)
bytes_sealed (y ∷ []) n w x h k = absurd (omega arith)
bytes_sealed (y ∷ z ∷ r) n w x h k =
    let e : (n + 1) * 2 ≡ suc (suc (n * 2)) = omega arith in
    let f : (n + 2) * 2 ≡ suc (suc (n * 2 + 2)) = omega arith in
    let t : length (take (n * 2) r) ≡ n * 2 = length-take-le (n * 2) r (omega arith) in
    let s : take (n * 2) r ≡ bytes_of (take n (words_of r)) = sym (bytes_words (take (n * 2) r) (omega arith) (all_take (λ x. x < 256) (n * 2) r k.1.1)) ∙ ap bytes_of (words_take n r) in
    rw (e, f, add-one, bytes_append (take n (words_of r)) (x ∷ []), ← s)
    (ap (λ l. (w / 256) ∷ ((w % 256) ∷ l)) (sets-eq (bytes_of (x ∷ [])) r (n * 2) (omega arith)))

-- the length word is put, the checksum taken of it and the record words, and put behind them: the block is sealed
pub sealed : (b : List ℕ) (n : ℕ) {b' part after : List ℕ} {x : ℕ} → (n + 2) * 2 ≤ length b → Below 256 b
    → b' ≡ sets b 0 (bytes_of ((n + 2) ∷ [])) → part ≡ slice 0 ((n + 1) * 2) b' → x ≡ xor_all (words_of part) → after ≡ sets b' ((n + 1) * 2) (bytes_of (x ∷ []))
    → after ≡ block_from (words (words_of b) 2 (n + 1)) ++ drop ((n + 2) * 2) b
unfolding framed
sealed b n h k first parted sum last =
    let e : length (words (words_of b) 2 (n + 1)) ≡ n = length-slice 1 (n + 1) (words_of b) (omega (arith, length_words_of b)) ∙ omega arith in
    last
    ∙ rw (sum, parted, first, words_headed b n (n + 2) (omega arith), e) (bytes_sealed b n (n + 2) (xor_all ((n + 2) ∷ words (words_of b) 2 (n + 1))) h k)

-- what stands past a run of stores stays
drop-sets : (k i : ℕ) (l vs : List ℕ) → i + length vs ≤ k → drop k (sets l i vs) ≡ drop k l
drop-sets k i l [] h = refl
drop-sets k i l (v ∷ vs) h = drop-sets k (suc i) (set l i v) vs (omega arith) ∙ drop-set-lt k l i v (omega arith)

-- and what was stored stands there
pub slice-sets : (l vs : List ℕ) (i t : ℕ) → i + length vs ≡ t → t ≤ length l → slice i t (sets l i vs) ≡ vs
slice-sets l vs i t e h =
    let s : length (take i l) ≡ i = length-take-le i l (omega arith) in
    ap (slice i t) (sets-eq vs l i (omega arith))
    ∙ ap (drop i) (take_at (take i l ++ vs) (drop (i + length vs) l) t (length-append (take i l) vs ∙ omega arith))
    ∙ drop_at (take i l) vs i s

-- record words put behind the place of the length word are the words there
behind-length-put : (b ws : List ℕ) (n : ℕ) → n ≡ length ws → (n + 2) * 2 ≤ length b → words (words_of (sets b 2 (bytes_of ws))) 2 (n + 1) ≡ ws
behind-length-put b ws n e h =
    let l = length_bytes_of ws in
    sym (words-slice 1 (n + 1) (sets b 2 (bytes_of ws))) ∙ ap words_of (slice-sets b (bytes_of ws) 2 ((n + 1) * 2) (omega arith) (omega arith)) ∙ words_bytes ws

-- the bytes of a frame
pub length-framed : (ws : List ℕ) → length (block_from ws) ≡ bytes_of_words (length ws + 2)
unfolding framed
length-framed ws = let x = xor_all ((length ws + 2) ∷ ws) in omega (arith, length_bytes_of ((length ws + 2) ∷ (ws ++ (x ∷ []))), length-append ws (x ∷ []))

-- which are bytes, where its words are words
pub framed_below : (ws : List ℕ) → length ws ≤ most_record_words → Below 65536 ws → Below 256 (block_from ws)
unfolding framed
framed_below ws most h =
    let head : length ws + 2 < 65536 = omega arith in
    bytes_below _ (head, all_append (λ w. w < 65536) ws _ h (fold_below ((length ws + 2) ∷ ws) (head, h), tt))

-- record words put there and then sealed: their frame is written
pub sealed_put : (b ws : List ℕ) (n : ℕ) {b' after : List ℕ} → n ≡ length ws → bytes_of_words (n + 2) ≤ length b → b' ≡ sets b 2 (bytes_of ws)
    → after ≡ block_from (words (words_of b') 2 (n + 1)) ++ drop (bytes_of_words (n + 2)) b' → Put b 0 (block_from ws) after (bytes_of_words (n + 2))
sealed_put b ws n e h p q =
    let l = length_bytes_of ws in
    let size : bytes_of_words (n + 2) ≡ 0 + length (block_from ws) = omega (arith, length-framed ws) in
    record {
      ends = size;
      bytes = q ∙ rw (p, behind-length-put b ws n e h, drop-sets ((n + 2) * 2) 2 b (bytes_of ws) (omega arith), size) (sym (sets-eq (block_from ws) b 0 (omega arith)));
    }
