-- Bytes, the words that they make, and parts of both.
use mathlib.Core.Path.{◌≡◌, refl, sym, ap, ◌∙◌}
use Prim.Native.Nat.{ℕ, zero, suc, ◌+◌, ◌*◌, ◌/◌, ◌%◌, ◌≤◌, ◌<◌}
use mathlib.Core.List.{List, [], ◌∷◌, ◌++◌, append_assoc}
use native.Mathlib.Omega.{arith}
use lib.ListN.{length, get_or, take, drop, replicate}
use lib.Seq.{slice, drop-nil, length-slice}
use Rattle.words.specs.Words.{words_of, bytes_of, joined, Below}
use Rattle.words.proofs.Lists.{all_get_d, all_take, all_drop}

pub length_words_of : (b : List ℕ) → length (words_of b) ≡ length b / 2
unfolding words_of
length_words_of [] = refl
length_words_of (h ∷ []) = refl
length_words_of (h ∷ l ∷ t) = let ih = length_words_of t in omega arith

pub length_bytes_of : (ws : List ℕ) → length (bytes_of ws) ≡ length ws * 2
unfolding bytes_of
length_bytes_of [] = refl
length_bytes_of (w ∷ ws) = let ih = length_bytes_of ws in omega arith

-- both bytes of a word stand in the bytes
pub word_room : (b : List ℕ) (i : ℕ) → i < length (words_of b) → i * 2 + 1 < length b
word_room b i h = omega (arith, length_words_of b)

-- the bytes of a block's words are the block
pub bytes_words : (b : List ℕ) → length b % 2 ≡ 0 → Below 256 b → bytes_of (words_of b) ≡ b
unfolding words_of bytes_of
bytes_words [] e h = refl
bytes_words (x ∷ []) e h = absurd (omega arith)
bytes_words (x ∷ y ∷ r) e h =
    let hi : (x * 256 + y) / 256 ≡ x = omega (arith, h.1.0) in
    let lo : (x * 256 + y) % 256 ≡ y = omega (arith, h.1.0) in
    rw (hi, lo, bytes_words r (omega arith) h.1.1)

pub words_bytes : (ws : List ℕ) → words_of (bytes_of ws) ≡ ws
unfolding words_of bytes_of
words_bytes [] = refl
words_bytes (w ∷ ws) =
    let e : w / 256 * 256 + w % 256 ≡ w = omega arith in
    rw (e, words_bytes ws)

-- the bytes of words one after the other
pub bytes_append : (xs ys : List ℕ) → bytes_of (xs ++ ys) ≡ bytes_of xs ++ bytes_of ys
unfolding bytes_of
bytes_append [] ys = refl
bytes_append (w ∷ xs) ys = ap (λ t. (w / 256) ∷ ((w % 256) ∷ t)) (bytes_append xs ys)

-- the words of whole words and what is behind them
pub words_append : (xs ys : List ℕ) → length xs % 2 ≡ 0 → words_of (xs ++ ys) ≡ words_of xs ++ words_of ys
unfolding words_of
words_append [] ys e = refl
words_append (x ∷ []) ys e = absurd (omega arith)
words_append (x ∷ y ∷ xs) ys e = ap (λ l. (x * 256 + y) ∷ l) (words_append xs ys (omega arith))

-- zeros are zero bytes
pub zero_bytes : (n : ℕ) → bytes_of (replicate n 0) ≡ replicate (n * 2) 0
unfolding bytes_of
zero_bytes zero = refl
zero_bytes (suc n) = let e : suc n * 2 ≡ suc (suc (n * 2)) = omega arith in rw (e, zero_bytes n)

-- bytes make 16-bit words, and 16-bit words make bytes
pub words_below : (b : List ℕ) → Below 256 b → Below 65536 (words_of b)
unfolding words_of
words_below [] h = tt
words_below (x ∷ []) h = tt
words_below (x ∷ y ∷ r) h = (omega (arith, h.0, h.1.0), words_below r h.1.1)

pub bytes_below : (ws : List ℕ) → Below 65536 ws → Below 256 (bytes_of ws)
unfolding bytes_of
bytes_below [] h = tt
bytes_below (w ∷ ws) h = (omega (arith, h.0), (omega arith, bytes_below ws h.1))

-- the words of a part of the bytes are a part of the words
pub words-drop : (n : ℕ) (b : List ℕ) → words_of (drop (n * 2) b) ≡ drop n (words_of b)
unfolding words_of
words-drop zero b = refl
words-drop (suc n) [] = let e : suc n * 2 ≡ suc (suc (n * 2)) = omega arith in rw e refl
words-drop (suc n) (x ∷ []) = let e : suc n * 2 ≡ suc (suc (n * 2)) = omega arith in rw e (ap words_of (drop-nil (suc (n * 2))))
words-drop (suc n) (x ∷ y ∷ r) = let e : suc n * 2 ≡ suc (suc (n * 2)) = omega arith in rw e (words-drop n r)

pub words_take : (n : ℕ) (b : List ℕ) → words_of (take (n * 2) b) ≡ take n (words_of b)
unfolding words_of
words_take zero b = refl
words_take (suc n) [] = let e : suc n * 2 ≡ suc (suc (n * 2)) = omega arith in rw e refl
words_take (suc n) (x ∷ []) = let e : suc n * 2 ≡ suc (suc (n * 2)) = omega arith in rw e refl
words_take (suc n) (x ∷ y ∷ r) = let e : suc n * 2 ≡ suc (suc (n * 2)) = omega arith in rw e (ap (λ l. (x * 256 + y) ∷ l) (words_take n r))

pub words-slice : (f t : ℕ) (b : List ℕ) → words_of (slice (f * 2) (t * 2) b) ≡ slice f t (words_of b)
words-slice f t b = words-drop f (take (t * 2) b) ∙ ap (drop f) (words_take t b)

-- and the bytes of a part of the words are that part of the bytes
pub bytes_slice : (f t : ℕ) (b : List ℕ) → t ≤ length (words_of b) → Below 256 b → slice (f * 2) (t * 2) b ≡ bytes_of (slice f t (words_of b))
bytes_slice f t b h bytes =
    let l = length-slice (f * 2) (t * 2) b (omega (arith, length_words_of b)) in
    let below = all_drop (λ x. x < 256) (f * 2) (take (t * 2) b) (all_take (λ x. x < 256) (t * 2) b bytes) in
    sym (bytes_words (slice (f * 2) (t * 2) b) (omega arith) below) ∙ ap bytes_of (words-slice f t b)

-- what a slice's rule gives, an element at a time
pub all_below : (n : ℕ) (l : List ℕ) → ((i : ℕ) → get_or l i 0 < n) → Below n l
all_below n [] h = tt
all_below n (x ∷ xs) h = (h 0, all_below n xs (λ i. h (suc i)))

pub joined-append : (rs ss : List (List ℕ)) → joined (rs ++ ss) ≡ joined rs ++ joined ss
unfolding joined
joined-append [] ss = refl
joined-append (r ∷ rs) ss = ap (λ t. r ++ t) (joined-append rs ss) ∙ sym (append_assoc r (joined rs) (joined ss))

pub get_or_below : (n : ℕ) (l : List ℕ) (i : ℕ) → 0 < n → Below n l → get_or l i 0 < n
get_or_below n l i h b = all_get_d (λ x. x < n) l i 0 h b
