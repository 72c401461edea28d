-- A run of stores, as far as there is room.
use Rattle.std.proofs.Common.{◌≡◌, ℕ, suc, ◌+◌, ◌-◌, ◌*◌, ◌<◌, ◌≤◌, min, Bool, true, false, leb, List, [], ◌∷◌, length, get_or, take, drop, replicate, refl, sym, ap, ◌∙◌, append_assoc, arith, add-one, length-take, length-drop, leb-true}
use Rattle.std.proofs.lemmas.List.{take_all, take-replicate}
use borrow.Author.Tests.{leb-false}
use borrow.Rule.Slice.PartMut.{put_mid}
use lib.ListN.{take-append-drop, drop_of_length-le, length-replicate}
use lib.Seq.{sets, sets-eq, set_out, length-sets, length-take-le, slice, slice-cons, drop-drop}
use Rattle.words.specs.Words.{bytes_of}
use Rattle.words.proofs.Writing.{sets-append}

-- past the end nothing is stored
pub sets_out : (l : List ℕ) (i : ℕ) (xs : List ℕ) → length l ≤ i → sets l i xs ≡ l
sets_out l i [] h = refl
sets_out l i (x ∷ xs) h = rw (set_out l i x h) (sets_out l (suc i) xs (omega arith))

-- so that as many bytes do as there is room for
sets-cut : (l : List ℕ) (i n : ℕ) (xs : List ℕ) → n ≤ length xs → length l ≤ i + n → sets l i xs ≡ sets l i (take n xs)
sets-cut l i n xs h k =
    ap (sets l i) (sym (take-append-drop n xs)) ∙ sets-append l i (take n xs) (drop n xs)
    ∙ sets_out (sets l i (take n xs)) (i + length (take n xs)) (drop n xs) (omega (arith, length-sets l i (take n xs), length-take-le n xs h))

-- as many as there is room for are all that are stored
pub cut_in : (l : List ℕ) (i n : ℕ) (xs : List ℕ) → n ≡ min (length xs) (length l - i) → i ≤ length l → sets l i (take n xs) ≡ sets l i xs
cut_in l i n xs e h = by (leb (length xs) n) refl
  where
    by : (t : Bool) → leb (length xs) n ≡ t → sets l i (take n xs) ≡ sets l i xs
    by true f = ap (sets l i) (take_all n xs (leb-true (length xs) n f))
    by false f = let k : n < length xs = leb-false (length xs) n f in sym (sets-cut l i n xs (omega arith) (omega arith))

-- a filling, as far as there is room
pub filled : (l after : List ℕ) (at n k count b : ℕ) → n ≡ min count (length l - at) → at ≤ length l → k ≡ n → after ≡ replicate (length (take k (drop at l))) b →
    put_mid at k l after ≡ sets l at (replicate count b)
filled l after at n k count b e h f g =
    let room : length (take k (drop at l)) ≡ n = omega (arith, length-take k (drop at l), length-drop at l) in
    let same : after ≡ replicate n b = g ∙ ap (λ m. replicate m b) room in
    let long : length (replicate n b) ≡ n = length-replicate n b in
    let cut : take n (replicate count b) ≡ replicate n b = take-replicate n count b (omega arith) in
    let put : put_mid at k l after ≡ sets l at (replicate n b) = sym (rw (sets-eq (replicate n b) l at (omega arith), same, f, long, drop-drop, append_assoc)) in
    put ∙ ap (sets l at) (sym cut) ∙ cut_in l at n (replicate count b) (omega (arith, length-replicate count b)) h

-- one word more of a row
word_on : (l : List ℕ) (to k end : ℕ) (row : List ℕ) → k < end → end ≤ length row →
    sets l (to * 2) (bytes_of (slice k end row)) ≡ sets (sets l (to * 2) (bytes_of (get_or row k 0 ∷ []))) ((to + 1) * 2) (bytes_of (slice (k + 1) end row))
unfolding bytes_of
word_on l to k end row h room =
    let e : suc (suc (to * 2)) ≡ (to + 1) * 2 = omega arith in
    rw (slice-cons k end row 0 h room, sym e, add-one)

-- and none is left
pub words-done : (l : List ℕ) (at k end : ℕ) (row : List ℕ) → end ≤ k → sets l at (bytes_of (slice k end row)) ≡ l
unfolding bytes_of
words-done l at k end row h = rw (drop_of_length-le (take end row) {i = k} (omega (arith, length-take end row)))

-- the words of a row up to place k are stored, after at words
abbrev pub Stored : List ℕ → ℕ → List ℕ → ℕ → ℕ → ℕ → List ℕ → Type 0
Stored out at row from end k after = sets after ((at + (k - from)) * 2) (bytes_of (slice k end row)) ≡ sets out (at * 2) (bytes_of (slice from end row))

module _ (out row : List ℕ) (at from end : ℕ) where
  module _ (after : List ℕ) (k : ℕ) (s : Stored out at row from end k after) where
    pub stored-on : (next : List ℕ) → from ≤ k → k < end → end ≤ length row → next ≡ sets after ((at + (k - from)) * 2) (bytes_of (get_or row k 0 ∷ [])) → Stored out at row from end (k + 1) next
    stored-on next h l room e =
        let f : at + (k + 1 - from) ≡ at + (k - from) + 1 = omega arith in
        rw (e, f) (sym (word_on after (at + (k - from)) k end row l room) ∙ s)

    pub stored-all : end ≤ k → after ≡ sets out (at * 2) (bytes_of (slice from end row))
    stored-all h = sym (words-done after ((at + (k - from)) * 2) k end row h) ∙ s
