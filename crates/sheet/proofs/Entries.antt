-- What stores into a sheet's bytes make of its entries.
use mathlib.Core.Path.{◌≡◌, refl, sym, ap, ap₂, subst, ◌∙◌}
use mathlib.Core.List.{List, [], ◌∷◌, ◌++◌, append_assoc, append-nil}
use Prim.Native.Nat.{ℕ, zero, suc, ◌+◌, ◌-◌, ◌*◌, ◌<◌}
use native.Mathlib.Nat.{zero-mul}
use native.Mathlib.Omega.{arith}
use lib.ListN.{length, get_or, take, drop, replicate, length-append, length-replicate, replicate-append-replicate}
use lib.Seq.{sets, length-take-le, take-suc, take_all, drop-drop}
use Rattle.units.specs.Units.{bytes_of_words}
use Rattle.words.specs.Words.{words_of, bytes_of, joined, All}
use Rattle.words.proofs.Laws.{words-drop, joined-append}
use Rattle.words.proofs.Lists.{all_parts}
use Rattle.words.proofs.Stores.{sets_right, sets-part, bytes_sets}
use Rattle.sheet.specs.Sheets.{Layout, Entry, sheet_with, sheet_of, count_in, numbers_in, entries, entries_of}
use Rattle.sheet.specs.Rules.{IsEntry, IsSheet, Holds}
use Rattle.sheet.proofs.Sheets.{numbers_of, length-joined, length-entries}

-- numbers are put among the numbers
put_among : (v c : ℕ) (ws : List ℕ) (i : ℕ) (xs : List ℕ) → sets (sheet_with v c ws) (8 + bytes_of_words i) (bytes_of xs) ≡ sheet_with v c (sets ws i xs)
unfolding sheet_with bytes_of
put_among v c ws i xs =
    let front = take 8 (sheet_with v c ws) in
    sets_right (bytes_of xs) front (bytes_of ws) (bytes_of_words i) ∙ ap (λ l. front ++ l) (bytes_sets ws i xs)

-- and a count in place of the count
count-put : (v c c' : ℕ) (ws : List ℕ) → sets (sheet_with v c ws) 5 (bytes_of (c' ∷ [])) ≡ sheet_with v c' ws
unfolding sheet_with bytes_of
count-put v c c' ws = refl

-- ---- the place behind some entries

-- the zeros past that place
abbrev zeros_past : Layout → List Entry → List ℕ
zeros_past y es = replicate ((y.limit - (length es + 1)) * y.words) 0

-- it is free
numbers_free : (y : Layout) (es : List Entry) → length es < y.limit → numbers_of y es ≡ joined es ++ (replicate y.words 0 ++ zeros_past y es)
numbers_free y es h =
    let left = y.limit - (length es + 1) in
    let e : y.limit - length es ≡ suc left = omega arith in
    let f : (y.limit - length es) * y.words ≡ y.words + left * y.words = ap (λ k. k * y.words) e ∙ omega arith in
    ap (λ k. joined es ++ replicate k 0) f ∙ ap (λ l. joined es ++ l) (sym (replicate-append-replicate y.words (left * y.words) 0))

-- or an entry stands there
numbers_taken : (y : Layout) (es : List Entry) (e : Entry) → numbers_of y (es ++ (e ∷ [])) ≡ joined es ++ (e ++ zeros_past y es)
unfolding joined
numbers_taken y es e =
    ap₂ (λ (k : ℕ) (l : List ℕ). l ++ replicate ((y.limit - k) * y.words) 0) (length-append es (e ∷ [])) (joined-append es (e ∷ []) ∙ ap (λ l. joined es ++ l) (append-nil e))
    ∙ append_assoc (joined es) e (zeros_past y es)

-- these numbers are put there in place of those, and then the count
place_put : (y : Layout) (es : List Entry) (each : All (IsEntry y) es) (s : List ℕ) (c c' : ℕ) (old new : List ℕ) → s ≡ sheet_with y.version c (joined es ++ (old ++ zeros_past y es)) → length old ≡ length new
    → sets (sets s (8 + bytes_of_words (length es * y.words)) (bytes_of new)) 5 (bytes_of (c' ∷ [])) ≡ sheet_with y.version c' (joined es ++ (new ++ zeros_past y es))
place_put y es each s c c' old new e h =
    let v = y.version in
    let ws = joined es ++ (old ++ zeros_past y es) in
    let i = length es * y.words in
    rw (e, put_among v c ws i new, count-put v c c' (sets ws i new), ← (length-joined y es each)) (ap (sheet_with v c') (sets-part (joined es) old new (zeros_past y es) h))

-- an entry is put behind those that stand, and the count
pub entry_added : {y : Layout} {s : List ℕ} {count : ℕ} {s₁ s₂ : List ℕ} (e : Entry) → Holds y s count → count < y.limit → length e ≡ y.words
    → s₁ ≡ sets s (8 + bytes_of_words (count * y.words)) (bytes_of e) → s₂ ≡ sets s₁ 5 (bytes_of ((count + 1) ∷ [])) → s₂ ≡ sheet_of y (entries_of y s ++ e ∷ [])
unfolding sheet_of
entry_added {y} {s} e h room size e₁ e₂ =
    let v = y.version in
    let es = entries_of y s in
    rw (e₂, e₁, h.count_is) (
    place_put y es h.layout.each s (length es) (length es + 1) (replicate y.words 0) e (h.layout.bytes ∙ ap (sheet_with v (length es)) (numbers_free y es (omega (arith, h.count_is)))) (length-replicate y.words 0 ∙ sym size)
    ∙ ap₂ (sheet_with v) (sym (length-append es (e ∷ []))) (sym (numbers_taken y es e))
    )

-- zeros are put in place of the last entry, and the count
last_cleared : (y : Layout) (s : List ℕ) (es : List Entry) (e : Entry) → IsSheet y s (es ++ e ∷ [])
    → sets (sets s (8 + bytes_of_words (length es * y.words)) (bytes_of (replicate y.words 0))) 5 (bytes_of (length es ∷ [])) ≡ sheet_of y es
unfolding sheet_of
last_cleared y s es e h =
    let v = y.version in
    let l = length-append es (e ∷ []) in
    let p = all_parts (IsEntry y) es (e ∷ []) h.each in
    place_put y es p.0 s _ (length es) e (replicate y.words 0) (h.bytes ∙ ap (sheet_with v _) (numbers_taken y es e)) (p.1.0.size ∙ sym (length-replicate y.words 0))
    ∙ ap (sheet_with v (length es)) (sym (numbers_free y es (omega (arith, h.most))))

pub entry_cleared : {y : Layout} {s s₁ s₂ : List ℕ} (left : ℕ) → Holds y s (left + 1)
    → s₁ ≡ sets s (8 + bytes_of_words (left * y.words)) (bytes_of (replicate y.words 0)) → s₂ ≡ sets s₁ 5 (bytes_of (left ∷ [])) → s₂ ≡ sheet_of y (take left (entries_of y s))
entry_cleared {y} {s} left h e₁ e₂ =
    let es = entries_of y s in
    let split : es ≡ take left es ++ get_or es left [] ∷ [] = sym (take_all (suc left) es (omega (arith, h.count_is))) ∙ take-suc es left [] (omega (arith, h.count_is)) in
    rw (e₂, e₁) (rw (length-take-le left es (omega (arith, h.count_is))) at (last_cleared y s (take left es) (get_or es left []) (subst (IsSheet y s) split h.layout)))

-- ---- an entry that is read

-- entry i is cut out of the numbers behind those before it
entry_cut : (size n : ℕ) (ws : List ℕ) (i : ℕ) → i < n → get_or (entries size n ws) i [] ≡ take size (drop (i * size) ws)
unfolding entries
entry_cut size zero ws i h = absurd (omega arith)
entry_cut size (suc n) ws zero h = rw zero-mul
entry_cut size (suc n) ws (suc i) h = let e : suc i * size ≡ size + i * size = omega arith in rw (e, ← drop-drop) (entry_cut size n (drop size ws) i (omega arith))

-- so it stands among the words of the sheet
pub entry_words : (y : Layout) (s : List ℕ) (i : ℕ) → i < length (entries_of y s) → get_or (entries_of y s) i [] ≡ take y.words (drop (4 + i * y.words) (words_of s))
unfolding entries_of
entry_words y s i h =
    let n = length-entries y.words (count_in s) (numbers_in s) in
    entry_cut y.words (count_in s) (numbers_in s) i (omega arith) ∙ ap (λ l. take y.words (drop (i * y.words) l)) (words-drop 4 s) ∙ ap (take y.words) (drop-drop (i * y.words) 4 (words_of s))
