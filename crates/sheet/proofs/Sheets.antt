-- A sheet that keeps its layout and a list of entries determine each other.
use mathlib.Core.Path.{◌≡◌, refl, sym, ap, ap₂, ◌∙◌}
use mathlib.Core.Bool.{Bool, true, false, ◌||◌}
use mathlib.Core.List.{List, [], ◌∷◌, ◌++◌, append_assoc}
use Prim.Native.Nat.{ℕ, zero, suc, ◌+◌, ◌-◌, ◌*◌, ◌/◌, ◌%◌, ◌≤◌, ◌<◌}
use native.Mathlib.Nat.{zero-mul, add-mul, mul-le-mul_right}
use native.Mathlib.Omega.{arith}
use borrow.Author.Tests.{ltb-false, eqb-true, not-false, le-ltb, eq-eqb}
use lib.Dec.{eqb}
use lib.ListN.{length, get_or, take, drop, replicate, length-append, length-drop, length-replicate, take-append-drop}
use lib.Seq.{length-take-le, take_at, drop_at, take-add, drop-cons}
use Rattle.std.specs.Prelude.{if◌then◌else◌}
use Rattle.units.specs.Units.{bytes_of_words}
use Rattle.units.specs.Answers.{answer, passed}
use Rattle.units.proofs.Verdicts.{else_passed, or_off}
use Rattle.words.specs.Words.{words_of, bytes_of, joined, All, Below}
use Rattle.words.proofs.Laws.{length_words_of, length_bytes_of, bytes_words, words_bytes, words_below, get_or_below}
use Rattle.words.proofs.Lists.{all_take, all_drop}
use Rattle.words.specs.Scans.{passing, is_zero}
use Rattle.sheet.specs.Sheets.{Layout, Entry, sheet_bytes, sheet_with, sheet_of, number_at, count_in, numbers_in, entries, entries_of, all_zero, broken, opened}
use Rattle.sheet.specs.Rules.{IsEntry, IsSheet}

-- a scan for words that are not zero passes zeros, and only zeros
zeros_pass : (n : ℕ) → passing is_zero (replicate n 0) ≡ n
unfolding passing
zeros_pass zero = refl
zeros_pass (suc n) = ap suc (zeros_pass n)

pass_zeros : (ws : List ℕ) → passing is_zero ws ≡ length ws → ws ≡ replicate (length ws) 0
unfolding passing
pass_zeros [] e = refl
pass_zeros (w ∷ ws) e = by (eqb w 0) refl e (pass_zeros ws)
  where
    by : (t : Bool) → eqb w 0 ≡ t → (if t then suc (passing is_zero ws) else 0) ≡ suc (length ws) → (passing is_zero ws ≡ length ws → ws ≡ replicate (length ws) 0)
        → w ∷ ws ≡ 0 ∷ replicate (length ws) 0
    by true f h ih = ap₂ (λ (x : ℕ) (xs : List ℕ). x ∷ xs) (eqb-true w 0 f) (ih (omega arith))
    by false f h ih = absurd (omega arith)

-- ---- the entries

-- entries of one size, end to end
pub length-joined : (y : Layout) (es : List Entry) → All (IsEntry y) es → length (joined es) ≡ length es * y.words
unfolding joined
length-joined y [] h = omega arith
length-joined y (e ∷ es) h = omega (arith, length-append e (joined es), h.0.size, length-joined y es h.1)

-- are cut again where they were joined
entries-joined : (y : Layout) (es : List Entry) (tail : List ℕ) → All (IsEntry y) es → entries y.words (length es) (joined es ++ tail) ≡ es
unfolding entries joined
entries-joined y [] tail h = refl
entries-joined y (e ∷ es) tail h =
    let rest = joined es ++ tail in
    let s = h.0.size in
    rw (append_assoc e (joined es) tail, take_at e rest y.words s, drop_at e rest y.words s) (ap (λ l. e ∷ l) (entries-joined y es tail h.1))

-- and words that are cut are joined again, as far as they were cut
joined-entries : (size n : ℕ) (ws : List ℕ) → joined (entries size n ws) ≡ take (n * size) ws
unfolding entries joined
joined-entries size zero ws = rw zero-mul
joined-entries size (suc n) ws =
    let e : suc n * size ≡ size + n * size = omega arith in
    rw e (ap (λ l. take size ws ++ l) (joined-entries size n (drop size ws)) ∙ sym (take-add size (n * size) ws))

-- they are as many
pub length-entries : (size n : ℕ) (ws : List ℕ) → length (entries size n ws) ≡ n
unfolding entries
length-entries size zero ws = refl
length-entries size (suc n) ws = ap suc (length-entries size n (drop size ws))

-- each with as many numbers as the layout says
entries_each : (y : Layout) (n : ℕ) (ws : List ℕ) → n * y.words ≤ length ws → Below 65536 ws → All (IsEntry y) (entries y.words n ws)
unfolding entries
entries_each y zero ws h b = tt
entries_each y (suc n) ws h b =
    let l = length-drop y.words ws in
    let e : suc n * y.words ≡ y.words + n * y.words = omega arith in (
      record { size = length-take-le y.words ws (omega arith); numbers = all_take (λ w. w < 65536) y.words ws b },
      entries_each y n (drop y.words ws) (omega arith) (all_drop (λ w. w < 65536) y.words ws b),
    )

-- the places of the entries that stand, and those past them, are all places
all_places : (y : Layout) (n : ℕ) → n ≤ y.limit → n * y.words + (y.limit - n) * y.words ≡ y.limit * y.words
all_places y n h = let e : n + (y.limit - n) ≡ y.limit = omega arith in sym (add-mul n (y.limit - n) y.words) ∙ ap (λ k. k * y.words) e

-- the numbers of all places: those of the entries, and zeros past them
abbrev pub numbers_of : Layout → List Entry → List ℕ
numbers_of y es = joined es ++ replicate ((y.limit - length es) * y.words) 0

length_numbers : (y : Layout) (es : List Entry) → All (IsEntry y) es → length es ≤ y.limit → length (numbers_of y es) ≡ y.limit * y.words
length_numbers y es h most =
    let past : ℕ = (y.limit - length es) * y.words in
    omega (arith, length-append (joined es) (replicate past 0), length-joined y es h, length-replicate {A = ℕ} past 0, all_places y (length es) most)

-- ---- the bytes

-- the parts of a sheet, read from its bytes
module _ (v c : ℕ) (ws : List ℕ) where
  length_with : length (sheet_with v c ws) ≡ 8 + bytes_of_words (length ws)
  unfolding sheet_with bytes_of
  length_with = omega (arith, length_bytes_of ws)

  count_with : count_in (sheet_with v c ws) ≡ c
  unfolding sheet_with bytes_of
  count_with = omega arith

  numbers_with : numbers_in (sheet_with v c ws) ≡ ws
  unfolding sheet_with bytes_of
  numbers_with = words_bytes ws

-- the tests of a sheet, as facts
pub record Unbroken (y : Layout) (s : List ℕ) : Type 0 where
  pub size : length s ≡ sheet_bytes y
  mark_1 : get_or s 0 0 ≡ 65
  mark_2 : get_or s 1 0 ≡ 77
  mark_3 : get_or s 2 0 ≡ 68
  version_is : number_at s 3 ≡ y.version
  most : count_in s ≤ y.limit
  zero_byte : get_or s 7 0 ≡ 0
  past : passing is_zero (drop (count_in s * y.words) (numbers_in s)) ≡ length (drop (count_in s * y.words) (numbers_in s))

or_left : (s t : Bool) → (s || t) ≡ false → s ≡ false
or_left s t e = (or_off s t e).0

or_right : (s t : Bool) → (s || t) ≡ false → t ≡ false
or_right s t e = (or_off s t e).1

-- a sheet that is not broken passed them all
pub unbroken : (y : Layout) (s : List ℕ) → broken y s ≡ false → Unbroken y s
unfolding broken all_zero
unbroken y s e = search (or_left, or_right, not-false, eqb-true, ltb-false) depth 10

-- and one that passes them all is opened
unbroken_opened : (y : Layout) (s : List ℕ) → Unbroken y s → opened y s ≡ passed (count_in s)
unfolding opened broken all_zero
unbroken_opened y s h =
    simp (eq-eqb (length s) (sheet_bytes y) h.size, h.mark_1, h.mark_2, h.mark_3, h.zero_byte, eq-eqb _ _ h.past)
    (simp (eq-eqb (number_at s 3) y.version h.version_is, le-ltb y.limit (count_in s) h.most))

-- ---- from the entries to the sheet

-- a sheet has the size of its layout
pub length_sheet : (y : Layout) (s : List ℕ) (es : List Entry) → IsSheet y s es → length s ≡ sheet_bytes y
unfolding sheet_of
length_sheet y s es h = ap length h.bytes ∙ length_with y.version (length es) (numbers_of y es) ∙ ap (λ n. 8 + bytes_of_words n) (length_numbers y es h.each h.most)

-- and passes each test
sheet_unbroken : (y : Layout) (es : List Entry) → IsSheet y (sheet_of y es) es → Unbroken y (sheet_of y es)
unfolding sheet_of sheet_with bytes_of
sheet_unbroken y es h =
    let v = y.version in
    let n = length es in
    let ws = numbers_of y es in
    let past : ℕ = (y.limit - n) * y.words in
    record {
      size = length_sheet y (sheet_of y es) es h;
      mark_1 = refl;
      mark_2 = refl;
      mark_3 = refl;
      zero_byte = refl;
      version_is = omega arith;
      most = rw (count_with v n ws) h.most;
      past = rw (count_with v n ws, numbers_with v n ws, drop_at (joined es) (replicate past 0) (n * y.words) (length-joined y es h.each)) (zeros_pass past ∙ sym (length-replicate past 0));
    }

-- a sheet of entries is opened, with their number, and they are its entries
pub opened_sheet : (y : Layout) (s : List ℕ) (es : List Entry) → IsSheet y s es → (opened y s ≡ passed (length es)) × (entries_of y s ≡ es)
unfolding sheet_of entries_of
opened_sheet y s es h =
    let v = y.version in
    let n = length es in
    let ws = numbers_of y es in
    let count = count_with v n ws in
    rw h.bytes (
      unbroken_opened y (sheet_of y es) (sheet_unbroken y es (rw h.bytes at h)) ∙ ap (λ k. passed k) count,
      ap₂ (entries y.words) count (numbers_with v n ws) ∙ entries-joined y es _ h.each,
    )

-- ---- from the sheet to the entries

-- bytes are the sheet of their parts
with_parts : (y : Layout) (s : List ℕ) → Below 256 s → Unbroken y s → s ≡ sheet_with y.version (count_in s) (numbers_in s)
unfolding sheet_with bytes_of
with_parts y s b h =
    let d : (j : ℕ) → j < 8 → drop j s ≡ get_or s j 0 ∷ drop (suc j) s = λ j k. drop-cons s j 0 (omega (arith, h.size)) in
    let under : (j : ℕ) → get_or s j 0 < 256 = λ j. get_or_below 256 s j (omega arith) b in
    let v₁ : number_at s 3 / 256 ≡ get_or s 3 0 = omega (arith, under 3, under 4) in
    let v₂ : number_at s 3 % 256 ≡ get_or s 4 0 = omega (arith, under 3, under 4) in
    let c₁ : count_in s / 256 ≡ get_or s 5 0 = omega (arith, under 5, under 6) in
    let c₂ : count_in s % 256 ≡ get_or s 6 0 = omega (arith, under 5, under 6) in
    let t : bytes_of (words_of (drop 8 s)) ≡ drop 8 s = bytes_words (drop 8 s) (omega (arith, length-drop 8 s, h.size)) (all_drop (λ x. x < 256) 8 s b) in
    rw (← h.version_is, v₁, v₂, c₁, c₂, t)
    (cc (d 0 (omega arith), d 1 (omega arith), d 2 (omega arith), d 3 (omega arith), d 4 (omega arith), d 5 (omega arith), d 6 (omega arith), d 7 (omega arith), h.mark_1, h.mark_2, h.mark_3, h.zero_byte))

-- numbers that are zero past the first n entries are the numbers of those entries
numbers_entries : (y : Layout) (n : ℕ) (ws : List ℕ) → n ≤ y.limit → length ws ≡ y.limit * y.words → passing is_zero (drop (n * y.words) ws) ≡ length (drop (n * y.words) ws)
    → ws ≡ numbers_of y (entries y.words n ws)
numbers_entries y n ws most size none =
    let past : length (drop (n * y.words) ws) ≡ (y.limit - n) * y.words = omega (arith, length-drop (n * y.words) ws, all_places y n most) in
    sym (take-append-drop (n * y.words) ws)
    ∙ rw (length-entries y.words n ws) (ap₂ (λ (a z : List ℕ). a ++ z) (sym (joined-entries y.words n ws)) (pass_zeros (drop (n * y.words) ws) none ∙ ap (λ m. replicate m 0) past))

-- a sheet that is opened is the sheet of its entries
pub sheet_opened : (y : Layout) (s : List ℕ) (k : ℕ) → Below 256 s → opened y s ≡ passed k → IsSheet y s (entries_of y s) × (length (entries_of y s) ≡ k)
unfolding entries_of sheet_of opened
sheet_opened y s k b e =
    let o = else_passed (broken y s) (answer 40 0 0 0) (passed (count_in s)) k e in
    let h = unbroken y s o.0 in
    let c : count_in s ≡ k = cc o.1 in
    let ws = numbers_in s in
    let size : length ws ≡ y.limit * y.words = omega (arith, length_words_of (drop 8 s), length-drop 8 s, h.size) in
    let n = length-entries y.words (count_in s) ws in (
      record {
        bytes = with_parts y s b h ∙ ap₂ (sheet_with y.version) (sym n) (numbers_entries y (count_in s) ws h.most size h.past);
        each = entries_each y (count_in s) ws (omega (arith, mul-le-mul_right y.words h.most)) (words_below (drop 8 s) (all_drop (λ x. x < 256) 8 s b));
        most = rw n h.most;
      },
      n ∙ c,
    )
