-- What the code reads and stores in a sheet's bytes, over plain lists.
use mathlib.Core.Path.{◌≡◌, refl, sym, ap, ◌∙◌}
use mathlib.Core.Bool.{Bool, false, not, ◌||◌}
use mathlib.Core.List.{List, [], ◌∷◌, ◌++◌, append_assoc}
use Prim.Native.Nat.{ℕ, suc, ◌+◌, ◌-◌, ◌*◌, ◌/◌, ◌%◌, ◌≤◌, ◌<◌}
use Rattle.std.specs.List.{list_any, fold}
use Rattle.std.specs.Int.Bits.{bit_or, or_zero_l}
use Rattle.std.proofs.lemmas.Nat.{le_or_l, le_or_r}
use Rattle.std.specs.Prelude.{if◌then◌else◌}
use Rattle.std.proofs.lemmas.Bool.Decides.{nat_tests}
use native.Mathlib.Numerals.{add-one}
use native.Mathlib.Omega.{arith}
use borrow.Author.Tests.{eq-eqb, ne_eqb}
use lib.Dec.{eqb}
use lib.ListN.{length, get_or, take, drop, replicate, length-drop, drop_of_length-le}
use lib.Seq.{sets, sets-eq, take_all, drop-drop, drop-cons}
use borrow.Rule.Slice.PartMut.{put_mid}
use Rattle.units.specs.Units.{bytes_of_words}
use Rattle.units.specs.declared.Words.{Words}
use Rattle.units.specs.Answers.{answer}
use Rattle.words.specs.Words.{words_of, bytes_of, joined}
use Rattle.words.specs.Outcomes.{leaves}
use Rattle.words.proofs.Laws.{length_words_of, words-drop, zero_bytes}
use Rattle.words.specs.Scans.{passing, is_zero}
use Rattle.sheet.specs.Sheets.{Layout, version1, sheet_bytes, sheet_with, sheet_of, numbers_in, entries_of, all_zero, broken, started}
use Rattle.sheet.specs.Rules.{KeepsLayout, Holds}
use Rattle.sheet.proofs.Sheets.{unbroken, length_sheet}
use Rattle.sheet.proofs.Entries.{entry_words}

-- ---- what stands past the first `count` entries

-- a byte is not zero
abbrev pub stands : ℕ → Bool
stands x = not (eqb x 0)

-- bytes or-ed are not zero where one of them is not
stands_or : (a b : ℕ) → stands (bit_or a b) ≡ (stands a || stands b)
stands_or a b = let l = le_or_l a b in let r = le_or_r a b in let z : a ≡ 0 → b ≡ 0 → bit_or a b ≡ 0 = λ e f. rw (e, f, or_zero_l) in grind (arith, nat_tests)

or_stands : (a : ℕ) (l : List ℕ) → stands (fold bit_or a l) ≡ (stands a || list_any stands l)
or_stands a [] = grind (arith, nat_tests)
or_stands a (x ∷ l) = let s = stands_or a x in let ih = or_stands (bit_or a x) l in grind (arith, nat_tests)

-- some byte is not zero where some word is not
word_stands : (x y n m : ℕ) (t : Bool) → t ≡ not (eqb n m) → (stands x || (stands y || t)) ≡ not (eqb (if eqb (x * 256 + y) 0 then suc n else 0) (suc m))
word_stands x y n m t e = grind (arith, nat_tests)

some_stands : (b : List ℕ) → length b % 2 ≡ 0 → list_any stands b ≡ not (all_zero (words_of b))
unfolding all_zero passing words_of
some_stands [] e = refl
some_stands (x ∷ []) e = absurd (omega arith)
some_stands (x ∷ y ∷ b) e = word_stands x y (passing is_zero (words_of b)) (length (words_of b)) _ (some_stands b (omega arith))

-- and these words are the numbers of the entries past the count
pub past_stands : (s : List ℕ) (count before : ℕ) → length s ≡ 520 → before ≡ 8 + count * 8 → stands (fold bit_or 0 (take (length s - before) (drop before s))) ≡ not (all_zero (drop (count * 4) (numbers_in s)))
past_stands s count before size e =
    let at : before ≡ 8 + count * 4 * 2 = omega arith in
    let l = length-drop before s in
    ap (λ l. stands (fold bit_or 0 l)) (take_all (length s - before) (drop before s) (omega arith))
    ∙ or_stands 0 (drop before s)
    ∙ some_stands (drop before s) (omega arith)
    ∙ ap (λ l. not (all_zero l)) (ap (λ n. words_of (drop n s)) at ∙ ap words_of (sym (drop-drop (count * 4 * 2) 8 s)) ∙ words-drop (count * 4) (drop 8 s))

-- ---- the tests of a sheet

-- a sheet that is not broken has its size
pub unbroken_size : (y : Layout) (s : List ℕ) (t : Bool) → t ≡ broken y s → t ≡ false → length s ≡ sheet_bytes y
unbroken_size y s t e f = (unbroken y s (sym e ∙ f)).size

-- ---- a sheet that is started

module _ (s : List ℕ) where
  -- a sheet of another size
  pub start_refused : (length s ≡ 520 → ⊥) → leaves (answer 40 0 0 0) s ≡ started version1 s
  unfolding started
  start_refused n = simp (ne_eqb (length s) 520 n)

  -- 520 zeros, then mark and version
  pub start_put : (zeros mark version : List ℕ) → length s ≡ 520 → zeros ≡ replicate (length s) 0 → mark ≡ 65 ∷ 77 ∷ 68 ∷ [] → version ≡ 0 ∷ 1 ∷ []
      → leaves (answer 0 0 0 0) (put_mid 3 2 (mark ++ drop 3 zeros) version) ≡ started version1 s
  unfolding started sheet_of sheet_with bytes_of joined
  start_put zeros mark version h z m v =
      rw (z, m, v, eq-eqb (length s) 520 h, h) (ap (λ t. leaves (answer 0 0 0 0) (65 ∷ 77 ∷ 68 ∷ 0 ∷ 1 ∷ 0 ∷ 0 ∷ 0 ∷ t)) (sym (zero_bytes 256)))

-- ---- the numbers of an entry

-- the two bytes of a number, in place of two
pub count_stored : (s two : List ℕ) (w : ℕ) → 7 ≤ length s → w < 65536 → two ≡ w / 256 % 256 ∷ w % 256 ∷ [] → put_mid 5 2 s two ≡ sets s 5 (bytes_of (w ∷ []))
unfolding bytes_of
count_stored s two w room fits e =
    let high : w / 256 % 256 ≡ w / 256 = omega arith in
    rw (e, high, drop-drop 2 5 s) (sym (sets-eq (w / 256 ∷ w % 256 ∷ []) s 5 (omega arith) ∙ append_assoc (take 5 s) (w / 256 ∷ w % 256 ∷ []) (drop 7 s)))

-- one more of them is put
pub number_put : (t l l' ns : List ℕ) (at k : ℕ) → k < length ns → l' ≡ sets l (bytes_of_words (at + k)) (bytes_of (get_or ns k 0 ∷ [])) → sets l (bytes_of_words (at + k)) (bytes_of (drop k ns)) ≡ t
    → sets l' (bytes_of_words (at + (k + 1))) (bytes_of (drop (k + 1) ns)) ≡ t
unfolding bytes_of
number_put t l l' ns at k h e q =
    let p : (at + (k + 1)) * 2 ≡ suc (suc ((at + k) * 2)) = omega arith in
    rw (e, p, add-one) (rw (drop-cons ns k 0 h) at q)

-- and then all are
pub numbers_put : (s l ns : List ℕ) (size i k : ℕ) (at : Words) → length ns ≤ k → at.0 ≡ 4 + i * size → sets l (bytes_of_words (at.0 + k)) (bytes_of (drop k ns)) ≡ sets s (bytes_of_words at.0) (bytes_of ns)
    → l ≡ sets s (8 + bytes_of_words (i * size)) (bytes_of ns)
unfolding bytes_of
numbers_put s l ns size i k at h e q = let p : at.0 * 2 ≡ 8 + i * size * 2 = omega arith in rw (drop_of_length-le ns {i = k} h, p) at q

-- all four are there
pub entry_room : (s : List ℕ) (i : ℕ) (at : Words) → KeepsLayout version1 s → i < length (entries_of version1 s) → at.0 ≡ 4 + i * 4 → at.0 + 3 < length (words_of s)
entry_room s i at h there e = omega (arith, length_words_of s, length_sheet version1 s (entries_of version1 s) h, h.most)

-- and are read one by one
pub entry_read : (s : List ℕ) (i : ℕ) (at : Words) (a b c d : ℕ) → KeepsLayout version1 s → i < length (entries_of version1 s) → at.0 ≡ 4 + i * 4
    → a ≡ get_or (words_of s) at.0 0 → b ≡ get_or (words_of s) (at.0 + 1) 0 → c ≡ get_or (words_of s) (at.0 + 2) 0 → d ≡ get_or (words_of s) (at.0 + 3) 0 → a ∷ b ∷ c ∷ d ∷ [] ≡ get_or (entries_of version1 s) i []
entry_read s i at a b c d h there e ea eb ec ed =
    let ws = words_of s in
    let room = entry_room s i at h there e in
    let m : at.0 + 1 ≡ suc at.0 = omega arith in
    let n : at.0 + 2 ≡ suc (suc at.0) = omega arith in
    let o : at.0 + 3 ≡ suc (suc (suc at.0)) = omega arith in
    rw (ea, eb, ec, ed, entry_words version1 s i there, ← e, m, n, o, drop-cons ws at.0 0 (omega arith), drop-cons ws (suc at.0) 0 (omega arith), drop-cons ws (suc (suc at.0)) 0 (omega arith), drop-cons ws (suc (suc (suc at.0))) 0 (omega arith))

-- ---- a sheet of `count` entries

-- has its size, and keeps it
pub holds_size : {y : Layout} {s : List ℕ} {count : ℕ} → Holds y s count → length s ≡ sheet_bytes y
holds_size {y} {s} h = length_sheet y s (entries_of y s) h.layout

pub holds_kept : {y : Layout} {s : List ℕ} {count : ℕ} (s₁ : List ℕ) → Holds y s count → length s₁ ≡ length s → length s₁ ≡ sheet_bytes y
holds_kept s₁ h k = k ∙ holds_size h
