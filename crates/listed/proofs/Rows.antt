-- A listing, a record at a time, and a record's line, a piece at a time.
use mathlib.Core.Path.{◌≡◌, refl, sym, ap, ◌∙◌}
use mathlib.Core.List.{List, [], ◌∷◌, ◌++◌, append_assoc}
use Prim.Native.Nat.{ℕ, ◌+◌, ◌-◌, ◌%◌, ◌≤◌, ◌<◌}
use native.Mathlib.Omega.{arith}
use borrow.Author.Tests.{lt-ltb, le-ltb}
use lib.ListN.{length}
use Rattle.words.specs.Words.{word}
use Rattle.record.specs.Lines.{line_count}
use Rattle.prefix.specs.declared.Letters.{Letters}
use Rattle.prefix.specs.Table.{prefix_of}
use Rattle.report.specs.Text.{behind, line_of}
use Rattle.report.specs.Decimal.{decimal_of, spaced}
use Rattle.report.proofs.Lines.{behind_numbers}
use Rattle.listed.specs.Listing.{signed_of, letters_of, front_of, row_of, rows_of}

pub signed_plain : (w value : ℕ) → value ≡ w → w < 32768 → signed_of w ≡ decimal_of value
unfolding signed_of
signed_plain w value e h = rw e (simp (lt-ltb w 32768 h))

pub signed_from : (w : ℕ) → 32768 ≤ w → signed_of w ≡ (45 ∷ []) ++ decimal_of (65536 - w)
unfolding signed_of
signed_from w h = simp (le-ltb w 32768 h)

-- the word and its negative come to 65,536
pub signed_below : (w size : ℕ) → (size + w) % 65536 ≡ 0 → size < 65536 → w < 65536 → 32768 ≤ w → signed_of w ≡ (45 ∷ []) ++ decimal_of size
signed_below w size e small word h = let is : size ≡ 65536 - w = omega arith in rw is (signed_from w h)

-- the end of the line: the instrument and its prefix
abbrev pub ending : ℕ → List ℕ
ending w = behind (signed_of w ∷ (letters_of (prefix_of w) ∷ []))

abbrev pub closing : Letters → List ℕ
closing l = 32 ∷ (letters_of l ++ (10 ∷ []))

pub ending_pieces : (w : ℕ) → ending w ≡ (32 ∷ []) ++ (signed_of w ++ closing (prefix_of w))
unfolding behind
ending_pieces w = refl

-- the front of a line, with the numbers as they are read
pub front_pieces : (number before kind count lines : ℕ) (r : List ℕ) → kind ≡ word r 2 → count ≡ length r → lines ≡ line_count r
    → front_of number before r ≡ decimal_of number ++ spaced ((before + 1) ∷ (kind ∷ (count ∷ (lines ∷ []))))
front_pieces number before kind count lines r k c l = rw (k, c, l)

pub row_pieces : (number before w : ℕ) (r : List ℕ) → w ≡ word r 3 → row_of number before r ≡ front_of number before r ++ ending w
unfolding row_of line_of
row_pieces number before w r e = rw e
    (ap (λ l. decimal_of number ++ l) (behind_numbers ((before + 1) ∷ (word r 2 ∷ (length r ∷ (line_count r ∷ [])))) (signed_of (word r 3) ∷ (letters_of (prefix_of (word r 3)) ∷ [])))
    ∙ sym (append_assoc (decimal_of number) (spaced ((before + 1) ∷ (word r 2 ∷ (length r ∷ (line_count r ∷ []))))) (ending (word r 3))))

-- the line of a record of n words, and those of the records behind it
pub rows_on : (number before n : ℕ) (r : List ℕ) (rs : List (List ℕ)) → n ≡ length r → {shown next : ℕ} → shown ≡ number → next ≡ shown + 1
    → rows_of number before (r ∷ rs) ≡ row_of shown before r ++ rows_of next (before + n) rs
unfolding rows_of
rows_on number before n r rs e s t = rw (e, t, s)
