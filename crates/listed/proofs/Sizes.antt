-- How long a listing is at most.
use mathlib.Core.Path.{◌≡◌, refl, ap}
use mathlib.Core.Bool.{Bool, true, false}
use mathlib.Core.List.{List, [], ◌∷◌}
use Prim.Native.Nat.{ℕ, ◌+◌, ◌-◌, ◌*◌, ◌≤◌, ◌<◌}
use native.Mathlib.Omega.{arith}
use lib.Dec.{ltb}
use lib.ListN.{length, length-append}
use Rattle.std.specs.Prelude.{if◌then◌else◌}
use Rattle.units.specs.Answers.{passed}
use Rattle.words.specs.Words.{word, joined, All, Below, most_words}
use Rattle.record.specs.Lines.{line_count}
use Rattle.record.specs.Rules.{RecordOk}
use Rattle.block.specs.Judging.{judged}
use Rattle.block.specs.Records.{records_of}
use Rattle.block.proofs.Exact.{ok_long, only_good}
use Rattle.prefix.specs.Table.{prefix_of}
use Rattle.report.specs.Decimal.{decimal_of, spaced}
use Rattle.report.proofs.Digits.{most_digits, few_digits}
use Rattle.report.proofs.Lines.{spaced_most, printed_most}
use Rattle.listed.specs.Listing.{signed_of, front_of, row_of, rows_of, listing_of}
use Rattle.listed.proofs.Rows.{ending, closing, ending_pieces, row_pieces}

signed_most : (w : ℕ) → length (signed_of w) ≤ 11
unfolding signed_of
signed_most w = by (ltb w 32768)
  where
    by : (t : Bool) → length (if t then decimal_of w else 45 ∷ decimal_of (65536 - w)) ≤ 11
    by true = omega (arith, most_digits w)
    by false = omega (arith, most_digits (65536 - w))

row_most : (number before : ℕ) (r : List ℕ) → number < most_words → before < most_words → length (row_of number before r) ≤ 64
unfolding spaced
row_most number before r hn hb =
    let w = word r 3 in
    let three = word r 2 ∷ (length r ∷ (line_count r ∷ [])) in
    omega (
      arith,
      ap length (row_pieces number before w r refl),
      length-append (front_of number before r) (ending w),
      few_digits 3 number (omega arith),
      length-append (decimal_of number) (spaced ((before + 1) ∷ three)),
      length-append (decimal_of (before + 1)) (spaced three),
      few_digits 4 (before + 1) (omega arith),
      spaced_most three,
      ap length (ending_pieces w),
      length-append (signed_of w) (closing (prefix_of w)),
      signed_most w,
    )

-- a record has 16 words or more, so its line has at most four bytes for each
rows_most : (number before : ℕ) (rs : List (List ℕ)) → All RecordOk rs → number ≤ before → before + length (joined rs) < most_words
    → length (rows_of number before rs) ≤ 4 * length (joined rs)
unfolding rows_of joined
rows_most number before [] h n b = omega arith
rows_most number before (r ∷ rs) h n b =
    let l = length-append r (joined rs) in
    let long = ok_long r h.0 in
    omega (
      arith,
      length-append (row_of number before r) (rows_of (number + 1) (before + length r) rs),
      row_most number before r (omega arith) (omega arith),
      rows_most (number + 1) (before + length r) rs h.1 (omega arith) (omega arith),
    )

rows_bound : (b : List ℕ) (k : ℕ) → Below 256 b → judged b ≡ passed k → length (rows_of 1 1 (records_of b)) ≤ 32768
rows_bound b k h e =
    let g = (only_good b k h e).0 in
    omega (arith, rows_most 1 1 (records_of b) g.each (omega arith) (omega (arith, g.most)), g.most)

-- a listing is never longer than 32,768 bytes
pub listing_bound : (b : List ℕ) → Below 256 b → length (listing_of b) ≤ 32768
listing_bound b h = printed_most (λ _. rows_of 1 1 (records_of b)) 32768 (omega arith) (judged b) (λ k e. rows_bound b k h e)
