use mathlib.Core.Path.{◌≡◌, refl, sym, ap}
use mathlib.Core.List.{[], ◌∷◌, ◌++◌, append-nil}
use Prim.Native.Nat.{ℕ, ◌+◌, ◌%◌, ◌≤◌, ◌<◌}
use native.Mathlib.Omega.{arith}
use lib.ListN.{length}
use Rattle.words.proofs.Writing.{start, fits, on, done}
use Rattle.report.specs.Decimal.{decimal_of}
use Rattle.listed.specs.Listing.{signed_of}
use Rattle.listed.proofs.Rows.{signed_plain, signed_from, signed_below}
use Rattle.listed.proofs.write_signed.Goals as goal

pub write_number-requires : goal.write_number-requires
write_number-requires c = omega (arith, c.requires, ap length (signed_plain c.args.w _ c.from-value.ensures (omega (arith, c.from-value.ensures))))

pub returns-then-value-lt32768 : goal.returns-then-value-lt32768
returns-then-value-lt32768 c = rw (signed_plain c.args.w _ c.from-value.ensures (omega (arith, c.from-value.ensures))) c.write_number.ensures

-- the minus, and what the word stands for below 0
below : (w value negative size : ℕ) → w < 65536 → value ≡ w → 32768 ≤ value → negative < 65536 → (negative + w) % 65536 ≡ 0 → size ≡ negative
    → signed_of w ≡ (45 ∷ []) ++ decimal_of size
below w value negative size word same h small e is = rw is (signed_below w negative e small word (omega arith))

pub write_bytes-to-requires : goal.write_bytes-to-requires
write_bytes-to-requires c = fits {o = c.args.out.now} start (45 ∷ []) _ (signed_from c.args.w (omega (arith, c.from-value.ensures))) c.requires

-- the minus is in, and the digits are left
pub write_number-requires-2 : goal.write_number-requires-2
write_number-requires-2 c =
    let left = on start (45 ∷ []) _ (below c.args.w _ _ _ (omega arith) c.from-value.ensures (omega arith) (omega arith) c.wrapping_neg.ensures c.from-size.ensures) c.write_bytes-to.ensures in
    omega (arith, left.total, left.kept, c.requires)

pub returns : goal.returns
returns c =
    let left = on start (45 ∷ []) _ (below c.args.w _ _ _ (omega arith) c.from-value.ensures (omega arith) (omega arith) c.wrapping_neg.ensures c.from-size.ensures) c.write_bytes-to.ensures in
    done (on left _ [] (sym (append-nil _)) c.write_number-2.ensures) refl
