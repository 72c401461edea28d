-- Where a word stands that may be amended.
use mathlib.Core.Path.{◌≡◌}
use mathlib.Core.Bool.{true, ◌||◌}
use mathlib.Core.List.{List}
use Prim.Native.Nat.{ℕ, ◌+◌, ◌≤◌, ◌<◌}
use native.Mathlib.Omega.{arith}
use borrow.Author.Tests.{leb-true, eqb-true}
use lib.Dec.{leb, eqb}
use lib.ListN.{length}
use Rattle.units.proofs.Verdicts.{and_on, either_on}
use Rattle.words.specs.Words.{word}
use Rattle.counts.specs.Counts.{counts_of, words_needed}
use Rattle.words.specs.Scans.{within}
use Rattle.record.specs.Rules.{DataOk, KindOk, catalogue, header, data_record, RecordOk}
use Rattle.record.specs.Values.{is_value}

-- a good record of kind 1002 keeps the rules of Data
pub is_data : (r : List ℕ) → RecordOk r → word r 2 ≡ 1002 → DataOk r
is_data r h e = by h.kind
  where
    by : KindOk r → DataOk r
    by (catalogue f c) = absurd (omega arith)
    by (header f c) = absurd (omega arith)
    by (data_record f d) = d

within_on : (least most x : ℕ) → within least most x ≡ true → (least ≤ x) × (x ≤ most)
within_on least most x e = let a = and_on (leb least x) _ e in (leb-true least x a.0, leb-true x most a.1)

-- in the range of the 1-D values, or of the 2-D values
in_ranges : (codes values second all w : ℕ) → 16 ≤ codes → codes ≤ values → values ≤ second → values ≤ all
    → (within (codes + 1) values w || within (second + 1) all w) ≡ true → (16 < w) × (w ≤ all)
in_ranges codes values second all w long more past whole =
    either_on (within (codes + 1) values w) (within (second + 1) all w)
    (λ t. let m = within_on (codes + 1) values w t in (omega arith, omega arith))
    (λ t. let m = within_on (second + 1) all w t in (omega arith, omega arith))

-- it is a word of a Data record, behind the counts
pub record ValueAt (r : List ℕ) (w : ℕ) : Type 0 where
  pub kind : word r 2 ≡ 1002
  pub low : 16 < w
  pub high : w ≤ length r

pub value_at : (r : List ℕ) (w : ℕ) → RecordOk r → is_value r w ≡ true → ValueAt r w
unfolding is_value
value_at r w h e =
    let c = counts_of r in
    let codes = c.lprol + c.jpar in
    let values = codes + c.jpar in
    let a = and_on (eqb (word r 2) 1002) (within (codes + 1) values w || within (values + c.mpar + 1) (words_needed c) w) e in
    let kind = eqb-true (word r 2) 1002 a.0 in
    let d = is_data r h kind in
    let m = in_ranges codes values (values + c.mpar) (words_needed c) w (omega (arith, d.counts.lprol.least_is)) (omega arith) (omega arith) (omega arith) a.1 in
    record { kind = kind; low = m.0; high = omega (arith, m.1, d.sum) }
