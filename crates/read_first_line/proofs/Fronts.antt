-- What is known of a Data record's first fields once they are accepted.
use mathlib.Core.Path.{◌≡◌, refl, sym}
use mathlib.Core.Bool.{Bool, true, false}
use mathlib.Core.List.{List, ◌++◌}
use Prim.Native.Nat.{ℕ, ◌+◌, ◌-◌, ◌*◌, ◌≤◌, ◌<◌, min}
use native.Mathlib.Omega.{arith}
use borrow.Author.Tests.{ltb-true, ltb-false}
use lib.Dec.{ltb, eqb}
use lib.ListN.{length, get_or, take, length-take, get_or-append, get_or-eq_default}
use lib.Seq.{get_or-take, length-take-le}
use Rattle.units.specs.Answers.{answer, Verdict, passed, refused, onward}
use Rattle.units.proofs.Verdicts.{never_passed, else_passed}
use Rattle.units.proofs.Choosing.{both_ways}
use Rattle.words.specs.Words.{word}
use Rattle.counts.specs.Counts.{counts_of, in_range}
use Rattle.counts.proofs.FourCounts.{range_ok}
use Rattle.read_columns.specs.Columns.{column_of, field_numbers, zero_fields, blank_after}
use Rattle.record.specs.declared.kind.Kind.{Kind}
use Rattle.record.specs.declared.kind.Kind.TheVariants.{Data}
use Rattle.read_first_line.specs.State.{head_in, Lent, LentData}
use Rattle.read_first_line.specs.FirstLine.{Head, cards, counts, counts_in, count_fields, catalogue_fields, header_fields, prologue_fields, data_fields, kind_fields, first_fields}

-- LPROL, word 13, is at least 16: so it is there
abbrev LprolLeast : List ℕ → Type 0
LprolLeast ws = 16 ≤ get_or ws 12 0

long_enough : (ws : List ℕ) → LprolLeast ws → 12 < length ws
long_enough ws h = by (ltb 12 (length ws)) refl
  where
    by : (t : Bool) → ltb 12 (length ws) ≡ t → 12 < length ws
    by true e = ltb-true 12 (length ws) e
    by false e = absurd (omega (arith, get_or-eq_default ws 0 {n = 12} (ltb-false 12 (length ws) e)))

-- it stands in front of what is taken away, and of what follows
pub least_take : (m : ℕ) (row : List ℕ) → LprolLeast (take m row) → LprolLeast row
least_take m row h = let l = long_enough (take m row) h in omega (arith, get_or-take m row 12 0 (omega (arith, length-take m row)))

-- ---- by the fields

in_range_lem : (num : ℕ) (r x : List ℕ) → counts_in num r ≡ passed x → (r ≡ x) × LprolLeast r
unfolding counts_in
in_range_lem num r x e =
    let a = else_passed (ltb (in_range (counts_of r)) 4) (answer 27 num (column_of (12 + in_range (counts_of r))) 0) (passed r) x e in
    (cc, (range_ok (counts_of r) (ltb-false _ _ a.0)).lprol.least_is)

module _ (num : ℕ) (l first x : List ℕ) (e : passed x ≡ count_fields num l first) where
  -- the counts stand behind the first fields
  counted_by : (P : List ℕ → Type 0) → ((more : List ℕ) → LprolLeast (first ++ more) → P (first ++ more)) → P x
  unfolding count_fields
  counted_by P h = by (field_numbers num l 12 4) e
    where
      by : (v : Verdict (List ℕ)) → passed x ≡ onward v (λ more. counts_in num (first ++ more)) → P x
      by (passed more) g = let a = in_range_lem num (first ++ more) x (sym g) in rw (sym a.0) (h more a.1)
      by (refused r) g = absurd (never_passed (sym g))

  pub lprol_counted : LprolLeast x
  lprol_counted = counted_by LprolLeast (λ more h. h)

-- a verdict that gives a Data record gives LPROL in range
abbrev GivesLprol : Verdict Head → Type 0
GivesLprol v = (ws : List ℕ) → passed (counts ws) ≡ v → LprolLeast ws

module _ (num : ℕ) (l : List ℕ) where
  -- more fields stand behind the counts
  prologue_by : (P : List ℕ → Type 0) (r ws : List ℕ) → ((more : List ℕ) → P (r ++ more)) → passed (counts ws) ≡ prologue_fields num l r → P ws
  unfolding prologue_fields
  prologue_by P r ws h e = by (field_numbers num l 16 (min (word r 13) 20 - 16)) (blank_after num l (6 * min (word r 13) 20)) e
    where
      by : (v : Verdict (List ℕ)) (u : Verdict (Unit {0})) → passed (counts ws) ≡ onward v (λ more. onward u (λ _. passed (counts (r ++ more)))) → P ws
      by (passed more) (passed y) g = let same : ws ≡ r ++ more = cc in rw same (h more)
      by (passed more) (refused a) g = absurd (never_passed (sym g))
      by (refused a) u g = absurd (never_passed (sym g))

  -- what holds of the counts and of all that begins with them holds of what a Data record's fields give
  data_by : (P : List ℕ → Type 0) (first ws : List ℕ) → ((r more : List ℕ) → passed r ≡ count_fields num l first → P (r ++ more)) → passed (counts ws) ≡ data_fields num l first → P ws
  unfolding data_fields
  data_by P first ws h e = by (count_fields num l first) refl e
    where
      by : (v : Verdict (List ℕ)) → v ≡ count_fields num l first → passed (counts ws) ≡ onward v (λ r. prologue_fields num l r) → P ws
      by (passed r) f g = prologue_by P r ws (λ more. h r more f) g
      by (refused a) f g = absurd (never_passed (sym g))

  data_least : (first : List ℕ) → GivesLprol (data_fields num l first)
  data_least first ws =
      data_by LprolLeast first ws (λ r more f. let h = lprol_counted num l first r f in rw (get_or-append r more 0 12 (long_enough r h)) h)

  -- the others give none
  no_counts : {A : Type 0} (kind : ℕ) (x : A → List ℕ) (v : Verdict A) → GivesLprol (onward v (λ y. passed (cards kind (x y))))
  no_counts kind x (passed y) ws e = let z : ◌≡◌ {A = ℕ} 0 1 = cc in absurd (omega arith)
  no_counts kind x (refused a) ws e = absurd (never_passed (sym e))

  catalogue_least : (first : List ℕ) → GivesLprol (catalogue_fields num l first)
  unfolding catalogue_fields
  catalogue_least first = no_counts 2001 (λ _. first) (zero_fields num l 12 8)

  header_least : (first : List ℕ) → GivesLprol (header_fields num l first)
  unfolding header_fields
  header_least first = by (field_numbers num l 12 3)
    where
      by : (v : Verdict (List ℕ)) → GivesLprol (onward v (λ more. onward (zero_fields num l 15 5) (λ _. passed (cards 3002 (first ++ more)))))
      by (passed more) = no_counts 3002 (λ _. first ++ more) (zero_fields num l 15 5)
      by (refused a) = λ ws e. absurd (never_passed (sym e))

  kind_least : (first : List ℕ) → GivesLprol (kind_fields num l first)
  unfolding kind_fields
  kind_least first =
      both_ways GivesLprol (eqb (word first 2) 2101) (catalogue_fields num l first) _ (catalogue_least first)
      (both_ways GivesLprol (eqb (word first 2) 3101) (header_fields num l first) _ (header_least first)
      (both_ways GivesLprol (eqb (word first 2) 1101) (data_fields num l first) (refused (answer 23 num 7 0)) (data_least first) (λ ws e. absurd (never_passed (sym e)))))

  pub first_least : GivesLprol (first_fields num l)
  unfolding first_fields
  first_least = by (field_numbers num l 0 12)
    where
      by : (v : Verdict (List ℕ)) → GivesLprol (onward v (λ first. kind_fields num l first))
      by (passed first) = kind_least first
      by (refused a) = λ ws e. absurd (never_passed (sym e))

-- so a Data record's first line lends as many fields as LPROL, at most 20, says
pub data_lent : (num : ℕ) (l row : List ℕ) {held said used : ℕ} (kind : Kind) → passed (head_in kind row) ≡ first_fields num l → kind ≡ Data → length row ≡ 20 → Lent held → said ≡ get_or row 12 0 → used ≡ min said 20
    → LentData (take used row) held
data_lent num l row {used = used} kind e is long lent s u =
    let known : passed (counts (take (min (get_or row 12 0) 20) row)) ≡ first_fields num l = rw is at e in
    let low : 16 ≤ get_or row 12 0 = least_take _ row (first_least num l _ known) in
    let stays : get_or (take used row) 12 0 ≡ get_or row 12 0 = get_or-take used row 12 0 (omega arith) in
    record { lent = lent; lprol = omega arith; all = omega (arith, length-take-le used row (omega arith)) }
