-- An entry names a value of some records.
use mathlib.Core.Path.{◌≡◌}
use mathlib.Core.Bool.{false}
use mathlib.Core.List.{List, []}
use Prim.Native.Nat.{ℕ, ◌-◌, ◌≤◌, ◌<◌}
use native.Mathlib.Omega.{arith}
use borrow.Author.Tests.{ltb-false, eqb-false, le-ltb, ne_eqb}
use lib.Dec.{eqb, ltb}
use lib.ListN.{length}
use Rattle.units.proofs.Verdicts.{or_off}
use Rattle.words.specs.Words.{All}
use Rattle.words.proofs.Lists.{all-at}
use Rattle.record.specs.Rules.{RecordOk}
use Rattle.record.proofs.Values.{ValueAt, value_at}
use Rattle.sheet.specs.Sheets.{Entry}
use Rattle.block_value.specs.Places.{record_number, word_number, record_in, no_record, NamesValuePlace}

-- where row 41 is not given
pub is_record : (rs : List (List ℕ)) (n : ℕ) → no_record rs n ≡ false → (1 ≤ n) × (n ≤ length rs)
unfolding no_record
is_record rs n e = let o = or_off (eqb n 0) (ltb (length rs) n) e in let z = eqb-false n 0 o.0 in (omega (arith, z), ltb-false (length rs) n o.1)

module _ (rs : List (List ℕ)) (e : Entry) (p : NamesValuePlace rs e) where
  -- its record is there
  pub named_there : no_record rs (record_number e) ≡ false
  unfolding no_record
  named_there = simp (ne_eqb (record_number e) 0 (λ z. omega (arith, p.least)), le-ltb (length rs) (record_number e) p.most)

  pub named_inside : record_number e - 1 < length rs
  named_inside = omega (arith, p.least, p.most)

  -- and its word, behind the counts of a Data record
  pub named_value : All RecordOk rs → ValueAt (record_in rs (record_number e)) (word_number e)
  named_value good = value_at (record_in rs (record_number e)) (word_number e) (all-at RecordOk rs (record_number e - 1) [] named_inside good) p.value
