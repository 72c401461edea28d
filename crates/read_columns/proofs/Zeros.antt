-- Fields that must be blank or 0, one after the other.
use mathlib.Core.Path.{◌≡◌, sym, ap, ◌∙◌}
use mathlib.Core.List.{List}
use Prim.Native.Nat.{ℕ, suc, ◌+◌, ◌-◌, ◌≤◌, ◌<◌}
use native.Mathlib.Nat.{add-sub_cancel_left}
use native.Mathlib.Numerals.{add-one}
use native.Mathlib.Omega.{arith}
use Rattle.std.specs.Prelude.{Result, Ok, Err}
use Rattle.units.specs.Answers.{passed, refused}
use Rattle.read_columns.specs.declared.Flaw.{Flaw}
use Rattle.read_columns.specs.Cases.{flaw_of, tested_of}
use Rattle.read_columns.specs.Columns.{zero_field, zero_fields}

-- where the loop stands: the fields from field k on are to be judged as those from `from` on were
pub record Zeroing (num : ℕ) (l : List ℕ) (from end k : ℕ) : Type 0 where
  pub most : k ≤ end
  pub same : zero_fields num l k (end - k) ≡ zero_fields num l from (end - from)

module _ {num : ℕ} {l : List ℕ} {from k : ℕ} (count : ℕ) (g : Zeroing num l from (from + count) k) where
  whole : zero_fields num l k (from + count - k) ≡ zero_fields num l from count
  whole = g.same ∙ ap (zero_fields num l from) (add-sub_cancel_left from count)

  pub zeros-done : from + count ≤ k → passed tt ≡ zero_fields num l from count
  unfolding zero_fields
  zeros-done h = let none : from + count - k ≡ 0 = omega arith in rw none at whole

  -- by what is found of the next field
  module _ (h : k < from + count) (r : Result (Unit {0}) Flaw) (found : tested_of tt r ≡ zero_field num l k) where
    left : from + count - k ≡ suc (from + count - (k + 1))
    left = omega arith

    pub zeros-on : {u : Unit {0}} → r ≡ Ok u → Zeroing num l from (from + count) (k + 1)
    unfolding zero_fields
    zeros-on e = record { most = omega arith; same = sym (rw (left, sym found, e, add-one)) ∙ g.same }

    pub zeros-bad : {f : Flaw} → r ≡ Err f → refused (flaw_of f) ≡ zero_fields num l from count
    unfolding zero_fields
    zeros-bad e = rw (left, sym found, e) at whole
