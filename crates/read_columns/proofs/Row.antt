-- Reading number fields into a row, field by field: what is still to be read, from here, gives the whole.
use mathlib.Core.Path.{◌≡◌, refl, sym, ap, ◌∙◌}
use mathlib.Core.List.{List, [], ◌∷◌, ◌++◌, append_assoc, append-nil}
use Prim.Native.Nat.{ℕ, suc, ◌+◌, ◌-◌, ◌≤◌, ◌<◌}
use native.Mathlib.Nat.{add-sub_cancel_left}
use native.Mathlib.Numerals.{add-one}
use native.Mathlib.Omega.{arith}
use lib.ListN.{length, take, set, length-set}
use lib.Seq.{take-suc-set}
use Rattle.std.specs.Prelude.{Result, Ok, Err}
use Rattle.units.specs.Answers.{Verdict, passed, refused, onward}
use Rattle.read_columns.specs.declared.Flaw.{Flaw}
use Rattle.read_columns.specs.Cases.{flaw_of, read_of}
use Rattle.read_columns.specs.Columns.{number, field_numbers}

-- the fields from field k on, put behind the k first words of a row
unfoldable pub filled : ℕ → List ℕ → ℕ → ℕ → List ℕ → Verdict (List ℕ)
filled num l k m row = onward (field_numbers num l k m) (λ ws. passed (take k row ++ ws))

-- where the loop stands: the fields from field k on give what those from `from` on do
pub record Filling (num : ℕ) (l row₀ : List ℕ) (from end k : ℕ) (row : List ℕ) : Type 0 where
  pub most : k ≤ end
  pub long : end ≤ length row
  pub same : filled num l k (end - k) row ≡ filled num l from (end - from) row₀

module _ {num : ℕ} {l row₀ : List ℕ} {from k : ℕ} {row : List ℕ} (count : ℕ) (g : Filling num l row₀ from (from + count) k row) where
  whole : filled num l k (from + count - k) row ≡ filled num l from count row₀
  whole = g.same ∙ ap (λ m. filled num l from m row₀) (add-sub_cancel_left from count)

  -- all of them are read
  pub fill_done : from + count ≤ k → passed (take (from + count) row) ≡ filled num l from count row₀
  unfolding filled field_numbers
  fill_done h =
      let e : from + count ≡ k = omega (arith, g.most) in
      let none : from + count - k ≡ 0 = omega arith in
      ap (λ n. passed (take n row)) e ∙ rw (none, append-nil) at whole

  -- by what is read of the next field
  module _ (r : Result ℕ Flaw) (found : read_of r ≡ number num l k) (h : k < from + count) where
    left : from + count - k ≡ suc (from + count - (k + 1))
    left = omega arith

    pub fill-bad : {f : Flaw} → r ≡ Err f → refused (flaw_of f) ≡ filled num l from count row₀
    unfolding filled field_numbers
    fill-bad e = rw (left, sym found, e) at whole

    pub fill-word : {w : ℕ} → r ≡ Ok w → Filling num l row₀ from (from + count) (k + 1) (set row k w)
    unfolding filled field_numbers
    fill-word {w} e =
        record {
          most = omega arith;
          long = omega (arith, g.long, length-set row k w);
          same = sym (rw (left, sym found, e, add-one, take-suc-set row k w room) (behind (field_numbers num l (suc k) (from + count - suc k)))) ∙ g.same;
        }
      where
        room : k < length row
        room = omega (arith, g.long)

        behind : (v : Verdict (List ℕ)) → onward (onward v (λ ws. passed (w ∷ ws))) (λ ws. passed (take k row ++ ws)) ≡ onward v (λ ws. passed (take k row ++ (w ∷ []) ++ ws))
        behind (passed ws) = ap (λ x. passed x) (sym (append_assoc (take k row) (w ∷ []) ws))
        behind (refused a) = refl
