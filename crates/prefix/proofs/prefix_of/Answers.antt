use mathlib.Core.Path.{◌≡◌, refl, sym, ◌∙◌}
use mathlib.Core.List.{List}
use Prim.Native.Nat.{ℕ}
use lib.ListN.{get_or, get_or-eq_default}
use Rattle.std.proofs.lemmas.List.{get_or-map}
use Rattle.prefix.specs.declared.Letters.{Letters}
use Rattle.prefix.specs.declared.TheConstants.{TABLE}
use Rattle.prefix.specs.Rising.{rises}
use Rattle.prefix.specs.LookUp.{place_in}
use Rattle.prefix.specs.Table.{table, codes, prefixes, dashes, prefix_of}
use Rattle.prefix.proofs.Search.{beside_place, row_place, no_row}
use Rattle.prefix.proofs.prefix_of.Goals as goal

-- the three letters of a row
abbrev three : ℕ × List ℕ → Letters
three r = record { 0 = get_or r.1 0 0; 1 = get_or r.1 1 0; 2 = get_or r.1 2 0 }

-- what stands at the code's place is the code's
at_place : (code row : ℕ) (l : Letters) → row ≡ place_in codes code → l ≡ get_or prefixes row dashes → l ≡ prefix_of code
at_place code row l e f = f ∙ rw e (sym (beside_place table code dashes))

-- the rows are those of the paper's table
-- "codes rise strictly": computed over the whole table
pub row_of-requires : goal.row_of-requires
unfolding rises
row_of-requires c = refl

pub returns-in-Some : goal.returns-in-Some
unfolding table
returns-in-Some c =
    let p = row_place _ _ _ (sym c.row_of.ensures ∙ c.in-Some.is) in
    at_place _ _ _ p.0 (sym (get_or-map three TABLE c.in-Some.row _ dashes p.1))

pub returns-in-None : goal.returns-in-None
unfolding table
returns-in-None c = at_place _ _ _ refl (sym (get_or-eq_default prefixes dashes (no_row _ _ (sym c.row_of.ensures ∙ c.in-None.is))))
