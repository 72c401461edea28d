-- The lines to come of a Data record, as they get fewer.
use mathlib.Core.Path.{◌≡◌, ap}
use mathlib.Core.List.{List, ◌∷◌, ◌++◌}
use Prim.Native.Nat.{ℕ, ◌-◌, ◌<◌, min}
use lib.ListN.{drop}
use Rattle.counts.specs.declared.Counts.{Counts}
use Rattle.line_plan.specs.Plan.{part, tables, plan}
use Rattle.line_plan.proofs.Plans.{part_turn}

-- a line of the present part
pub line_less : (left : ℕ) (ns : List ℕ) → 0 < left → part left ++ ns ≡ min left 20 ∷ (part (left - min left 20) ++ ns)
line_less left ns h = ap (λ l. l ++ ns) (part_turn left h)

-- the first line of a Data record, and those behind it
pub plan_less : (c : Counts) → 0 < c.lprol → drop 1 (plan c) ≡ part (c.lprol - min c.lprol 20) ++ tables c
unfolding plan
plan_less c h = ap (drop 1) (line_less c.lprol (tables c) h)
