use Rattle.write_parts.proofs.Turns.{plan-text}
use Rattle.words.proofs.Writing.{first_fits, second_fits, both-put}
use Rattle.words.specs.Words.{words_of}
use Rattle.counts.specs.declared.Counts.{Counts}
use Rattle.line_plan.specs.Plan.{part, tables, plan}
use Rattle.write_parts.specs.Laid.{laid, ended}
use lib.ListN.{drop}
use mathlib.Core.List.{List, ◌∷◌, ◌++◌}
use mathlib.Core.Path.{◌≡◌}
use Prim.Native.Nat.{ℕ, ◌≤◌}
use native.Mathlib.Omega.{arith}
use Rattle.write_parts.proofs.write_plan.Goals as goal

-- the prologue, and the tables
pieces : (ws : List ℕ) (c : Counts) (lines : ℕ) {lprol : ℕ} → lprol ≡ c.lprol → 16 ≤ c.lprol → let shown = lines ∷ (1101 ∷ drop 2 ws) in
    ended (laid (plan c) shown) ≡ ended (laid (part lprol) shown) ++ ended (laid (tables c) (drop c.lprol ws))
pieces ws c lines e least = rw e (plan-text ws c lines least)

pub write_prologue-to-requires : goal.write_prologue-to-requires
write_prologue-to-requires c = let a = c.args in (
  omega arith,
  omega (arith, c.requires.1),
  first_fits a.out.now _ _ _ (pieces (words_of a.whole.now) a.c a.lines c.words_said-lprol.ensures.0 c.requires.0) c.requires.2,
)

pub write_tables-requires : goal.write_tables-requires
write_tables-requires c = let a = c.args in
    (c.requires.1, second_fits _ _ _ _ (pieces (words_of a.whole.now) a.c a.lines c.words_said-lprol.ensures.0 c.requires.0) c.requires.2 c.write_prologue-to.ensures)

pub returns : goal.returns
returns c = let a = c.args in
    both-put _ _ _ _ (pieces (words_of a.whole.now) a.c a.lines c.words_said-lprol.ensures.0 c.requires.0) c.requires.2 c.write_prologue-to.ensures c.write_tables.ensures
