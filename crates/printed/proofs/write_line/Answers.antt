use mathlib.Core.Path.{◌≡◌, refl}
use mathlib.Core.List.{[], ◌∷◌, ◌++◌}
use Rattle.std.proofs.Common.{ℕ}
use Rattle.words.proofs.Writing.{first_fits, second_fits, both-put}
use Rattle.report.specs.Text.{behind, line_of}
use Rattle.report.specs.Decimal.{decimal_of}
use Rattle.printed.proofs.write_line.Goals as goal

pieces : (n : ℕ) → line_of (decimal_of n ∷ []) ≡ decimal_of n ++ (10 ∷ [])
unfolding line_of behind
pieces n = refl

pub write_number-to-requires : goal.write_number-to-requires
write_number-to-requires c = first_fits c.args.out.now _ (decimal_of c.args.n) (10 ∷ []) (pieces c.args.n) c.requires

pub write_bytes-requires : goal.write_bytes-requires
write_bytes-requires c = second_fits _ _ (decimal_of c.args.n) (10 ∷ []) (pieces c.args.n) c.requires c.write_number-to.ensures

pub returns : goal.returns
returns c = both-put _ _ (decimal_of c.args.n) (10 ∷ []) (pieces c.args.n) c.requires c.write_number-to.ensures c.write_bytes.ensures
