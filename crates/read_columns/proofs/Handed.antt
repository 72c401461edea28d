-- What `?` hands on.
use mathlib.Core.Path.{◌≡◌, ap}
use Rattle.std.specs.Prelude.{Result, Ok, Err, IsErr, IsErrAnd}
use Rattle.units.specs.Answers.{refused, verdict_of}
use Rattle.read_columns.specs.declared.Flaw.{Flaw}
use Rattle.read_columns.specs.Cases.{flaw_of}

pub handed_on : {A B : Type 0} (value : A → B) (f : Flaw) (r : Result A Flaw) → IsErr r × IsErrAnd r (λ e. e ≡ f) → verdict_of value flaw_of r ≡ refused (flaw_of f)
handed_on value f (Ok x) h = elim h.1 [ ]
handed_on value f (Err e) h = ap (λ e. refused (flaw_of e)) h.1
