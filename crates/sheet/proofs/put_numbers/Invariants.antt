use mathlib.Core.Path.{◌≡◌}
use Prim.Native.Nat.{◌+◌}
use lib.ListN.{length, drop}
use lib.Seq.{sets}
use Rattle.units.specs.Units.{bytes_of_words}
use Rattle.words.specs.Words.{bytes_of}
use Rattle.sheet.proofs.put_numbers.Given as goal

abbrev pub invariant-loop-k : goal.invariant-loop-k
invariant-loop-k l = (length l.sheet ≡ length l.initial.sheet) × (sets l.sheet (bytes_of_words (l.at + l.k)) (bytes_of (drop l.k l.number-items)) ≡ sets l.initial.sheet (bytes_of_words l.at) (bytes_of l.number-items))
