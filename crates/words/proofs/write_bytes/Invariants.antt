use lib.ListN.{take}
use lib.Seq.{sets}
use mathlib.Core.Path.{◌≡◌}
use Rattle.words.proofs.write_bytes.Given as goal

abbrev pub invariant-loop-i : goal.invariant-loop-i
invariant-loop-i l = l.out ≡ sets l.initial.out l.at.0 (take l.i l.text)
