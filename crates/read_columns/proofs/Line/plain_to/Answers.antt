use native.Mathlib.Omega.{arith}
use Rattle.words.specs.Scans.{within}
use Rattle.words.proofs.Scans.{scan_take}
use Rattle.read_columns.proofs.Line.plain_to.Goals as goal

pub returns : goal.returns
returns c = omega (arith, scan_take (within 32 126) 120 c.args.self.text.now)
