use native.Mathlib.Omega.{arith}
use Rattle.report.proofs.Lines.{refusal_most}
use Rattle.printed.proofs.end_or_refusal.Goals as goal

pub write_refusal-requires : goal.write_refusal-requires
write_refusal-requires g c = omega (arith, refusal_most c.written.result, c.requires)
