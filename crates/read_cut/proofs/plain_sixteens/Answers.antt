use Rattle.std.proofs.Common.{arith}
use Rattle.read_cut.proofs.PlainBytes.{ends_here, goes_on}
use Rattle.read_cut.proofs.plain_sixteens.Goals as goal

pub returns-then-plain-lt16 : goal.returns-then-plain-lt16
returns-then-plain-lt16 c = ends_here _ _ c.loop-i.i _ c.as_chunks.ensures.front (omega (arith, c.as_chunks.ensures.front_len)) c.loop-i.invariant c.plain_of-plain.ensures (omega arith)

pub loop-i-preserved : goal.loop-i-preserved
loop-i-preserved c = goes_on _ _ c.loop-i.i _ c.as_chunks.ensures.front (omega (arith, c.as_chunks.ensures.front_len)) c.loop-i.invariant c.plain_of-plain.ensures (omega arith)
