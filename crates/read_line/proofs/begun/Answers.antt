use Rattle.read_line.proofs.ToCome.{no_lines}
use Rattle.read_line.proofs.begun.Goals as goal

pub returns : goal.returns
returns c = no_lines c.args.parts.count c.args.parts.width.0 c.else-parts-gt0.either
