use Rattle.read_first_line.proofs.Fronts.{data_lent}
use Rattle.read_first_line.proofs.first_line.Goals as goal

pub data_line-requires : goal.data_line-requires
data_line-requires c = data_lent _ c.args.line.text.now c.first_fields.new.row c.in_ok-kind.kind c.in_ok-kind.ensures c.in-Data.is c.first_fields.array_long c.requires c.words_said.ensures.0 c.on_line-used.ensures
