use Rattle.read_first_line.proofs.Fronts.{least_take, lprol_counted}
use Rattle.read_first_line.proofs.data_fields.Goals as goal

pub prologue_fields-requires : goal.prologue_fields-requires
prologue_fields-requires c = least_take 16 c.count_fields.new.row (lprol_counted _ c.args.line.text.now _ _ c.in_ok-count_fields.ensures)
