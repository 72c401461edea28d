use Rattle.std.proofs.Common.{◌∙◌, arith}
use Rattle.sheet.proofs.Stores.{count_stored}
use Rattle.sheet.proofs.put_count.Goals as goal

pub returns : goal.returns
returns c = count_stored _ _ _ (omega arith) (omega arith) (c.copy_from_slice.ensures.after ∙ c.to_be_bytes.ensures)
