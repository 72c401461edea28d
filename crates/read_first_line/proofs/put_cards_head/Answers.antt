use Rattle.read_first_line.proofs.Heads.{head-filled}
use Rattle.read_first_line.proofs.put_cards_head.Goals as goal

pub returns : goal.returns
returns c = search head-filled
