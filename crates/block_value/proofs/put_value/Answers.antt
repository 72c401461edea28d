use Rattle.block_value.proofs.Patched.{last_kept}
use Rattle.block_value.proofs.put_value.Goals as goal

pub put_word-requires-2 : goal.put_word-requires-2
put_word-requires-2 c = search last_kept

pub returns : goal.returns
returns c = cc
