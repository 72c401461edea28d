use Rattle.record.specs.Kinds.{kind_word}
use Rattle.read_first_line.proofs.Heads.{head-put}
use Rattle.read_first_line.proofs.put_head.Goals as goal

pub returns : goal.returns
returns c = let a = c.args in
    head-put a.held.0 a.total.0 (kind_word a.kind) a.row.now _ _ _ _ c.saying_words.ensures c.word.ensures c.store_word.ensures c.store_word-2.ensures c.store_words.ensures
