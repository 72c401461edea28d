use Rattle.std.proofs.Common.{sym, ◌∙◌, eqb-true, ◌*◌, arith}
use lib.Seq.{slice}
use Rattle.words.specs.Words.{bytes_of}
use Rattle.read_store.proofs.Storing.{sets_out, stored-on, stored-all}
use Rattle.read_store.proofs.store_words.Goals as goal

pub returns-then-is_empty : goal.returns-then-is_empty
returns-then-is_empty c = let a = c.args in
    sym (sets_out a.out.now (a.at.0 * 2) (bytes_of (slice a.from.0 a.upto.0 a.row.now)) (omega (arith, eqb-true _ 0 (sym c.is_empty.ensures ∙ c.if-is_empty.true))))

pub loop-k-preserved : goal.loop-k-preserved
loop-k-preserved c = let a = c.args in let l = c.loop-k in
    stored-on a.out.now a.row.now a.at.0 a.from.0 a.upto.0 l.out l.k l.invariant _ (omega arith) (omega arith) c.requires.0 c.store_word.ensures

pub returns : goal.returns
returns c = let a = c.args in let l = c.loop-k in stored-all a.out.now a.row.now a.at.0 a.from.0 a.upto.0 l.out l.k l.invariant c.loop-k-test.false
