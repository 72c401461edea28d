use Rattle.std.proofs.Common.{sym, ◌∙◌, arith}
use Rattle.read_store.proofs.Storing.{sets_out, cut_in}
use Rattle.read_store.proofs.store_bytes.Goals as goal

pub returns-in_default : goal.returns-in_default
returns-in_default c = let a = c.args in sym (sets_out a.out.now a.at.0 a.bytes.now (omega (arith, c.in_default.ensures)))

pub returns-then-room-bytes : goal.returns-then-room-bytes
returns-then-room-bytes c = let a = c.args in
    c.write_bytes.ensures.bytes ∙ cut_in a.out.now a.at.0 c.in-Some.room a.bytes.now (omega (arith, c.in-Some.ensures)) (omega (arith, c.in-Some.ensures))
