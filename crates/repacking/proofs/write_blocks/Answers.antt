use Rattle.std.proofs.Common.{rules}
use native.Mathlib.Omega.{arith}
use Rattle.words.proofs.Laws.{all_below}
use Rattle.repacking.proofs.Writing.{sealed_finished}
use Rattle.repacking.proofs.Rewriting.{rewriting_start, next_block, room_left, last_fits, rewritten}
use Rattle.repacking.proofs.write_blocks.Goals as goal

pub loop-rest-init : goal.loop-rest-init
loop-rest-init c = let b = c.args.slice.now in
    rewriting_start b c.args.out.now (all_below 256 b (λ i. omega (arith, c.type_inv.slice i))) c.requires

pub stated_words-requires : goal.stated_words-requires
stated_words-requires c = omega (arith, room_left c.loop-rest.invariant (search rules))

pub split_at-requires : goal.split_at-requires
split_at-requires c = (next_block c.loop-rest.invariant (search rules) c.stated_words.ensures.0 c.bytes_of_words-size.ensures).room

pub put_records-current-requires : goal.put_records-current-requires
put_records-current-requires c =
    let n = next_block c.loop-rest.invariant (search rules) c.stated_words.ensures.0 c.bytes_of_words-size.ensures in
    rw c.split_at.ensures.front (n.good, n.fits)

pub loop-rest-smaller : goal.loop-rest-smaller
loop-rest-smaller c =
    omega (arith, (next_block c.loop-rest.invariant (search rules) c.stated_words.ensures.0 c.bytes_of_words-size.ensures).least, c.split_at.ensures.back_len)

pub loop-rest-preserved : goal.loop-rest-preserved
loop-rest-preserved c =
    let n = next_block c.loop-rest.invariant (search rules) c.stated_words.ensures.0 c.bytes_of_words-size.ensures in
    rw c.split_at.ensures.back (n.on (rw c.split_at.ensures.front at c.put_records-current.ensures))

pub seal_current-requires : goal.seal_current-requires
seal_current-requires c = last_fits c.loop-rest.invariant (search rules)

pub returns : goal.returns
returns c = let l = c.loop-rest in
    rewritten l.invariant (search rules) (sealed_finished l.out l.current c.seal_current.ensures)
