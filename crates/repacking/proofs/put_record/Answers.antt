use mathlib.Core.Path.{ap}
use Prim.Native.Nat.{◌+◌}
use native.Mathlib.Omega.{arith}
use Rattle.repacking.proofs.Writing.{can_seal, room-is, put-room, record-put}
use Rattle.repacking.proofs.put_record.Goals as goal

pub make_room-room-requires : goal.make_room-room-requires
make_room-room-requires c = can_seal c.requires.0 c.requires.2 c.count-k.ensures

pub overflow_add-before : goal.overflow_add-before
overflow_add-before c = omega (arith, (room-is c.requires.0 c.requires.2 c.count-k.ensures c.make_room-room.ensures).0)

pub bytes_of_words-requires : goal.bytes_of_words-requires
bytes_of_words-requires c = omega (arith, (room-is c.requires.0 c.requires.2 c.count-k.ensures c.make_room-room.ensures).0)

pub overflow_add-at : goal.overflow_add-at
overflow_add-at c = omega (arith, (room-is c.requires.0 c.requires.2 c.count-k.ensures c.make_room-room.ensures).2, c.bytes_of_words.ensures)

pub write_bytes-requires : goal.write_bytes-requires
write_bytes-requires c = let pre = c.requires in
    put-room pre.0 pre.2 c.count-k.ensures c.make_room-room.ensures pre.1 (ap (λ n. c.make_room-room.result.start.0 + n) c.bytes_of_words.ensures)

pub with_record-requires : goal.with_record-requires
with_record-requires c = let h = (room-is c.requires.0 c.requires.2 c.count-k.ensures c.make_room-room.ensures).0 in (omega (arith, h), omega (arith, h))

pub returns : goal.returns
returns c = let pre = c.requires in
    record-put pre.0 pre.2 c.count-k.ensures c.make_room-room.ensures pre.1 (ap (λ n. c.make_room-room.result.start.0 + n) c.bytes_of_words.ensures) c.write_bytes.ensures c.with_record.ensures
