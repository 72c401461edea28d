use Rattle.packing.specs.Current.{current_after}
use Rattle.repacking.proofs.Writing.{room_here, room_behind}
use Rattle.repacking.proofs.make_room.Goals as goal

pub returns-then-next-current : goal.returns-then-next-current
returns-then-next-current c = room_here _ _ _ c.room_for-next.ensures c.if-next-current.true

pub returns : goal.returns
unfolding current_after
returns c = room_behind _ _ _ c.room_for-next.ensures c.if-next-current.false c.requires.1 c.requires.0.room c.seal_current.ensures
