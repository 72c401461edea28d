-- Steps and searches find the records, and a walk lends them.
use Rattle.block_steps.proofs.Placed.{step_record, step_no_more, find_record}
use Rattle.block_steps.proofs.Walking.{stand_in_block}
use Rattle.demands.specs.Records.{StepFinds, StepEnds, FindFinds, WalkLends}

pub step_finds : StepFinds
step_finds b h a before after r e = step_record b a.count h a.is before after r e

pub step_ends : StepEnds
step_ends b h a = step_no_more b a.count h a.is

pub find_finds : FindFinds
find_finds b h a n = find_record b a.count h a.is n

pub walk_lends : WalkLends
walk_lends = stand_in_block
