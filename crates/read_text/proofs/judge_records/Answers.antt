use native.Mathlib.Omega.{arith}
use lib.ListN.{length, drop_of_length-le}
use mathlib.Core.List.{[]}
use mathlib.Core.Path.{◌≡◌}
use Prim.Native.Nat.{◌≤◌}
use Rattle.read_text.proofs.judge_records.Goals as goal

pub returns : goal.returns
returns c =
    let none : length c.read.new.block ≤ 0 = omega (arith, c.read.auto.block) in
    let empty : c.read.new.block ≡ [] = drop_of_length-le c.read.new.block {i = 0} none in
    rw empty at c.read.ensures
