use Prim.Native.Nat.{◌/◌}
use lib.ListN.{length}
use Rattle.write_parts.proofs.write_tables.Given as goal

-- the rows that a table has by its length
abbrev pub ghost-write_rows : goal.ghost-write_rows
ghost-write_rows a = length a.table.now / a.width
