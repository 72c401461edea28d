use borrow.Author.Rules.{rules}
use Rattle.sheet.proofs.Entries.{entry_cleared}
use Rattle.sheet.proofs.Stores.{holds_size, holds_kept}
use Rattle.sheet.proofs.clear_last.Goals as goal

pub put_numbers-requires : goal.put_numbers-requires
put_numbers-requires c = search (holds_size, rules)

pub put_count-requires : goal.put_count-requires
put_count-requires c = search holds_kept

pub returns : goal.returns
returns c =
    let z = c.default.ensures in
    entry_cleared c.args.left c.requires (rw (z.0, z.1.0, z.1.1.0, z.1.1.1) at c.put_numbers.ensures) c.put_count.ensures
