use native.Mathlib.Omega.{arith}
use Rattle.sheet.proofs.Stores.{entry_room, entry_read}
use Rattle.sheet.proofs.entry_at.Goals as goal

pub word_at-requires : goal.word_at-requires
word_at-requires c = omega (arith, entry_room _ _ _ c.requires.0 c.requires.1 c.before_entry-at.ensures)

pub word_at-requires-2 : goal.word_at-requires-2
word_at-requires-2 c = omega (arith, entry_room _ _ _ c.requires.0 c.requires.1 c.before_entry-at.ensures)

pub word_at-requires-3 : goal.word_at-requires-3
word_at-requires-3 c = omega (arith, entry_room _ _ _ c.requires.0 c.requires.1 c.before_entry-at.ensures)

pub word_at-requires-4 : goal.word_at-requires-4
word_at-requires-4 c = entry_room _ _ _ c.requires.0 c.requires.1 c.before_entry-at.ensures

pub returns : goal.returns
returns c = search entry_read
