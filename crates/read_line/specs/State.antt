-- Where the reading of a record stands between two lines.
use Rattle.std.specs.Prelude.{◌≡◌, [], ◌<◌}
use Rattle.read_first_line.specs.declared.Rest.{Rest}
use Rattle.read_first_line.specs.State.{lines_left}

-- the present part is used up only where no other has fields
abbrev pub Settled : Rest → Type 0
Settled p = p.left.0 ≡ 0 → lines_left p ≡ []

-- a line of the present part comes next
pub record FieldsNext (p : Rest) : Type 0 where
  pub no_cards : p.cards.0 ≡ 0
  pub some_left : 0 < p.left.0
