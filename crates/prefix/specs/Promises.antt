-- What the search for a prefix promises.
use Rattle.std.specs.Prelude.{◌≡◌, ℕ}
use Rattle.prefix.specs.declared.Letters.{Letters}
use Rattle.prefix.specs.Table.{prefix_of}

-- `prefix_of`: "find an instrument's prefix"
abbrev pub FindsPrefix : ℕ → Letters → Type 0
FindsPrefix instrument r = r ≡ prefix_of instrument
