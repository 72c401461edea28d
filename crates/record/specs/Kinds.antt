-- Document 01: the kinds of records, in the block and in the lines.
use Rattle.std.specs.Prelude.{ℕ, ◌≡◌, ◌≢◌, Option, Some, None}
use Rattle.record.specs.declared.kind.Kind.{Kind}
use Rattle.record.specs.declared.kind.Kind.TheVariants.{Catalogue, Header, Data}

-- "Catalogue, kind 2001", "Header, kind 3002", "Data, kind 1002"
abbrev pub kind_word : Kind → ℕ
kind_word Catalogue = 2001
kind_word Header = 3002
kind_word Data = 1002

-- "Kinds become 2101, 3101, 1101"
abbrev pub kind_number : Kind → ℕ
kind_number Catalogue = 2101
kind_number Header = 3101
kind_number Data = 1101

-- which kind a number says, or that it says none
abbrev pub SaysKind : (Kind → ℕ) → ℕ → Option Kind → Type 0
SaysKind number n (Some kind) = n ≡ number kind
SaysKind number n None = (n ≢ number Catalogue) × (n ≢ number Header) × (n ≢ number Data)
