-- The current block, as it goes from record to record.
use Rattle.std.specs.Prelude.{ℕ, ◌+◌, List, [], ◌∷◌, leb, eqb, length}
use Rattle.std.specs.Prelude.{if◌then◌else◌}
use Rattle.units.specs.Units.{bytes_of_words}
use Rattle.words.specs.Words.{most_record_words}
use Rattle.packing.specs.declared.Current.{Current}

-- a bound on counts of bytes, so that no sum overflows; 64,000 bytes of blocks never come near it, however they are packed
abbrev pub count_limit : ℕ
count_limit = 1000000

-- the block that begins behind `start` bytes of the output and has `used` record words
abbrev pub current_at : ℕ → ℕ → Current
current_at start used = record { start = record { 0 = start }; used = record { 0 = used } }

-- the bytes up to its end, its length word and checksum among them
abbrev pub sealed_bytes : Current → ℕ
sealed_bytes p = p.start.0 + bytes_of_words (p.used.0 + 2)

-- "into the current block if it fits, else into a new one": the block that a record of k words goes into
unfoldable pub room_for : Current → ℕ → Current
room_for p k = if leb (p.used.0 + k) most_record_words then p else current_at (sealed_bytes p) 0

-- the current block with a record of k words more
abbrev pub with_record : Current → ℕ → Current
with_record p k = current_at p.start.0 (p.used.0 + k)

-- the current block once these records are packed
unfoldable pub current_after : Current → List (List ℕ) → Current
current_after p [] = p
current_after p (r ∷ rs) = current_after (with_record (room_for p (length r)) (length r)) rs

-- the bytes of all blocks so far; a current block without a record has none
unfoldable pub bytes_to : Current → ℕ
bytes_to p = if eqb p.used.0 0 then p.start.0 else sealed_bytes p
