-- What the functions of this crate say to each other: what stands in the output once it has all records.
use Rattle.std.specs.Prelude.{ℕ, ◌+◌, ◌*◌, ◌≤◌, ◌<◌, ◌≡◌, List, ◌∷◌, ◌++◌, length, drop}
use Rattle.std.proofs.lemmas.List.Edits.{sets}
use Rattle.units.specs.Units.{bytes_of_words}
use Rattle.units.specs.Answers.{Verdict, passed, onward}
use Rattle.words.specs.Words.{words_of, words, joined, most_record_words}
use Rattle.block_slice.specs.Blocks.{most_bytes, walk_blocks, records_in}
use Rattle.packing.specs.declared.Current.{Current}
use Rattle.packing.specs.Current.{count_limit, sealed_bytes, room_for, current_after}
use Rattle.packing.specs.Packing.{onto, packed, blocks_of, repacked}

-- the record words that stand in the current block
abbrev pub standing : List ℕ → Current → List ℕ
standing out p = words (words_of (drop p.start.0 out)) 2 (p.used.0 + 1)

-- the output with these records packed behind those that stand in it, every block sealed
unfoldable pub finished : List ℕ → Current → List (List ℕ) → List ℕ
finished out p rs = sets out p.start.0 (blocks_of (onto (standing out p) (packed p.used.0 rs)))

-- the blocks of a slice that is not too long, packed again, as bytes; or its refusal
abbrev pub packed_again : List ℕ → Verdict (List ℕ)
packed_again slice = onward (walk_blocks 0 1 slice) (λ blocks. passed (repacked (records_in blocks)))

-- and how many bytes these are
abbrev pub bytes_needed : List ℕ → Verdict ℕ
bytes_needed slice = onward (walk_blocks 0 1 slice) (λ blocks. passed (length (repacked (records_in blocks))))

-- the current block has no more words than a block may have, and these records, packed, do not take it past what is counted
pub record Countable (p : Current) (rs : List (List ℕ)) : Type 0 where
  pub used : p.used.0 ≤ most_record_words
  pub bytes : p.start.0 + bytes_of_words (p.used.0 + 2 * length (joined rs)) ≤ count_limit

-- these records, packed from here on, fit into the output
pub record Fitting (out : List ℕ) (p : Current) (rs : List (List ℕ)) : Type 0 where
  pub used : p.used.0 ≤ most_record_words
  pub room : sealed_bytes (current_after p rs) ≤ length out
  pub few : sealed_bytes (current_after p rs) ≤ count_limit

-- room was made for a record of k words: with it and others the output comes to the same
pub record RoomMade (out : List ℕ) (p : Current) (k : ℕ) (after : List ℕ) (next : Current) : Type 0 where
  pub current : next ≡ room_for p k
  pub size : length after ≡ length out
  pub same : (r : List ℕ) (others : List (List ℕ)) → length r ≡ k → finished after next (r ∷ others) ≡ finished out p (r ∷ others)

-- records were put from here on: with others behind them the output comes to the same
pub record PutOn (out : List ℕ) (p : Current) (rs : List (List ℕ)) (after : List ℕ) (next : Current) : Type 0 where
  pub current : next ≡ current_after p rs
  pub size : length after ≡ length out
  pub same : (others : List (List ℕ)) → finished after next others ≡ finished out p (rs ++ others)

-- an accepted slice that is not empty, and an output that has room for its blocks packed again
pub record Packable (slice out : List ℕ) : Type 0 where
  pub blocks : List (List ℕ)
  pub found : walk_blocks 0 1 slice ≡ passed blocks
  pub some : 0 < length slice
  pub most : length slice ≤ most_bytes
  pub room : length (repacked (records_in blocks)) ≤ length out

-- they were put into it, and all other bytes stay
abbrev pub PackedInto : List ℕ → List ℕ → List ℕ → Type 0
PackedInto slice out after = (blocks : List (List ℕ)) → walk_blocks 0 1 slice ≡ passed blocks → after ≡ sets out 0 (repacked (records_in blocks))
