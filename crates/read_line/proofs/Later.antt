-- A later line of a record, by what is to come.
use mathlib.Core.Path.{◌≡◌}
use mathlib.Core.List.{List, []}
use Prim.Native.Nat.{ℕ, ◌≤◌}
use native.Mathlib.Omega.{arith}
use lib.ListN.{length}
use Rattle.words.specs.Words.{words_of}
use Rattle.words.proofs.Laws.{length_words_of}
use Rattle.field.specs.Reading.{columns}
use Rattle.read_columns.proofs.Columns.{length-columns}
use Rattle.read_first_line.specs.declared.Rest.{Rest}
use Rattle.read_first_line.specs.State.{to_come}
use Rattle.read_line.specs.State.{Settled}
use Rattle.read_line.proofs.ToCome.{none_to_come}

-- a card has 40 words
pub card_size : (l : List ℕ) → length (words_of (columns 80 l 0)) ≡ 40
card_size l = let e = length-columns 80 l 0 in omega (arith, length_words_of (columns 80 l 0))

-- what is to come, where the present part is settled
pub nothing_left : (q : Rest) → Settled q → q.cards.0 ≤ 0 → q.left.0 ≤ 0 → to_come q ≡ []
nothing_left q h no_cards none = none_to_come q (omega arith) (h (omega arith))
