-- The words of the parts of a block that the judge reads: those before the last one, and of these those behind the first.
use mathlib.Core.Path.{◌≡◌}
use mathlib.Core.List.{List}
use Prim.Native.Nat.{ℕ}
use lib.ListN.{take}
use lib.Seq.{slice}
use Rattle.units.specs.Units.{bytes_of_words}
use Rattle.words.specs.Words.{words_of}
use Rattle.words.proofs.Laws.{words-slice}

pub words_front : (n : ℕ) (b : List ℕ) → words_of (take (bytes_of_words n) b) ≡ take n (words_of b)
words_front n b = words-slice 0 n b

pub words_inner : (n : ℕ) (b : List ℕ) → words_of (slice 2 (bytes_of_words n) b) ≡ slice 1 n (words_of b)
words_inner n b = words-slice 1 n b
