-- What is known of the words of any text: each refusal is listed, and an accepted one has some record words, and no more than a block takes.
use mathlib.Core.Path.{◌≡◌}
use mathlib.Core.List.{List, [], ◌∷◌}
use Prim.Native.Nat.{ℕ, suc, ◌+◌, ◌^◌, ◌≤◌, ◌<◌}
use native.Mathlib.Omega.{arith}
use borrow.Author.Tests.{ltb-false, eqb-false}
use lib.Dec.{ltb, eqb}
use lib.ListN.{length, length-append}
use Rattle.units.specs.Answers.{answer, passed, refused}
use Rattle.words.specs.Words.{most_record_words}
use Rattle.units.specs.Units.{Line}
use Rattle.read_cut.specs.Lines.{onto, lines_in, end_length}
use Rattle.read_first_line.specs.FirstLine.{Shape, Read}
use Rattle.read_line.specs.Lines.{read_line, at_end, read_lines}
use Rattle.read_records.specs.Cases.{TextRow}
use Rattle.read_records.specs.Reading.{read_text}
use Rattle.units.proofs.Told.{Known, then_known}
use Rattle.read_records.proofs.Told.{told}
use Rattle.units.proofs.Choosing.{by_test, both_ways}
use Rattle.read_records.proofs.Opened.{words_to_come, skipped, opens, Given, Taken, line-wide, line_known, RoomToCome}

-- ---- the lines of a text

onto_most : (b : ℕ) (ls : List Line) → length (onto b ls) ≤ suc (length ls)
unfolding onto
onto_most b [] = omega arith
onto_most b (l ∷ ls) = omega arith

pub lines_most : (t : List ℕ) → length (lines_in t) ≤ length t
unfolding lines_in
lines_most [] = omega arith
lines_most (b ∷ t) =
    let ih = lines_most t in
    both_ways P (eqb (end_length (b ∷ t)) 0) (onto b (lines_in t)) _ (omega (arith, onto_most b (lines_in t)))
    (both_ways P (eqb (end_length (b ∷ t)) 1) ([] ∷ lines_in t) (lines_in t) (omega arith) (omega arith))
  where
    P : List Line → Type 0
    P ls = length ls ≤ suc (length t)

-- ---- record words

-- behind `held` record words these are some, and no more than a block has room for
pub record WordsFit (held : ℕ) (ws : List ℕ) : Type 0 where
  pub some : 1 ≤ held + length ws
  pub most : held + length ws ≤ most_record_words

-- an accepted line leaves room for the lines to come
pub room_on : (held : ℕ) (rest : List Shape) (l : Line) (s : Read) → RoomToCome held rest → Given held rest l s → RoomToCome (held + length s.words) s.rest
unfolding words_to_come
room_on held (x ∷ rest) l s h g = rw g.0 (omega (arith, line-wide x l s.words g.1))
room_on held [] l s h (skipped b w r) = rw (w, r) (omega arith)
room_on held [] l s h (opens o) = omega (arith, o.total, o.room)

end_known : (num held : ℕ) (rest : List Shape) → num < 2 ^ 24 → RoomToCome held rest → Known TextRow (WordsFit held) (at_end num held rest)
unfolding at_end words_to_come
end_known num held (x ∷ rest) hn h = told 25 num 1 (omega arith) hn (omega arith)
end_known num held [] hn h =
    by_test (Known TextRow (WordsFit held)) (eqb held 0) (refused (answer 21 0 0 0)) (passed []) (λ _. told 21 0 0 (omega arith) (omega arith) (omega arith))
    (λ t. omega (arith, eqb-false held 0 t))

lines_known : (num held : ℕ) (rest : List Shape) (ls : List Line) → num + length ls < 2 ^ 24 → RoomToCome held rest → Known TextRow (WordsFit held) (read_lines num held rest ls)
unfolding read_lines
lines_known num held rest [] hn h = end_known num held rest (omega arith) h
lines_known num held rest (l ∷ ls) hn h =
    then_known TextRow (Taken held rest l) (WordsFit held) (read_line num held rest l) _ (line_known num (omega arith) held l rest h)
    (λ s g. then_known TextRow (WordsFit (held + length s.words)) (WordsFit held) (read_lines (suc num) (held + length s.words) s.rest ls) _
    (lines_known (suc num) (held + length s.words) s.rest ls (omega arith) (room_on held rest l s h g.given))
    (λ ws r. omega (arith, length-append s.words ws)))

-- every refusal of a text is told, and an accepted one has 1 to 7,998 record words
pub text_known : (t : List ℕ) → Known TextRow (WordsFit 0) (read_text t)
unfolding read_text words_to_come
text_known t =
    by_test (Known TextRow (WordsFit 0)) (ltb 65536 (length t)) (refused (answer 30 0 0 0)) _ (λ _. told 30 0 0 (omega arith) (omega arith) (omega arith))
    (λ u. lines_known 1 0 [] (lines_in t) (omega (arith, lines_most t, ltb-false 65536 (length t) u)) (omega arith))

pub words_room : (t ws : List ℕ) → read_text t ≡ passed ws → (1 ≤ length ws) × (length ws ≤ most_record_words)
words_room t ws e = let r : WordsFit 0 ws = rw e at (text_known t) in omega arith
