-- An accepted text is one of good records, so what it becomes is an accepted block.
use mathlib.Core.Path.{◌≡◌, refl, sym, ap, ◌∙◌}
use mathlib.Core.List.{List, [], ◌∷◌, ◌++◌, append_assoc}
use Prim.Native.Nat.{ℕ, suc, ◌+◌, ◌^◌, ◌<◌}
use native.Mathlib.Omega.{arith}
use borrow.Author.Tests.{ltb-false}
use lib.Dec.{ltb, eqb}
use lib.ListN.{length}
use Rattle.units.specs.Answers.{answer, Verdict, passed, refused, onward}
use Rattle.units.proofs.Verdicts.{never_passed, else_passed}
use Rattle.words.specs.Words.{joined, All}
use Rattle.words.proofs.Lists.{all_append}
use Rattle.record.specs.Rules.{RecordOk}
use Rattle.block.proofs.Exact.{some_record}
use Rattle.units.specs.Units.{Line}
use Rattle.read_cut.specs.Lines.{lines_in}
use Rattle.read_first_line.specs.FirstLine.{Shape, Read}
use Rattle.read_line.specs.Lines.{read_line, at_end, read_lines}
use Rattle.read_records.specs.Reading.{read_text}
use Rattle.read_records.specs.Spelled.{Readable, Blanks, LinesSpell, no_lines, a_line, Spelled, at_text_end, blank_line, a_record}
use Rattle.units.proofs.Told.{Known}
use Rattle.read_records.specs.Cases.{TextRow}
use Rattle.read_records.proofs.Opened.{words_to_come, Opens, skipped, opens, Given, Taken, line_known, RoomToCome}
use Rattle.read_records.proofs.Known.{lines_most, room_on, words_room}
use Rattle.demands.specs.Texts.{IsText}
use Rattle.demands.proofs.Gathered.{done}

-- ---- line after line

-- the lines are records, in order, with blank lines around them
record Whole (ls : List Line) (ws : List ℕ) : Type 0 where
  records : List (List ℕ)
  words : ws ≡ joined records
  spelled : Spelled ls records
  readable : All Readable ls
  each : All RecordOk records

-- first the lines still to come of a record
record Behind (rest : List Shape) (ls : List Line) (ws : List ℕ) : Type 0 where
  now : List Line
  later : List Line
  body : List ℕ
  others : List ℕ
  lines : ls ≡ now ++ later
  words : ws ≡ body ++ others
  spelled : LinesSpell rest now body
  readable : All Readable now
  whole : Whole later others

-- between records none of these are to come
nothing_to_come : (ls : List Line) (ws : List ℕ) → Whole ls ws → Behind [] ls ws
nothing_to_come ls ws w = record { now = []; later = ls; body = []; others = ws; lines = refl; words = refl; spelled = no_lines; readable = tt; whole = w }

none_left : {ls : List Line} {ws : List ℕ} → LinesSpell [] ls ws → (ls ≡ []) × (ws ≡ [])
none_left no_lines = (refl, refl)

none_left_whole : (ls : List Line) (ws : List ℕ) → Behind [] ls ws → Whole ls ws
none_left_whole ls ws b =
    let n = none_left b.spelled in
    let e : ls ≡ b.later = b.lines ∙ ap (λ t. t ++ b.later) n.0 in
    let f : ws ≡ b.others = b.words ∙ ap (λ t. t ++ b.others) n.1 in
    rw (e, f) b.whole

-- a line, and the lines behind it
module _ (held : ℕ) (l : Line) (s : Read) (ls : List Line) (ws : List ℕ) (r : Readable l) where
  blank_before : Blanks l → Whole ls ws → Whole (l ∷ ls) ws
  blank_before b w = record { records = w.records; words = w.words; spelled = blank_line b w.spelled; readable = (r, w.readable); each = w.each }

  module _ (b : Behind s.rest ls ws) where
    words-on : s.words ++ ws ≡ (s.words ++ b.body) ++ b.others
    words-on = ap (λ t. s.words ++ t) b.words ∙ sym (append_assoc s.words b.body b.others)

    record-before : Opens held l s → Whole (l ∷ ls) (s.words ++ ws)
    unfolding joined
    record-before o =
        let d = done held l s o b.now b.body b.spelled b.readable in
        let w = b.whole in
        record {
          records = (s.words ++ b.body) ∷ w.records;
          words = words-on ∙ ap (λ t. (s.words ++ b.body) ++ t) w.words;
          spelled = rw b.lines (a_record d.spelled w.spelled);
          readable = rw b.lines (r, all_append Readable b.now b.later b.readable w.readable);
          each = (d.ok, w.each);
        }

    line_before : (rest : List Shape) → Given held rest l s → Behind rest (l ∷ ls) (s.words ++ ws)
    line_before (x ∷ rest) g =
        record {
          now = l ∷ b.now;
          later = b.later;
          body = s.words ++ b.body;
          others = b.others;
          lines = ap (λ ms. l ∷ ms) b.lines;
          words = words-on;
          spelled = a_line s.words g.1 (rw g.0 at b.spelled);
          readable = (r, b.readable);
          whole = b.whole;
        }
    line_before [] (skipped blank none e) = rw none (nothing_to_come (l ∷ ls) ws (blank_before blank (none_left_whole ls ws (rw e at b))))
    line_before [] (opens o) = nothing_to_come (l ∷ ls) (s.words ++ ws) (record-before o)

-- at the end of the text
no_more : (num held : ℕ) (rest : List Shape) (ws : List ℕ) → at_end num held rest ≡ passed ws → Behind rest [] ws
unfolding at_end joined
no_more num held (x ∷ rest) ws e = absurd (never_passed e)
no_more num held [] ws e =
    let p = (else_passed (eqb held 0) (answer 21 0 0 0) (passed []) ws e).1 in
    let none : ws ≡ [] = cc in
    nothing_to_come [] ws (record { records = []; words = none; spelled = at_text_end; readable = tt; each = tt })

-- what the lines give from here is what they spell
each_line : (num held : ℕ) (rest : List Shape) (ls : List Line) (ws : List ℕ) → num + length ls < 2 ^ 24 → RoomToCome held rest → read_lines num held rest ls ≡ passed ws → Behind rest ls ws
unfolding read_lines
each_line num held rest [] ws hn h e = no_more num held rest ws e
each_line num held rest (l ∷ ls) ws hn h e =
    by (read_line num held rest l) (line_known num (omega arith) held l rest h)
    (λ s. each_line (suc num) (held + length s.words) s.rest ls) e
  where
    last : (s : Read) → Taken held rest l s → (v : Verdict (List ℕ)) → ((vs : List ℕ) → v ≡ passed vs → Behind s.rest ls vs) → onward v (λ vs. passed (s.words ++ vs)) ≡ passed ws → Behind rest (l ∷ ls) ws
    last s g (passed vs) ih e = let words : ws ≡ s.words ++ vs = cc in rw words (line_before held l s ls vs g.readable (ih vs refl) rest g.given)
    last s g (refused r) ih e = absurd (never_passed e)

    by : (v : Verdict Read) → Known TextRow (Taken held rest l) v
        → ((s : Read) → (vs : List ℕ) → suc num + length ls < 2 ^ 24 → RoomToCome (held + length s.words) s.rest → read_lines (suc num) (held + length s.words) s.rest ls ≡ passed vs → Behind s.rest ls vs)
        → onward v (λ s. onward (read_lines (suc num) (held + length s.words) s.rest ls) (λ vs. passed (s.words ++ vs))) ≡ passed ws → Behind rest (l ∷ ls) ws
    by (passed s) g ih e = last s g (read_lines (suc num) (held + length s.words) s.rest ls) (λ vs. ih s vs (omega arith) (room_on held rest l s h g.given)) e
    by (refused r) g ih e = absurd (never_passed e)

-- ---- a text

-- an accepted text is one of good records, and its words are theirs
pub its-text : (t ws : List ℕ) → read_text t ≡ passed ws → (rs : List (List ℕ)) × IsText t rs × (ws ≡ joined rs)
unfolding read_text words_to_come
its-text t ws e =
    let p = else_passed (ltb 65536 (length t)) (answer 30 0 0 0) _ ws e in
    let size = ltb-false 65536 (length t) p.0 in
    let w = none_left_whole (lines_in t) ws (each_line 1 0 [] (lines_in t) ws (omega (arith, lines_most t)) (omega arith) p.1) in
    let r = words_room t ws e in
    let l = ap length w.words in (
      w.records,
      record { size = size; lines = w.readable; spelled = w.spelled; each = w.each; some = some_record w.records (omega arith); most = omega arith },
      w.words,
    )
