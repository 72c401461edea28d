-- Every spelling is read: the words on a line, and the lines still to come of a record.
use mathlib.Core.Path.{◌≡◌, refl, sym, ap, ◌∙◌}
use mathlib.Core.Bool.{true}
use mathlib.Core.Logic.{inl, inr}
use mathlib.Core.List.{List, [], ◌∷◌, ◌++◌, append_assoc}
use Prim.Native.Nat.{ℕ, zero, suc, ◌+◌, ◌*◌, ◌≤◌, ◌<◌, min}
use native.Mathlib.Nat.{add-zero, zero-add}
use native.Mathlib.Omega.{arith}
use borrow.Author.Tests.{le-leb, leb-true, eq-eqb}
use lib.ListN.{length, get_or, take, drop, length-append, length-take, length-drop}
use lib.Seq.{take_all}
use Rattle.units.specs.Answers.{Verdict, passed, refused, onward}
use Rattle.words.specs.Words.{All}
use Rattle.words.specs.Scans.{passing, within, plain_in}
use Rattle.words.proofs.Scans.{scan_take, pass_all}
use Rattle.words.proofs.Lists.{all_get_d}
use Rattle.std.specs.Prelude.{None}
use Rattle.field.specs.Reading.{columns, read_field}
use Rattle.field.proofs.Exact.{field_read}
use Rattle.units.proofs.Choosing.{by_test, both_ways}
use Rattle.units.specs.Units.{Line}
use Rattle.read_columns.specs.Columns.{plain_line, is_blank, blank_to, blank_after, blank_line, word_in, number, field_numbers, blank_field, zero_field, zero_fields}
use Rattle.read_columns.proofs.Columns.{right_to_lem, columns-part}
use Rattle.read_first_line.specs.FirstLine.{Shape, card, fields, gives, first_line}
use Rattle.read_line.specs.Lines.{later_fields, in_state, read_line, read_lines}
use Rattle.read_records.specs.Spelled.{PlainByte, Readable, Blanks, Spells, SpellsAll, SpellsZero, LineSpells, LinesSpell, no_lines, a_line}
use Rattle.read_records.proofs.Columns.{all_blank}

-- ---- the columns of a line

-- row 20 accepts a readable line
plain_back : (num : ℕ) (l : Line) → Readable l → plain_line num l ≡ passed tt
unfolding plain_line
plain_back num l r =
    let plain = pass_all (within 32 126) PlainByte (λ b p. simp (le-leb 32 b p.least, le-leb b 126 p.most)) l r.bytes in
    sym (right_to_lem 20 num l (plain_in (take 120 l)) (rw (take_all 120 l r.short) (omega arith)))

blank_all : (l : Line) → Blanks l → passing is_blank l ≡ length l
blank_all = pass_all is_blank (λ b. b ≡ 32) (λ b. eq-eqb b 32)

pub blank_back : (num : ℕ) (l : Line) (c : ℕ) → Blanks (drop c l) → blank_after num l c ≡ passed tt
unfolding blank_after
blank_back num l c h = sym (right_to_lem 26 num l (blank_to c l) (omega (arith, blank_all (drop c l) h, length-drop c l)))

-- a blank field is seen to be one
blank_seen : (l : Line) (k : ℕ) → Blanks (columns 6 l (6 * k)) → blank_field l k ≡ true
blank_seen l k h =
    let here = drop (6 * k) l in
    let field = blank_all (take 6 here) (columns-part (λ b. b ≡ 32) 6 l (6 * k) h) in
    le-leb (min (6 * k + 6) (length l)) (blank_to (6 * k) l) (omega (arith, scan_take is_blank 6 here, length-take 6 here, length-drop (6 * k) l))

-- a line with a number field is not blank
blank_bad : (l : Line) → Blanks l → read_field (columns 6 l 0) ≡ None
unfolding read_field columns
blank_bad l h = rw (column 0, column 1, column 2, column 3, column 4, column 5) refl
  where
    column : (i : ℕ) → get_or l i 32 ≡ 32
    column i = all_get_d (λ b. b ≡ 32) l i 32 refl h

pub is_first-line : (num held : ℕ) (l : Line) (w : ℕ) → Spells l 0 w → in_state num held [] l ≡ first_line num held l
unfolding in_state
is_first-line num held l w h =
    by_test (λ v. v ≡ first_line num held l) (blank_line l) (gives [] []) (first_line num held l)
    (λ t. absurd (never (blank_bad l (all_blank l (omega (arith, leb-true (length l) (blank_to 0 l) t)))))) (λ _. refl)
  where
    never : read_field (columns 6 l 0) ≡ None → ⊥
    never b = let z : ◌≡◌ {A = ℕ} 0 1 = cc (field_read h) in omega arith

-- ---- the words on a line of fields

-- the fields after the first n
spells_drop : (l : Line) (k n : ℕ) (ws : List ℕ) → SpellsAll l k ws → SpellsAll l (k + n) (drop n ws)
spells_drop l k zero ws h = rw add-zero h
spells_drop l k (suc n) [] h = tt
spells_drop l k (suc n) (w ∷ ws) h = let e : k + suc n ≡ suc k + n = omega arith in rw e (spells_drop l (suc k) n ws h.1)

module _ (num : ℕ) (l : Line) where
  number_back : (k w : ℕ) → Spells l k w → number num l k ≡ passed w
  unfolding number
  number_back k w h = ap (word_in num k) (field_read h)

  numbers_from : (k m : ℕ) (ws : List ℕ) → SpellsAll l k ws → m ≤ length ws → field_numbers num l k m ≡ passed (take m ws)
  unfolding field_numbers
  numbers_from k zero ws h s = refl
  numbers_from k (suc m) [] h s = absurd (omega arith)
  numbers_from k (suc m) (w ∷ ws) h s = rw (number_back k w h.0, numbers_from (suc k) m ws h.1 (omega arith))

  pub numbers_back : (ws : List ℕ) → SpellsAll l 0 ws → (k m : ℕ) → k + m ≤ length ws → field_numbers num l k m ≡ passed (take m (drop k ws))
  numbers_back ws h k m s = numbers_from k m (drop k ws) (rw zero-add at (spells_drop l 0 k ws h)) (omega (arith, length-drop k ws))

  zero_back : (k : ℕ) → SpellsZero l k → zero_field num l k ≡ passed tt
  unfolding zero_field
  zero_back k (inl b) = simp (blank_seen l k b)
  zero_back k (inr h) = both_ways (λ v. v ≡ passed tt) (blank_field l k) (passed tt) _ refl (rw (number_back k 0 h))

  pub zeros_back : (k m : ℕ) → ((j : ℕ) → k ≤ j → j < k + m → SpellsZero l j) → zero_fields num l k m ≡ passed tt
  unfolding zero_fields
  zeros_back k zero h = refl
  zeros_back k (suc m) h = rw (zero_back k (h k (omega arith) (omega arith))) (zeros_back (suc k) m (λ j low high. h j (omega arith) (omega arith)))

-- ---- a line

-- the words that a line gave, in front of those that the lines behind it give
abbrev pub ahead : List ℕ → Verdict (List ℕ) → Verdict (List ℕ)
ahead ws v = onward v (λ vs. passed (ws ++ vs))

ahead_none : (v : Verdict (List ℕ)) → ahead [] v ≡ v
ahead_none (passed vs) = refl
ahead_none (refused r) = refl

ahead-both : (ws us : List ℕ) (v : Verdict (List ℕ)) → ahead ws (ahead us v) ≡ ahead (ws ++ us) v
ahead-both ws us (passed vs) = ap (λ l. passed l) (sym (append_assoc ws us vs))
ahead-both ws us (refused r) = refl

-- a line that row 20 accepts
pub line_back : (num held : ℕ) (rest : List Shape) (l : Line) (ls : List Line) (ws : List ℕ) (more : List Shape)
    → Readable l → in_state num held rest l ≡ gives ws more
    → read_lines num held rest (l ∷ ls) ≡ ahead ws (read_lines (suc num) (held + length ws) more ls)
unfolding read_lines read_line
line_back num held rest l ls ws more r e = simp (plain_back num l r, e)

blank_line_back : (num held : ℕ) (l : Line) → Blanks l → in_state num held [] l ≡ gives [] []
unfolding in_state
blank_line_back num held l h = simp (le-leb (length l) (blank_to 0 l) (omega (arith, blank_all l h)))

-- a blank line between records
pub skip_back : (num held : ℕ) (l : Line) (ls : List Line) → Readable l → Blanks l → read_lines num held [] (l ∷ ls) ≡ read_lines (suc num) held [] ls
skip_back num held l ls r h =
    line_back num held [] l ls [] [] r (blank_line_back num held l h) ∙ ahead_none (read_lines (suc num) (held + 0) [] ls) ∙ rw add-zero

-- a line after a record's first
later_back : (num held : ℕ) (x : Shape) (rest : List Shape) (l : Line) (ws : List ℕ) → LineSpells x l ws → in_state num held (x ∷ rest) l ≡ gives ws rest
unfolding in_state later_fields
later_back num held card rest l ws h = rw (blank_back num l 80 h.1, h.0)
later_back num held (fields n) rest l ws h =
    rw (numbers_back num l ws h.1 0 n (omega (arith, h.0)), blank_back num l (6 * n) h.2, take_all n ws (omega (arith, h.0)))

-- ---- the lines still to come of a record

-- the words of a line and those of the lines behind it are the words of both
pub joins : (ws vs r : List ℕ) (i j held : ℕ) (ls : List Line) → ws ++ vs ≡ r → i ≡ j
    → ahead ws (ahead vs (read_lines i (held + length ws + length vs) [] ls)) ≡ ahead r (read_lines j (held + length r) [] ls)
joins ws vs r i j held ls e f =
    let s : held + length ws + length vs ≡ held + length r = omega (arith, length-append ws vs, ap length e) in
    ahead-both ws vs (read_lines i (held + length ws + length vs) [] ls) ∙ rw (e, s, f)

-- and all of them
pub lines_back : {xs : List Shape} {ms : List Line} {ws : List ℕ} (num held : ℕ) (ls : List Line) → LinesSpell xs ms ws → All Readable ms
    → read_lines num held xs (ms ++ ls) ≡ ahead ws (read_lines (num + length ms) (held + length ws) [] ls)
lines_back num held ls no_lines r = rw (add-zero num, add-zero held) (sym (ahead_none (read_lines num held [] ls)))
lines_back num held ls (a_line {x} {l} {xs} {ls = ms} {vs} ws h on) r =
    line_back num held (x ∷ xs) l (ms ++ ls) ws xs r.0 (later_back num held x xs l ws h)
    ∙ ap (ahead ws) (lines_back (suc num) (held + length ws) ls on r.1)
    ∙ joins ws vs (ws ++ vs) (suc num + length ms) (num + suc (length ms)) held ls refl (omega arith)
