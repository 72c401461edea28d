-- The standard lines spell the records that they are of, so they are read back.
use mathlib.Core.Path.{◌≡◌, refl, sym, ap, ◌∙◌}
use mathlib.Core.Logic.{inr}
use mathlib.Core.List.{List, [], ◌∷◌, ◌++◌, map, append_assoc}
use Prim.Native.Nat.{ℕ, zero, suc, ◌+◌, ◌-◌, ◌*◌, ◌≤◌, ◌<◌}
use native.Mathlib.Omega.{arith}
use borrow.Author.Tests.{ne_eqb}
use lib.Dec.{eqb}
use lib.ListN.{length, get_or, take, drop, replicate, drop_of_length-le, length-drop, take-append-drop}
use lib.Seq.{drop-nil, drop-cons, drop-append-add, take_at, take_all, take-take, take-length, length-take-le, get_or-take, get_or-drop}
use Rattle.units.specs.Answers.{passed}
use Rattle.words.specs.Words.{word, bytes_of, joined, All, Below, most_record_words}
use Rattle.words.proofs.Lists.{all_take, all_drop, all_append, all_get_d, all_map}
use Rattle.words.proofs.Laws.{length_bytes_of, words_bytes, get_or_below}
use Rattle.counts.specs.Counts.{counts_of}
use Rattle.record.specs.Lines.{line_count}
use Rattle.record.specs.Rules.{CardWord, CardsOk, KindOk, catalogue, header, data_record, RecordOk}
use Rattle.field.specs.Writing.{field_of, FieldByte, blank, minus, figure}
use Rattle.field.specs.Reading.{columns}
use Rattle.field.proofs.Written.{length_field_of, bytes_field_of, written_field}
use Rattle.units.proofs.Choosing.{both_ways}
use Rattle.write_parts.specs.Laid.{fields_of, laid, card_lines, ended}
use Rattle.line_plan.specs.Plan.{data_plan, kind_shown, shown_words}
use Rattle.units.specs.Units.{Line}
use Rattle.write_parts.proofs.Turns.{length_fields_of}
use Rattle.line_plan.proofs.Plans.{fields_in, fields_in-plan}
use Rattle.write_lines.specs.Lines.{lines_of}
use Rattle.write_lines.specs.Text.{text_of}
use Rattle.write_lines.proofs.Sizes.{record_sized, is_cards, cards-lines, data-lines, text_size_most}
use Rattle.read_cut.specs.Lines.{onto, lines_in, end_length}
use Rattle.read_columns.proofs.Columns.{columns_full}
use Rattle.read_first_line.specs.FirstLine.{card, fields}
use Rattle.read_records.specs.Reading.{read_text}
use Rattle.read_records.specs.Spelled.{PlainByte, Readable, Blanks, Spells, SpellsAll, LineSpells, LinesSpell, no_lines, a_line, CardsSpelled, RecordSpelled, as_catalogue, as_header, as_data, Spelled, at_text_end, a_record}
use Rattle.demands.proofs.Lines.{line_width}
use Rattle.demands.proofs.Texts.{text_read}

-- ---- the bytes of written lines

byte_plain : (b : ℕ) → FieldByte b → PlainByte b
byte_plain b blank = omega arith
byte_plain b minus = omega arith
byte_plain b (figure n) = omega arith

fields_plain : (ws : List ℕ) → All PlainByte (fields_of ws)
unfolding fields_of
fields_plain [] = tt
fields_plain (w ∷ ws) = all_append PlainByte (field_of w) (fields_of ws) (all_map FieldByte PlainByte byte_plain (field_of w) (bytes_field_of w)) (fields_plain ws)

card_plain : (ws : List ℕ) → All CardWord ws → All PlainByte (bytes_of ws)
unfolding bytes_of
card_plain [] h = tt
card_plain (w ∷ ws) h = (record { least = h.0.high_least; most = h.0.high_most }, (record { least = h.0.low_least; most = h.0.low_most }, card_plain ws h.1))

laid_plain : (ns ws : List ℕ) → All (All PlainByte) (laid ns ws)
unfolding laid
laid_plain [] ws = tt
laid_plain (n ∷ ns) ws = (fields_plain (take n ws), laid_plain ns (drop n ws))

cards_plain : (n : ℕ) (ws : List ℕ) → All CardWord ws → All (All PlainByte) (card_lines n ws)
unfolding card_lines
cards_plain zero ws h = tt
cards_plain (suc n) ws h = (card_plain (take 40 ws) (all_take CardWord 40 ws h), cards_plain n (drop 40 ws) (all_drop CardWord 40 ws h))

-- ---- the lines of a text

line-cut : (l t : List ℕ) → All PlainByte l → lines_in (l ++ 10 ∷ t) ≡ l ∷ lines_in t
unfolding lines_in onto end_length
line-cut [] t h = refl
line-cut (b ∷ l) t h = simp (ne_eqb b 10 (λ e. omega (arith, h.0.least)), ne_eqb b 13 (λ e. omega (arith, h.0.least))) (ap (onto b) (line-cut l t h.1))

lines_cut : (ls : List Line) (t : List ℕ) → All (All PlainByte) ls → lines_in (ended ls ++ t) ≡ ls ++ lines_in t
unfolding ended
lines_cut [] t h = refl
lines_cut (l ∷ ls) t h =
    ap lines_in (append_assoc l (10 ∷ ended ls) t)
    ∙ line-cut l (ended ls ++ t) h.0
    ∙ ap (λ ms. l ∷ ms) (lines_cut ls t h.1)

-- ---- the words on a line of fields

fields_drop : (k : ℕ) (ws : List ℕ) → drop (6 * k) (fields_of ws) ≡ fields_of (drop k ws)
unfolding fields_of
fields_drop zero ws = refl
fields_drop (suc k) [] = drop-nil (6 * suc k)
fields_drop (suc k) (w ∷ ws) =
    let e : 6 * suc k ≡ length (field_of w) + 6 * k = omega (arith, length_field_of w) in
    ap (λ n. drop n (field_of w ++ fields_of ws)) e ∙ drop-append-add (field_of w) (fields_of ws) (6 * k) ∙ fields_drop k ws

-- the columns of the field with k fields before it
field_at : (ws : List ℕ) (k : ℕ) → k < length ws → columns 6 (fields_of ws) (6 * k) ≡ field_of (get_or ws k 0)
unfolding fields_of
field_at ws k h =
    let w = get_or ws k 0 in
    columns_full 6 (fields_of ws) (6 * k) (omega (arith, length_fields_of ws))
    ∙ ap (take 6) (fields_drop k ws ∙ ap fields_of (drop-cons ws k 0 h))
    ∙ take_at (field_of w) (fields_of (drop (suc k) ws)) 6 (length_field_of w)

-- a line has nothing behind its end
nothing_behind : (l : Line) (c : ℕ) → length l ≤ c → Blanks (drop c l)
nothing_behind l c h = rw (drop_of_length-le l {i = c} h) tt

module _ (ws : List ℕ) (below : Below 65536 ws) where
  -- its fields spell its words
  word_spelled : (k : ℕ) → k < length ws → Spells (fields_of ws) k (get_or ws k 0)
  word_spelled k h = rw (field_at ws k h) (written_field (get_or ws k 0) (get_or_below 65536 ws k (omega arith) below))

  spelled_from : (m k : ℕ) → k + m ≡ length ws → SpellsAll (fields_of ws) k (drop k ws)
  spelled_from zero k h = rw (drop_of_length-le ws {i = k} (omega arith)) tt
  spelled_from (suc m) k h = rw (drop-cons ws k 0 (omega arith)) (word_spelled k (omega arith), spelled_from m (suc k) (omega arith))

  fields_spell : SpellsAll (fields_of ws) 0 ws
  fields_spell = spelled_from (length ws) 0 (omega arith)

-- so do fewer
spells_take : (l : Line) (k n : ℕ) (ws : List ℕ) → SpellsAll l k ws → SpellsAll l k (take n ws)
spells_take l k zero ws h = tt
spells_take l k (suc n) [] h = tt
spells_take l k (suc n) (w ∷ ws) h = (h.0, spells_take l (suc k) n ws h.1)

-- ---- the lines after a record's first

laid_spell : (ns ws : List ℕ) → fields_in ns ≡ length ws → Below 65536 ws → LinesSpell (map fields ns) (laid ns ws) ws
unfolding laid fields_in
laid_spell [] [] s b = no_lines
laid_spell [] (w ∷ ws) s b = absurd (omega arith)
laid_spell (n ∷ ns) ws s b =
    let first = take n ws in
    let k : length first ≡ n = length-take-le n ws (omega arith) in
    let spells : LineSpells (fields n) (fields_of first) first =
    (k, fields_spell first (all_take (λ w. w < 65536) n ws b), nothing_behind (fields_of first) (6 * n) (omega (arith, length_fields_of first))) in
    rw (take-append-drop n ws) at (a_line {x = fields n} {l = fields_of first} first spells (laid_spell ns (drop n ws) (omega (arith, length-drop n ws)) (all_drop (λ w. w < 65536) n ws b)))

cards_spell : (n : ℕ) (ws : List ℕ) → length ws ≡ n * 40 → LinesSpell (replicate n card) (card_lines n ws) ws
unfolding card_lines
cards_spell zero [] h = no_lines
cards_spell zero (w ∷ ws) h = absurd (omega arith)
cards_spell (suc n) ws h =
    let first = take 40 ws in
    let l : length (bytes_of first) ≡ 80 = omega (arith, length_bytes_of first, length-take-le 40 ws (omega arith)) in
    let whole : columns 80 (bytes_of first) 0 ≡ bytes_of first = columns_full 80 (bytes_of first) 0 (omega arith) ∙ take_all 80 (bytes_of first) (omega arith) in
    let spells : LineSpells card (bytes_of first) first = (rw (whole, words_bytes first) refl, nothing_behind (bytes_of first) 80 (omega arith)) in
    rw (take-append-drop 40 ws) at (a_line {x = card} {l = bytes_of first} first spells (cards_spell n (drop 40 ws) (omega (arith, length-drop 40 ws))))

-- ---- a record

-- a word that must be zero
zero_word : (z : ℕ) (r : List ℕ) → All (λ w. w ≡ 0) (drop z (take 40 r)) → (k : ℕ) → z ≤ k → k < 40 → get_or r k 0 ≡ 0
zero_word z r h k low high =
    let e : z + (k - z) ≡ k = omega arith in
    sym (get_or-take 40 r k 0 high) ∙ ap (λ i. get_or (take 40 r) i 0) (sym e) ∙ sym (get_or-drop z (take 40 r) (k - z) 0) ∙ all_get_d (λ w. w ≡ 0) (drop z (take 40 r)) (k - z) 0 refl h

-- ---- the words as the lines show them

kind_below : (k : ℕ) → kind_shown k < 65536
kind_below k =
    both_ways (λ w. w < 65536) (eqb k 2001) 2101 _ (omega arith) (both_ways (λ w. w < 65536) (eqb k 3002) 3101 1101 (omega arith) (omega arith))

module _ (r : List ℕ) (h : RecordOk r) where
  shown_below : Below 65536 (shown_words r)
  shown_below =
      let total = get_or_below 65536 r 0 (omega arith) h.sized in
      (omega (arith, (record_sized r h).count_most, h.total), (kind_below (word r 2), all_drop (λ w. w < 65536) 2 r h.sized))

  shown_same : (k : ℕ) → 2 ≤ k → get_or (shown_words r) k 0 ≡ get_or r k 0
  shown_same zero low = absurd (omega arith)
  shown_same (suc zero) low = absurd (omega arith)
  shown_same (suc (suc k)) low = get_or-drop 2 r k 0 ∙ ap (λ i. get_or r i 0) (omega arith)

  -- a Catalogue or a Header
  module _ (ne : word r 2 ≡ 1002 → ⊥) where
    its-lines : lines_of r ≡ fields_of (take 20 (shown_words r)) ∷ card_lines (line_count r - 1) (drop 40 r)
    its-lines = cards-lines r (ne_eqb (word r 2) 1002 ne)

    cards-spelled : (z : ℕ) → 3 ≤ z → z ≤ 21 → CardsOk z r → CardsSpelled (z - 1) r (fields_of (take 20 (shown_words r))) (card_lines (line_count r - 1) (drop 40 r))
    cards-spelled z low high c =
        let row = take 20 (shown_words r) in
        let count = (is_cards r h ne).count in
        let size : length row ≡ 20 = length-take-le 20 (shown_words r) (omega (arith, length-drop 2 r, c.size)) in
        let below = all_take (λ w. w < 65536) 20 (shown_words r) shown_below in
        let zero : (k : ℕ) → z - 1 ≤ k → k < 20 → get_or row k 0 ≡ 0 =
        λ k from to. get_or-take 20 (shown_words r) k 0 to ∙ shown_same k (omega arith) ∙ zero_word (z - 1) r c.zeros k from (omega arith) in
        record {
          free = rw (take-take (z - 1) 20 (shown_words r) (omega arith)) at (spells_take (fields_of row) 0 (z - 1) row (fields_spell row below));
          zeros = λ k from to. inr (rw (zero k from to) at (word_spelled row below k (omega arith)));
          cards = cards_spell (line_count r - 1) (drop 40 r) (omega (arith, length-drop 40 r, c.size));
        }

    cards-lines-plain : (z : ℕ) → CardsOk z r → All (All PlainByte) (lines_of r)
    cards-lines-plain z c = rw its-lines (fields_plain (take 20 (shown_words r)), cards_plain (line_count r - 1) (drop 40 r) (rw (take-length r) at c.printed))

  lines_spelled : RecordSpelled r (lines_of r)
  lines_spelled = by h.kind
    where
      by : KindOk r → RecordSpelled r (lines_of r)
      by (catalogue e c) = rw (its-lines (λ f. omega arith)) (as_catalogue e (cards-spelled (λ f. omega arith) 13 (omega arith) (omega arith) c))
      by (header e c) = rw (its-lines (λ f. omega arith)) (as_header e (cards-spelled (λ f. omega arith) 16 (omega arith) (omega arith) c))
      by (data_record e d) =
          let all = fields_in-plan (counts_of r) in
          rw (data-lines r (ap (λ k. eqb k 1002) e)) (as_data e (laid_spell (data_plan r) (shown_words r) (omega (arith, d.sum, d.counts.lprol.least_is, length-drop 2 r)) shown_below))

  lines_plain : All (All PlainByte) (lines_of r)
  lines_plain = by h.kind
    where
      by : KindOk r → All (All PlainByte) (lines_of r)
      by (catalogue e c) = cards-lines-plain (λ f. omega arith) 13 c
      by (header e c) = cards-lines-plain (λ f. omega arith) 16 c
      by (data_record e d) = rw (data-lines r (ap (λ k. eqb k 1002) e)) (laid_plain (data_plan r) (shown_words r))

-- ---- a text

all_readable : (ls : List Line) → All (All PlainByte) ls → All (λ l. length l ≤ 120) ls → All Readable ls
all_readable [] p w = tt
all_readable (l ∷ ls) p w = (record { short = w.0; bytes = p.0 }, all_readable ls p.1 w.1)

-- the lines of records are readable, and spell them
record Standard (rs : List (List ℕ)) : Type 0 where
  lines : All Readable (lines_in (text_of rs))
  spelled : Spelled (lines_in (text_of rs)) rs

standard_lines : (rs : List (List ℕ)) → All RecordOk rs → Standard rs
unfolding lines_in text_of
standard_lines [] h = record { lines = tt; spelled = at_text_end }
standard_lines (r ∷ rs) h =
    let s = standard_lines rs h.1 in
    let cut = lines_cut (lines_of r) (text_of rs) (lines_plain r h.0) in
    record {
      lines = rw cut (all_append Readable (lines_of r) (lines_in (text_of rs)) (all_readable (lines_of r) (lines_plain r h.0) (line_width r h.0)) s.lines);
      spelled = rw cut (a_record (lines_spelled r h.0) s.spelled);
    }

pub text_back : (rs : List (List ℕ)) → All RecordOk rs → 1 ≤ length rs → length (joined rs) ≤ most_record_words → read_text (text_of rs) ≡ passed (joined rs)
text_back rs h some fits =
    let s = standard_lines rs h in
    text_read (text_of rs) rs (record { size = omega (arith, text_size_most rs h some); lines = s.lines; spelled = s.spelled; each = h; some = some; most = fits })
