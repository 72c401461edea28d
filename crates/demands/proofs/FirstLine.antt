-- The first line of a good record is read, by the record's kind, in any spelling.
use Rattle.record.proofs.Values.{is_data}
use mathlib.Core.Path.{◌≡◌, refl, sym, ap, ap₂, ◌∙◌}
use mathlib.Core.List.{List, [], ◌∷◌, ◌++◌, map}
use Prim.Native.Nat.{ℕ, suc, ◌+◌, ◌-◌, ◌*◌, ◌≤◌, min}
use native.Mathlib.Omega.{arith}
use borrow.Author.Tests.{le-ltb, eq-eqb}
use lib.Dec.{ltb, eqb}
use lib.ListN.{length, get_or, take, drop, replicate, length-take, length-drop, take-append-drop}
use lib.Seq.{take_all, take-add, take-take, length-take-le, get_or-take}
use Rattle.std.specs.Prelude.{if◌then◌else◌}
use Rattle.units.specs.Answers.{answer, passed, refused, onward}
use Rattle.read_columns.specs.Columns.{column_of}
use Rattle.words.specs.Words.{word, All, most_record_words}
use Rattle.counts.specs.Counts.{counts_of, words_needed, lines_needed, in_range}
use Rattle.record.specs.Lines.{line_count}
use Rattle.record.specs.Rules.{CardsOk, DataOk, KindOk, catalogue, header, data_record, RecordOk}
use Rattle.counts.proofs.FourCounts.{ok_range}
use Rattle.line_plan.specs.Plan.{plan, data_plan, kind_shown}
use Rattle.units.specs.Units.{Line}
use Rattle.write_lines.proofs.Sizes.{is_cards, data-count}
use Rattle.read_first_line.specs.FirstLine.{card, fields, gives, cards, counts, counts_in, catalogue_fields, header_fields, count_fields, prologue_fields, data_fields, kind_fields, first_fields, cards_room, data_room, head_line, first_line}
use Rattle.read_line.specs.Lines.{in_state}
use Rattle.read_records.specs.Spelled.{Blanks, SpellsAll, CardsSpelled}
use Rattle.demands.proofs.Back.{blank_back, is_first-line, numbers_back, zeros_back}

-- ---- words that must be zero

abbrev Zeros : List ℕ → Type 0
Zeros l = All (λ w. w ≡ 0) l

all_zero_lem : (l : List ℕ) → Zeros l → replicate (length l) 0 ≡ l
all_zero_lem [] h = refl
all_zero_lem (w ∷ l) h = rw h.0 (ap (λ t. 0 ∷ t) (all_zero_lem l h.1))

-- of m words, those behind the first z are zero
zeros-behind : (z m : ℕ) (l : List ℕ) → z ≤ m → m ≤ length l → Zeros (drop z (take m l)) → take z l ++ replicate (m - z) 0 ≡ take m l
zeros-behind z m l h k a =
    let e : m - z ≡ length (drop z (take m l)) = omega (arith, length-drop z (take m l), length-take-le m l k) in
    rw (e, ← take-take z m l h) (ap (λ t. take z (take m l) ++ t) (all_zero_lem (drop z (take m l)) a) ∙ take-append-drop z (take m l))

-- ---- a good record by its kind

is_catalogue : (r : List ℕ) → RecordOk r → word r 2 ≡ 2001 → CardsOk 13 r
is_catalogue r h e = by h.kind
  where
    by : KindOk r → CardsOk 13 r
    by (catalogue f c) = c
    by (header f c) = absurd (omega arith)
    by (data_record f d) = absurd (omega arith)

is_header : (r : List ℕ) → RecordOk r → word r 2 ≡ 3002 → CardsOk 16 r
is_header r h e = by h.kind
  where
    by : KindOk r → CardsOk 16 r
    by (catalogue f c) = absurd (omega arith)
    by (header f c) = c
    by (data_record f d) = absurd (omega arith)

-- ---- the record, with its first two words apart

module _ (num held a b : ℕ) (ws : List ℕ) where
  abbrev it : List ℕ
  it = a ∷ (b ∷ ws)

  abbrev count : ℕ
  count = line_count it

  module _ (h : RecordOk it) (fits : held + length it ≤ most_record_words) where
    -- a Catalogue or a Header
    module _ (ne : b ≡ 1002 → ⊥) where
      whole : length it ≡ 40 * count
      whole = let c = is_cards it h ne in omega (arith, c.count, c.whole)

      many : 38 ≤ length ws
      many = omega (arith, (is_cards it h ne).least)

      -- z of its fields behind the first two may be free
      cards-line : (kind shows z : ℕ) → b ≡ kind → z ≤ 38 → Zeros (drop z (take 38 ws))
          → head_line num held (cards kind (count ∷ (shows ∷ take z ws))) ≡ gives (take 40 it) (replicate (count - 1) card)
      unfolding cards_room
      cards-line kind shows z e k s =
          let w = whole in
          let g = many in
          let t : 40 * count ≡ a = omega (arith, h.total) in
          let m : 40 - suc (suc (length (take z ws))) ≡ 38 - z = omega (arith, length-take-le z ws (omega arith)) in
          simp (le-ltb count 1 (omega arith), le-ltb 199 count (omega arith), le-ltb most_record_words (held + 40 * count) (omega arith))
          (rw (m, zeros-behind z 38 ws k g s) (ap₂ (λ (x y : ℕ). gives (x ∷ (y ∷ take 38 ws)) (replicate (count - 1) card)) t (sym e)))

      -- it gives the words before the cards, and the cards are still to come
      module _ (l : Line) (ls : List Line) where
        abbrev CardsGiven : Type 0
        CardsGiven = in_state num held [] l ≡ gives (take 40 it) (replicate (count - 1) card)

        pub catalogue-given : b ≡ 2001 → CardsSpelled 12 it l ls → CardsGiven
        unfolding first_line first_fields kind_fields catalogue_fields
        catalogue-given e s =
            let kind : kind_shown b ≡ 2101 = ap (λ k. kind_shown k) e in
            let spells : SpellsAll l 0 (count ∷ (2101 ∷ take 10 ws)) = rw kind at s.free in
            let t = length-take-le 10 ws (omega (arith, many)) in
            is_first-line num held l count spells.0
            ∙ rw (numbers_back num l (count ∷ (2101 ∷ take 10 ws)) spells 0 12 (omega arith), zeros_back num l 12 8 s.zeros, take-take 10 10 ws (omega arith))
            (cards-line 2001 2101 10 e (omega arith) (is_catalogue it h e).zeros)

        pub header-given : b ≡ 3002 → CardsSpelled 15 it l ls → CardsGiven
        unfolding first_line first_fields kind_fields header_fields
        header-given e s =
            let kind : kind_shown b ≡ 3101 = ap (λ k. kind_shown k) e in
            let spells : SpellsAll l 0 (count ∷ (3101 ∷ take 13 ws)) = rw kind at s.free in
            let t = length-take-le 13 ws (omega (arith, many)) in
            is_first-line num held l count spells.0
            ∙ rw (
              numbers_back num l (count ∷ (3101 ∷ take 13 ws)) spells 0 12 (omega arith),
              numbers_back num l (count ∷ (3101 ∷ take 13 ws)) spells 12 3 (omega arith),
              zeros_back num l 15 5 s.zeros,
              ← take-add 10 3 (take 13 ws),
              take-take 13 13 ws (omega arith),
            ) (cards-line 3002 3101 13 e (omega arith) (is_header it h e).zeros)

    -- a Data record: q words behind the first two stand on its first line
    module _ (kind : b ≡ 1002) (q : ℕ) (first : min (word it 13) 20 ≡ suc (suc q)) where
      d : DataOk it
      d = is_data it h kind

      abbrev front : List ℕ
      front = count ∷ (1101 ∷ take q ws)

      long : 14 ≤ q
      long = omega (arith, d.counts.lprol.least_is)

      room : q ≤ length ws
      room = omega (arith, d.sum)

      -- the counts stand where they stood, where m words behind the first two are kept
      counts-at : (m : ℕ) → 14 ≤ m → counts_of (count ∷ (1101 ∷ take m ws)) ≡ counts_of it
      counts-at m k = rw (get_or-take m ws 10 0 (omega arith), get_or-take m ws 11 0 (omega arith), get_or-take m ws 12 0 (omega arith), get_or-take m ws 13 0 (omega arith))

      counts-in : counts_in num (count ∷ (1101 ∷ take 14 ws)) ≡ passed (count ∷ (1101 ∷ take 14 ws))
      unfolding counts_in
      counts-in =
          ap (λ c. if ltb (in_range c) 4 then refused (answer 27 num (column_of (12 + in_range c)) 0) else passed (count ∷ (1101 ∷ take 14 ws))) (counts-at 14 (omega arith))
          ∙ simp (ok_range (counts_of it) d.counts)

      plan-line : head_line num held (counts front) ≡ gives (take (suc (suc q)) it) (map fields (drop 1 (data_plan it)))
      unfolding data_room
      plan-line =
          let n = data-count it (ap (λ k. eqb k 1002) kind) in
          ap (λ c. onward (data_room num held count c) (λ _. gives (words_needed c ∷ (1002 ∷ take q ws)) (map fields (drop 1 (plan c))))) (counts-at q long)
          ∙ rw (← d.sum)
          (simp (le-ltb most_record_words (held + length it) fits, eq-eqb count (lines_needed (counts_of it)) n)
          (ap₂ (λ (x y : ℕ). gives (x ∷ (y ∷ take q ws)) (map fields (drop 1 (data_plan it)))) (sym h.total) (sym kind)))

      -- the fields behind the counts
      behind-counts : take 14 ws ++ take (suc (suc q) - 16) (drop 14 (take q ws)) ≡ take q ws
      behind-counts =
          rw (← take-take 14 q ws long, ← take-add 14 (suc (suc q) - 16) (take q ws))
          (take_all (14 + (suc (suc q) - 16)) (take q ws) (omega (arith, long, length-take q ws)))

      -- it gives its words, and the other lines of the plan are still to come
      pub data-given : (l : Line) → SpellsAll l 0 front → Blanks (drop (6 * suc (suc q)) l) → in_state num held [] l ≡ gives (take (suc (suc q)) it) (map fields (drop 1 (data_plan it)))
      unfolding first_line first_fields kind_fields data_fields count_fields prologue_fields
      data-given line spells blank =
          let g = long in
          let l : length front ≡ suc (suc q) = omega (arith, length-take-le q ws room) in
          let e : min (get_or (take 14 ws) 10 0) 20 ≡ suc (suc q) = ap (λ k. min k 20) (get_or-take 14 ws 10 0 (omega arith)) ∙ first in
          is_first-line num held line count spells.0
          ∙ rw (
            numbers_back num line front spells 0 12 (omega arith),
            numbers_back num line front spells 12 4 (omega arith),
            ← take-add 10 4 (take q ws),
            take-take 14 q ws g,
            counts-in,
            e,
            numbers_back num line front spells 16 (suc (suc q) - 16) (omega arith),
            blank_back num line (6 * suc (suc q)) blank,
            behind-counts,
          ) plan-line
