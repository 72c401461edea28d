-- A record whose lines are all read is good, and its lines spell it.
use mathlib.Core.Path.{◌≡◌, refl, sym, ap, ap₂, subst, ◌∙◌}
use mathlib.Core.List.{List, [], ◌∷◌, ◌++◌, append_assoc, map}
use Prim.Native.Nat.{ℕ, zero, suc, ◌+◌, ◌-◌, ◌*◌, ◌≤◌, ◌<◌, min}
use native.Mathlib.Omega.{arith}
use lib.ListN.{length, get_or, drop, replicate, length-append, length-drop, length-replicate, get_or-append}
use lib.Seq.{take-length, take_at, drop_at, get_or-drop}
use Rattle.words.specs.Words.{word, words_of, All, Below}
use Rattle.words.proofs.Lists.{all_append, all_drop, all_replicate, all_map}
use Rattle.counts.specs.Counts.{counts_of, words_needed, lines_needed}
use Rattle.record.specs.Lines.{line_count}
use Rattle.record.specs.Rules.{CardWord, CardsOk, DataOk, KindOk, catalogue, header, data_record, RecordOk}
use Rattle.counts.specs.Rules.{CountsOk}
use Rattle.field.specs.Reading.{columns}
use Rattle.line_plan.specs.Plan.{plan, data_plan, kind_shown, shown_words}
use Rattle.units.specs.Units.{Line}
use Rattle.write_lines.proofs.Sizes.{is_cards, data-count}
use Rattle.read_first_line.specs.FirstLine.{Shape, card, fields, Read}
use Rattle.read_records.specs.Spelled.{PlainByte, Readable, LineSpells, LinesSpell, no_lines, a_line, CardsSpelled, RecordSpelled, as_catalogue, as_header, as_data}
use Rattle.read_columns.proofs.Columns.{columns-all}
use Rattle.read_records.proofs.Columns.{card_words, spelled_below}
use Rattle.read_records.proofs.Opened.{words_to_come, CardsFirst, DataFirst, FirstRead, catalogue_first, header_first, data_first, Opens, line-wide, plan_turn}

-- ---- the words of lines after a record's first

-- a card's words
card_printed : (l : Line) → Readable l → All CardWord (words_of (columns 80 l 0))
card_printed l h = card_words (columns 80 l 0) (columns-all PlainByte (omega arith) 80 l 0 h.bytes)

line_below : (x : Shape) (l : Line) (ws : List ℕ) → Readable l → LineSpells x l ws → Below 65536 ws
line_below card l ws r h = rw h.0 (all_map CardWord (λ w. w < 65536) (λ w c. omega (arith, c.high_most)) (words_of (columns 80 l 0)) (card_printed l r))
line_below (fields n) l ws r h = spelled_below l 0 ws h.1

-- and of all such lines
lines_below : {xs : List Shape} {ls : List Line} {ws : List ℕ} → LinesSpell xs ls ws → All Readable ls → Below 65536 ws
lines_below no_lines r = tt
lines_below (a_line {x} {l} {vs = vs} ws h on) r = all_append (λ w. w < 65536) ws vs (line_below x l ws r.0 h) (lines_below on r.1)

lines_wide : {xs : List Shape} {ls : List Line} {ws : List ℕ} → LinesSpell xs ls ws → length ws ≡ words_to_come xs
unfolding words_to_come
lines_wide no_lines = refl
lines_wide (a_line {x} {l} {vs = vs} ws h on) = omega (arith, length-append ws vs, line-wide x l ws h, lines_wide on)

cards_printed : (n : ℕ) {ls : List Line} {ws : List ℕ} → LinesSpell (replicate n card) ls ws → All Readable ls → All CardWord ws
cards_printed zero no_lines r = tt
cards_printed (suc n) (a_line {l = l} {vs = vs} ws h on) r = all_append CardWord ws vs (rw h.0 (card_printed l r.0)) (cards_printed n on r.1)

-- ---- a record that is all there

-- as its first line shows it
shown_is : (a kind : ℕ) (head more : List ℕ) → 2 ≤ length head → word head 2 ≡ kind_shown kind
    → line_count (a ∷ (kind ∷ drop 2 head ++ more)) ≡ word head 1 → shown_words (a ∷ (kind ∷ drop 2 head ++ more)) ≡ head ++ more
shown_is a kind [] more h e c = absurd (omega arith)
shown_is a kind (x ∷ []) more h e c = absurd (omega arith)
shown_is a kind (x ∷ (y ∷ hs)) more h e c = ap₂ (λ (p q : ℕ). p ∷ (q ∷ hs ++ more)) c (sym e)

-- a good record, and its lines
pub record WholeRecord (r : List ℕ) (ls : List Line) : Type 0 where
  pub ok : RecordOk r
  pub spelled : RecordSpelled r ls

-- behind its first line these are its lines
module _ (held : ℕ) (l : Line) (s : Read) (o : Opens held l s) (now : List Line) (body : List ℕ) (others : LinesSpell s.rest now body) (clean : All Readable now) where
  -- its first word is their count
  counted : (front : List ℕ) → s.words ≡ front → word front 1 ≡ length (front ++ body)
  counted front e = omega (arith, rw e at o.total, lines_wide others, length-append front body)

  -- and a word
  total_fits : (front : List ℕ) → s.words ≡ front → word front 1 < 65536
  total_fits front e = omega (arith, rw e at o.room)

  -- a Catalogue or a Header
  module _ (z kind shows : ℕ) (low : 3 ≤ z) (high : z ≤ 41) (showing : kind_shown kind ≡ shows) (small : kind < 65536) (other : kind ≡ 1002 → ⊥)
      (f : CardsFirst (z - 1) kind shows l s) where
    abbrev head : List ℕ
    head = f.head

    abbrev zeros : List ℕ
    zeros = replicate (40 - length head) 0

    abbrev shows-front : List ℕ
    shows-front = 40 * word head 1 ∷ (kind ∷ drop 2 head)

    abbrev front : List ℕ
    front = 40 * word head 1 ∷ (kind ∷ drop 2 head) ++ zeros

    abbrev cards-it : List ℕ
    cards-it = front ++ body

    forty : length front ≡ 40
    forty = omega (arith, length-append shows-front zeros, length-drop 2 head, length-replicate {A = ℕ} (40 - length head) 0, f.is.read.count)

    -- the fields are the words that it shows, and the cards its words behind the first 40
    cards-spelled : line_count cards-it ≡ word head 1 → CardsSpelled (z - 1) cards-it l now
    cards-spelled c =
        let count = f.is.read.count in
        let whole = ap (λ t. 40 * word head 1 ∷ (kind ∷ t)) (append_assoc (drop 2 head) zeros body) in
        let shows : shown_words cards-it ≡ head ++ (zeros ++ body) =
        ap (λ q. shown_words q) whole ∙ shown_is (40 * word head 1) kind head (zeros ++ body) (omega arith) (f.is.says ∙ sym showing) (ap line_count (sym whole) ∙ c) in
        record {
          free = rw (shows, take_at head (zeros ++ body) (z - 1) count) f.is.read.spells;
          zeros = f.is.zeros;
          cards = rw (c, drop_at front body 40 forty) (rw f.rest at others);
        }

    cards_ok : CardsOk z cards-it
    cards_ok =
        let least = f.least in
        let c = counted front f.words in
        let count : length shows-front ≡ z - 1 = omega (arith, length-drop 2 head, f.is.read.count) in
        record {
          cards = word head 1 - 1;
          size = omega arith;
          zeros = rw (take_at front body 40 forty, drop_at shows-front zeros (z - 1) count) (all_replicate (λ w. w ≡ 0) (40 - length head) 0 (refl {a = 0}));
          printed = rw (take-length cards-it, drop_at front body 40 forty) (cards_printed (word head 1 - 1) (rw f.rest at others) clean);
        }

    cards-sized : Below 65536 cards-it
    cards-sized =
        let below = all_drop (λ w. w < 65536) 2 head (spelled_below l 0 head f.is.read.spells) in
        let with-zeros = all_append (λ w. w < 65536) (drop 2 head) zeros below (all_replicate (λ w. w < 65536) (40 - length head) 0 (omega arith)) in
        (total_fits front f.words, (small, all_append (λ w. w < 65536) (drop 2 head ++ zeros) body with-zeros (lines_below others clean)))

    cards-done : (CardsOk z cards-it → KindOk cards-it) → (CardsSpelled (z - 1) cards-it l now → RecordSpelled cards-it (l ∷ now)) → WholeRecord (s.words ++ body) (l ∷ now)
    cards-done of spell =
        let ok : RecordOk cards-it = record { total = counted front f.words; kind = of cards_ok; sized = cards-sized } in
        let c = counted front f.words in
        rw f.words (record { ok = ok; spelled = spell (cards-spelled ((is_cards cards-it ok other).count ∙ omega arith)) })

  -- a Data record
  module _ (f : DataFirst l s) where
    abbrev first : List ℕ
    first = f.head

    abbrev needed : ℕ
    needed = words_needed (counts_of first)

    abbrev data-it : List ℕ
    data-it = needed ∷ (1002 ∷ drop 2 first ++ body)

    long : 16 ≤ length first
    long = omega (arith, f.is.read.count, f.is.counts.lprol.least_is)

    -- its words up to 16 stand on its first line
    same : (j : ℕ) → j < 14 → get_or (drop 2 first ++ body) j 0 ≡ get_or first (2 + j) 0
    same j h = get_or-append (drop 2 first) body 0 j (omega (arith, long, length-drop 2 first)) ∙ get_or-drop 2 first j 0

    -- so do its counts
    same_counts : counts_of data-it ≡ counts_of first
    same_counts = rw (same 10 (omega arith), same 11 (omega arith), same 12 (omega arith), same 13 (omega arith))

    data_ok : DataOk data-it
    data_ok =
        let c = counted (needed ∷ (1002 ∷ drop 2 first)) f.words in
        record { counts = subst (λ x. CountsOk x) (sym same_counts) f.is.counts; sum = sym c ∙ ap words_needed (sym same_counts) }

    data-spelled : LinesSpell (map fields (data_plan data-it)) (l ∷ now) (shown_words data-it)
    data-spelled =
        let turn : plan (counts_of data-it) ≡ min (word first 13) 20 ∷ drop 1 (data_plan first) = ap plan same_counts ∙ plan_turn (counts_of first) (omega (arith, f.is.counts.lprol.least_is)) in
        let count : line_count data-it ≡ word first 1 = data-count data-it refl ∙ ap lines_needed same_counts ∙ sym f.lines in
        rw (turn, shown_is needed 1002 first body (omega (arith, long)) f.is.says count)
        (a_line {x = fields (min (word first 13) 20)} first (f.is.read.count, f.is.read.spells, f.is.blank) (rw f.rest at others))

    data-done : WholeRecord (s.words ++ body) (l ∷ now)
    data-done =
        let front : List ℕ = needed ∷ (1002 ∷ drop 2 first) in
        let below = all_drop (λ w. w < 65536) 2 first (spelled_below l 0 first f.is.read.spells) in
        let sized : Below 65536 data-it =
        (total_fits front f.words, (omega arith, all_append (λ w. w < 65536) (drop 2 first) body below (lines_below others clean))) in
        rw f.words (record { ok = record { total = counted front f.words; kind = data_record refl data_ok; sized = sized }; spelled = as_data refl data-spelled })

  by_kind : FirstRead l s → WholeRecord (s.words ++ body) (l ∷ now)
  by_kind (catalogue_first f) = cards-done 13 2001 2101 (omega arith) (omega arith) refl (omega arith) (λ e. omega arith) f (λ c. catalogue refl c) (λ c. as_catalogue refl c)
  by_kind (header_first f) = cards-done 16 3002 3101 (omega arith) (omega arith) refl (omega arith) (λ e. omega arith) f (λ c. header refl c) (λ c. as_header refl c)
  by_kind (data_first f) = data-done f

  -- a good record, spelled by its lines
  pub done : WholeRecord (s.words ++ body) (l ∷ now)
  done = by_kind o.first
