-- What an accepted line gives: what it spells, and the lines of its record still to come.
use mathlib.Core.Path.{◌≡◌, refl, sym, ap, subst, ◌∙◌}
use mathlib.Core.Bool.{not, ◌||◌}
use mathlib.Core.List.{List, [], ◌∷◌, ◌++◌, map}
use Prim.Native.Nat.{ℕ, zero, suc, ◌+◌, ◌-◌, ◌*◌, ◌^◌, ◌≤◌, ◌<◌, min}
use native.Mathlib.Nat.{add-zero}
use native.Mathlib.Omega.{arith}
use borrow.Author.Tests.{ltb-true, ltb-false, eqb-true, not-false, leb-true}
use lib.Dec.{ltb, eqb}
use lib.ListN.{length, get_or, drop, replicate, length-append, length-drop, length-replicate, get_or-append}
use Rattle.units.specs.Answers.{answer, passed, refused}
use Rattle.units.proofs.Verdicts.{or_off}
use Rattle.words.specs.Words.{word, most_record_words}
use Rattle.counts.specs.declared.Counts.{Counts}
use Rattle.counts.specs.Counts.{counts_of, words_needed, lines_needed, in_range}
use Rattle.counts.specs.Rules.{CountsOk}
use Rattle.counts.proofs.FourCounts.{range_ok, counts_append}
use Rattle.line_plan.specs.Plan.{plan, data_plan}
use Rattle.units.specs.Units.{Line}
use Rattle.line_plan.proofs.Plans.{fields_in, part_turn, fields_in-plan}
use Rattle.read_columns.specs.Columns.{plain_line, blank_after, blank_line, column_of, field_numbers, zero_fields}
use Rattle.read_line.proofs.Later.{card_size}
use Rattle.read_first_line.specs.FirstLine.{Shape, card, fields, Read, gives, Head, cards, counts, counts_in, catalogue_fields, header_fields, count_fields, prologue_fields, data_fields, kind_fields, first_fields, cards_room, data_room, head_line, first_line}
use Rattle.read_line.specs.Lines.{later_fields, in_state, read_line}
use Rattle.read_records.specs.Spelled.{Readable, Blanks, SpellsAll, SpellsZero, LineSpells}
use Rattle.units.proofs.Told.{Known, then_known, known_as}
use Rattle.read_records.proofs.Told.{told}
use Rattle.read_records.specs.Cases.{TextRow}
use Rattle.units.proofs.Choosing.{by_test}
use Rattle.read_records.proofs.Columns.{plain_known, all_blank, WordsRead, numbers_known, zeros_known, blank_known}

-- ---- the lines to come

-- the words of a line to come, and of all of them
abbrev pub wide : Shape → ℕ
wide card = 40
wide (fields n) = n

unfoldable pub words_to_come : List Shape → ℕ
words_to_come [] = 0
words_to_come (x ∷ rest) = wide x + words_to_come rest

-- behind the words held, those to come have room in a block
abbrev pub RoomToCome : ℕ → List Shape → Type 0
RoomToCome held rest = held + words_to_come rest ≤ most_record_words

cards_to_come : (n : ℕ) → words_to_come (replicate n card) ≡ 40 * n
unfolding words_to_come
cards_to_come zero = refl
cards_to_come (suc n) = omega (arith, cards_to_come n)

fields_to_come : (ns : List ℕ) → words_to_come (map fields ns) ≡ fields_in ns
unfolding words_to_come fields_in
fields_to_come [] = refl
fields_to_come (n ∷ ns) = ap (λ m. n + m) (fields_to_come ns)

-- ---- what a line gives

-- n fields, and then fields up to 20 that are blank or 0
pub record CardsHead (n shows : ℕ) (l : Line) (head : List ℕ) : Type 0 where
  pub read : WordsRead l 0 n head
  pub says : word head 2 ≡ shows
  pub zeros : (k : ℕ) → n ≤ k → k < 20 → SpellsZero l k

-- the first line of a Catalogue or a Header
pub record CardsFirst (n kind shows : ℕ) (l : Line) (s : Read) : Type 0 where
  pub head : List ℕ
  pub is : CardsHead n shows l head
  pub least : 1 ≤ word head 1
  pub words : s.words ≡ 40 * word head 1 ∷ (kind ∷ drop 2 head) ++ replicate (40 - length head) 0
  pub rest : s.rest ≡ replicate (word head 1 - 1) card

-- fields up to the counts
record CountsHead (l : Line) (head : List ℕ) : Type 0 where
  read : WordsRead l 0 16 head
  says : word head 2 ≡ 1101
  counts : CountsOk (counts_of head)

-- and all fields of the line
pub record DataHead (l : Line) (head : List ℕ) : Type 0 where
  pub read : WordsRead l 0 (min (word head 13) 20) head
  pub blank : Blanks (drop (6 * min (word head 13) 20) l)
  pub says : word head 2 ≡ 1101
  pub counts : CountsOk (counts_of head)

-- the first line of a Data record
pub record DataFirst (l : Line) (s : Read) : Type 0 where
  pub head : List ℕ
  pub is : DataHead l head
  pub lines : word head 1 ≡ lines_needed (counts_of head)
  pub words : s.words ≡ words_needed (counts_of head) ∷ (1002 ∷ drop 2 head)
  pub rest : s.rest ≡ map fields (drop 1 (data_plan head))

-- what the fields of a first line say
data HeadRead (l : Line) : Head → Type 0 where
  catalogue_read : {ws : List ℕ} → CardsHead 12 2101 l ws → HeadRead l (cards 2001 ws)
  header_read : {ws : List ℕ} → CardsHead 15 3101 l ws → HeadRead l (cards 3002 ws)
  data_read : {ws : List ℕ} → DataHead l ws → HeadRead l (counts ws)

pub data FirstRead (l : Line) (s : Read) : Type 0 where
  catalogue_first : CardsFirst 12 2001 2101 l s → FirstRead l s
  header_first : CardsFirst 15 3002 3101 l s → FirstRead l s
  data_first : DataFirst l s → FirstRead l s

-- a record's first line, with `held` words before it: it tells the words of the record, and there is room for them
pub record Opens (held : ℕ) (l : Line) (s : Read) : Type 0 where
  pub first : FirstRead l s
  pub total : word s.words 1 ≡ length s.words + words_to_come s.rest
  pub room : held + word s.words 1 ≤ most_record_words

-- a line between records: a blank line, or a first line
pub data BetweenRecords (held : ℕ) (l : Line) (s : Read) : Type 0 where
  skipped : Blanks l → s.words ≡ [] → s.rest ≡ [] → BetweenRecords held l s
  opens : Opens held l s → BetweenRecords held l s

-- what an accepted line gives, where `rest` was still to come
abbrev pub Given : ℕ → List Shape → Line → Read → Type 0
Given held [] l s = BetweenRecords held l s
Given held (x ∷ rest) l s = (s.rest ≡ rest) × LineSpells x l s.words

-- and row 20 passes it
pub record Taken (held : ℕ) (rest : List Shape) (l : Line) (s : Read) : Type 0 where
  pub readable : Readable l
  pub given : Given held rest l s

-- a line after a record's first has the words of its shape
pub line-wide : (x : Shape) (l : Line) (ws : List ℕ) → LineSpells x l ws → length ws ≡ wide x
line-wide card l ws h = ap length h.0 ∙ card_size l
line-wide (fields n) l ws h = h.0

-- ---- first lines

-- fields, and the fields after them
spells_append : (l : Line) (k : ℕ) (ws vs : List ℕ) → SpellsAll l k ws → SpellsAll l (k + length ws) vs → SpellsAll l k (ws ++ vs)
spells_append l k [] vs h g = rw add-zero at g
spells_append l k (w ∷ ws) vs h g = let e : k + suc (length ws) ≡ suc k + length ws = omega arith in (h.0, spells_append l (suc k) ws vs h.1 (rw e at g))

words-joined : (l : Line) (m n : ℕ) (ws vs : List ℕ) → WordsRead l 0 m ws → WordsRead l m n vs → WordsRead l 0 (m + n) (ws ++ vs)
words-joined l m n ws vs p q =
    let e : m ≡ 0 + length ws = omega (arith, p.count) in
    record { count = omega (arith, length-append ws vs, p.count, q.count); spells = spells_append l 0 ws vs p.spells (rw e at q.spells) }

-- the words of a first line stay where more follow
module _ (r more : List ℕ) (m : ℕ) (size : length r ≡ m) where
  stays : (j : ℕ) → j < m → get_or (r ++ more) j 0 ≡ get_or r j 0
  stays j h = get_or-append r more 0 j (omega arith)

-- a Data record's first line has min LPROL 20 fields
head_on : (l : Line) (r more : List ℕ) → CountsHead l r → WordsRead l 16 (min (word r 13) 20 - 16) more → Blanks (drop (6 * min (word r 13) 20) l) → DataHead l (r ++ more)
head_on l r more h m blank =
    let size = h.read.count in
    let least = h.counts.lprol.least_is in
    let sum : 16 + (min (word r 13) 20 - 16) ≡ min (word r 13) 20 = omega arith in
    let lprol = stays r more 16 size 12 (omega arith) in
    record {
      read = rw lprol (rw sum at (words-joined l 16 (min (word r 13) 20 - 16) r more h.read m));
      blank = rw lprol blank;
      says = stays r more 16 size 1 (omega arith) ∙ h.says;
      counts = subst (λ c. CountsOk c) (sym (counts_append r more (omega arith))) h.counts;
    }

-- the first line of a Data record's plan, and the others
pub plan_turn : (c : Counts) → 0 < c.lprol → plan c ≡ min c.lprol 20 ∷ drop 1 (plan c)
unfolding plan
plan_turn c h = rw (part_turn c.lprol h) refl

module _ (num : ℕ) (hn : num < 2 ^ 24) where
  counts_known : (r : List ℕ) → Known TextRow (λ q. (q ≡ r) × CountsOk (counts_of r)) (counts_in num r)
  unfolding counts_in
  counts_known r =
      let right = in_range (counts_of r) in
      by_test (Known TextRow (λ q. (q ≡ r) × CountsOk (counts_of r))) (ltb right 4) (refused (answer 27 num (column_of (12 + right)) 0)) (passed r)
      (λ t. told 27 num (column_of (12 + right)) (omega arith) hn (omega (arith, ltb-true right 4 t)))
      (λ t. (refl, range_ok (counts_of r) (ltb-false right 4 t)))

  -- ---- the fields of a first line

  module _ (l : Line) where
    module _ (head : List ℕ) (read : WordsRead l 0 12 head) where
      catalogue-known : word head 2 ≡ 2101 → Known TextRow (HeadRead l) (catalogue_fields num l head)
      unfolding catalogue_fields
      catalogue-known e =
          then_known TextRow (λ _. (k : ℕ) → 12 ≤ k → k < 20 → SpellsZero l k) (HeadRead l) (zero_fields num l 12 8) _ (zeros_known num hn l 12 8 (omega arith))
          (λ _ z. catalogue_read (record { read = read; says = e; zeros = z }))

      header-known : word head 2 ≡ 3101 → Known TextRow (HeadRead l) (header_fields num l head)
      unfolding header_fields
      header-known e =
          then_known TextRow (WordsRead l 12 3) (HeadRead l) (field_numbers num l 12 3) _ (numbers_known num hn l 12 3 (omega arith))
          (λ more m. then_known TextRow (λ _. (k : ℕ) → 15 ≤ k → k < 20 → SpellsZero l k) (HeadRead l) (zero_fields num l 15 5) _ (zeros_known num hn l 15 5 (omega arith))
          (λ _ z. header_read (record { read = words-joined l 12 3 head more read m; says = stays head more 12 read.count 1 (omega arith) ∙ e; zeros = z })))

      count-fields-known : word head 2 ≡ 1101 → Known TextRow (CountsHead l) (count_fields num l head)
      unfolding count_fields
      count-fields-known e =
          then_known TextRow (WordsRead l 12 4) (CountsHead l) (field_numbers num l 12 4) _ (numbers_known num hn l 12 4 (omega arith))
          (λ more m. known_as TextRow (λ q. (q ≡ head ++ more) × CountsOk (counts_of (head ++ more))) (CountsHead l) (counts_in num (head ++ more)) (counts_known (head ++ more))
          (λ q c. rw c.0 (record { read = words-joined l 12 4 head more read m; says = stays head more 12 read.count 1 (omega arith) ∙ e; counts = c.1 })))

    prologue-known : Readable l → (r : List ℕ) → CountsHead l r → Known TextRow (HeadRead l) (prologue_fields num l r)
    unfolding prologue_fields
    prologue-known e r h =
        let used = min (word r 13) 20 in
        then_known TextRow (WordsRead l 16 (used - 16)) (HeadRead l) (field_numbers num l 16 (used - 16)) _ (numbers_known num hn l 16 (used - 16) (omega arith))
        (λ more m. then_known TextRow (λ _. Blanks (drop (6 * used) l)) (HeadRead l) (blank_after num l (6 * used)) _ (blank_known num hn l (6 * used) e (omega arith))
        (λ _ b. data_read (head_on l r more h m b)))

    kind-known : Readable l → (head : List ℕ) → WordsRead l 0 12 head → Known TextRow (HeadRead l) (kind_fields num l head)
    unfolding kind_fields data_fields
    kind-known e head read =
        by_test (Known TextRow (HeadRead l)) (eqb (word head 2) 2101) (catalogue_fields num l head) _ (λ t. catalogue-known head read (eqb-true (word head 2) 2101 t))
        (λ _. by_test (Known TextRow (HeadRead l)) (eqb (word head 2) 3101) (header_fields num l head) _ (λ t. header-known head read (eqb-true (word head 2) 3101 t))
        (λ _. by_test (Known TextRow (HeadRead l)) (eqb (word head 2) 1101) (data_fields num l head) (refused (answer 23 num 7 0))
        (λ t. then_known TextRow (CountsHead l) (HeadRead l) (count_fields num l head) _ (count-fields-known head read (eqb-true (word head 2) 1101 t)) (λ r h. prologue-known e r h))
        (λ _. told 23 num 7 (omega arith) hn (omega arith))))

    first-fields-known : Readable l → Known TextRow (HeadRead l) (first_fields num l)
    unfolding first_fields
    first-fields-known e = then_known TextRow (WordsRead l 0 12) (HeadRead l) (field_numbers num l 0 12) _ (numbers_known num hn l 0 12 (omega arith)) (λ head read. kind-known e head read)

  -- ---- its counts

  module _ (held : ℕ) (l : Line) where
    -- there is room, and the stated line count may stand
    abbrev CardsFit : ℕ → Unit {0} → Type 0
    CardsFit lines _ = (1 ≤ lines) × (held + 40 * lines ≤ most_record_words)

    cards-room-known : (lines : ℕ) → Known TextRow (CardsFit lines) (cards_room num held lines)
    unfolding cards_room
    cards-room-known lines =
        by_test (Known TextRow (CardsFit lines)) (ltb lines 1 || ltb 199 lines) (refused (answer 24 num 1 0)) _ (λ _. told 24 num 1 (omega arith) hn (omega arith))
        (λ t. by_test (Known TextRow (CardsFit lines)) (ltb most_record_words (held + 40 * lines)) (refused (answer 28 num 1 0)) _ (λ _. told 28 num 1 (omega arith) hn (omega arith))
        (λ u. (ltb-false lines 1 (or_off (ltb lines 1) _ t).0, ltb-false most_record_words (held + 40 * lines) u)))

    abbrev DataFits : ℕ → Counts → Unit {0} → Type 0
    DataFits lines c _ = (lines ≡ lines_needed c) × (held + words_needed c ≤ most_record_words)

    data-room-known : (lines : ℕ) (c : Counts) → Known TextRow (DataFits lines c) (data_room num held lines c)
    unfolding data_room
    data-room-known lines c =
        by_test (Known TextRow (DataFits lines c)) (ltb most_record_words (held + words_needed c)) (refused (answer 28 num 1 0)) _ (λ _. told 28 num 1 (omega arith) hn (omega arith))
        (λ t. by_test (Known TextRow (DataFits lines c)) (not (eqb lines (lines_needed c))) (refused (answer 24 num 1 0)) _ (λ _. told 24 num 1 (omega arith) hn (omega arith))
        (λ u. (eqb-true lines (lines_needed c) (not-false _ u), ltb-false most_record_words (held + words_needed c) t)))

    -- the line of a Catalogue or a Header with n fields that may be free
    module _ (n kind shows : ℕ) (low : 2 ≤ n) (high : n ≤ 40) (head : List ℕ) (is : CardsHead n shows l head)
        (of : (s : Read) → CardsFirst n kind shows l s → FirstRead l s) where
      cards-open : 1 ≤ word head 1 → held + 40 * word head 1 ≤ most_record_words
          → Opens held l (record { words = 40 * word head 1 ∷ (kind ∷ drop 2 head) ++ replicate (40 - length head) 0; rest = replicate (word head 1 - 1) card })
      cards-open least room =
          let size = is.read.count in
          let come = cards_to_come (word head 1 - 1) in
          let zeros = length-replicate {A = ℕ} (40 - length head) 0 in
          let forty = length-append (40 * word head 1 ∷ (kind ∷ drop 2 head)) (replicate (40 - length head) 0) in
          record {
            first = of _ (record { head = head; is = is; least = least; words = refl; rest = refl });
            total = omega (arith, length-drop 2 head);
            room = room;
          }

      cards_known : Known TextRow (Opens held l) (head_line num held (cards kind head))
      cards_known = then_known TextRow (CardsFit (word head 1)) (Opens held l) (cards_room num held (word head 1)) _ (cards-room-known (word head 1)) (λ _ r. cards-open r.0 r.1)

    -- the line of a Data record
    module _ (head : List ℕ) (is : DataHead l head) where
      data-open : word head 1 ≡ lines_needed (counts_of head) → held + words_needed (counts_of head) ≤ most_record_words
          → Opens held l (record { words = words_needed (counts_of head) ∷ (1002 ∷ drop 2 head); rest = map fields (drop 1 (plan (counts_of head))) })
      unfolding fields_in
      data-open lines room =
          let least = is.counts.lprol.least_is in
          let size = is.read.count in
          let come = fields_to_come (drop 1 (plan (counts_of head))) in
          let first = ap fields_in (plan_turn (counts_of head) (omega arith)) in
          let all = fields_in-plan (counts_of head) in
          record {
            first = data_first (record { head = head; is = is; lines = lines; words = refl; rest = refl });
            total = omega (arith, length-drop 2 head);
            room = room;
          }

      data-line-known : Known TextRow (Opens held l) (head_line num held (counts head))
      data-line-known =
          then_known TextRow (DataFits (word head 1) (counts_of head)) (Opens held l) (data_room num held (word head 1) (counts_of head)) _ (data-room-known (word head 1) (counts_of head))
          (λ _ r. data-open r.0 r.1)

    head-known : (h : Head) → HeadRead l h → Known TextRow (Opens held l) (head_line num held h)
    head-known (cards kind ws) (catalogue_read c) = cards_known 12 2001 2101 (omega arith) (omega arith) ws c (λ _ f. catalogue_first f)
    head-known (cards kind ws) (header_read c) = cards_known 15 3002 3101 (omega arith) (omega arith) ws c (λ _ f. header_first f)
    head-known (counts ws) (data_read d) = data-line-known ws d

    -- ---- any line

    first-known : Readable l → Known TextRow (Opens held l) (first_line num held l)
    unfolding first_line
    first-known e = then_known TextRow (HeadRead l) (Opens held l) (first_fields num l) _ (first-fields-known l e) (λ h r. head-known h r)

    row-known : Readable l → (n : ℕ) → n ≤ most_record_words → Known TextRow (LineSpells (fields n) l) (later_fields num l n)
    unfolding later_fields
    row-known e n h =
        then_known TextRow (WordsRead l 0 n) (LineSpells (fields n) l) (field_numbers num l 0 n) _ (numbers_known num hn l 0 n (omega arith))
        (λ ws r. then_known TextRow (λ _. Blanks (drop (6 * n) l)) (LineSpells (fields n) l) (blank_after num l (6 * n)) _ (blank_known num hn l (6 * n) e (omega arith))
        (λ _ b. (r.count, r.spells, b)))

    state-known : (rest : List Shape) → RoomToCome held rest → Readable l → Known TextRow (Given held rest l) (in_state num held rest l)
    unfolding in_state words_to_come
    state-known (card ∷ rest) room e =
        then_known TextRow (λ _. Blanks (drop 80 l)) (Given held (card ∷ rest) l) (blank_after num l 80) _ (blank_known num hn l 80 e (omega arith)) (λ _ b. (refl, (refl, b)))
    state-known (fields n ∷ rest) room e =
        then_known TextRow (LineSpells (fields n) l) (Given held (fields n ∷ rest) l) (later_fields num l n) _ (row-known e n (omega arith)) (λ ws r. (refl, r))
    state-known [] room e =
        by_test (Known TextRow (BetweenRecords held l)) (blank_line l) (gives [] []) (first_line num held l) (λ t. skipped (all_blank l (omega (arith, leb-true (length l) _ t))) refl refl)
        (λ _. known_as TextRow (Opens held l) (BetweenRecords held l) (first_line num held l) (first-known e) (λ s o. opens o))

    pub line_known : (rest : List Shape) → RoomToCome held rest → Known TextRow (Taken held rest l) (read_line num held rest l)
    unfolding read_line
    line_known rest room =
        then_known TextRow (λ _. Readable l) (Taken held rest l) (plain_line num l) _ (plain_known num l hn)
        (λ _ e. known_as TextRow (Given held rest l) (Taken held rest l) (in_state num held rest l) (state-known rest room e) (λ s g. record { readable = e; given = g }))
