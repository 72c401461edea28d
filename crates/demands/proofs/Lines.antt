-- The promises of the text hold.
use Rattle.record.proofs.Values.{is_data}
use mathlib.Core.Path.{◌≡◌, refl, sym, ap, ap₂, subst, ◌∙◌}
use mathlib.Core.Logic.{◌⊎◌}
use mathlib.Core.Bool.{Bool, true, false}
use mathlib.Core.List.{List, [], ◌∷◌, ◌++◌, append_assoc, append-nil}
use Prim.Native.Nat.{ℕ, zero, suc, ◌+◌, ◌-◌, ◌*◌, ◌/◌, ◌%◌, ◌≤◌, ◌<◌}
use native.Mathlib.Omega.{arith}
use borrow.Author.Tests.{ltb-true, ltb-false}
use lib.Dec.{ltb, eqb}
use lib.ListN.{length, get_or, take, drop, set, replicate, length-append, length-take, length-drop, length-replicate}
use lib.Seq.{sets, sets-eq, length-sets, drop-length, set-get_or, get_or-set_other, take-set-le, take-set-lt, drop-set-lt, drop-set-add, length-take-le}
use Rattle.std.specs.Prelude.{if◌then◌else◌}
use Rattle.words.specs.Words.{word, joined, All, Below, most_record_words}
use Rattle.words.proofs.Lists.{all_append, all_replicate}
use Rattle.words.proofs.Laws.{length_bytes_of}
use Rattle.words.proofs.Sealing.{slice-sets}
use Rattle.words.proofs.Stores.{sets_left, sets_right, sets_outside}
use Rattle.counts.specs.declared.Counts.{Counts}
use Rattle.counts.specs.Counts.{counts_of, lines_needed}
use Rattle.record.specs.Lines.{line_count}
use Rattle.record.specs.Rules.{KindOk, catalogue, header, data_record, RecordOk}
use Rattle.block.specs.Rules.{block_of, IsBlock}
use Rattle.block.proofs.Exact.{every_good, its_records}
use Rattle.field.specs.Writing.{field_of}
use Rattle.field.proofs.Written.{length_field_of}
use Rattle.write_parts.specs.Laid.{fields_of, laid, card_lines, ended}
use Rattle.counts.proofs.FourCounts.{counts_set}
use Rattle.line_plan.specs.Plan.{shorter, part, times, plan, data_plan, shown_words}
use Rattle.write_parts.proofs.Turns.{length_fields_of}
use Rattle.line_plan.proofs.Plans.{fields_in, length-plan, fields_in-plan}
use Rattle.write_lines.specs.Lines.{lines_of}
use Rattle.write_lines.specs.Text.{text_of}
use Rattle.write_lines.specs.Columns.{ends_before, columns_before}
use Rattle.write_lines.proofs.Sizes.{record_sized, text_bound, data-count, data-size, data-lines, cards-lines, data_is}
use Rattle.demands.specs.Lines.{LineCount, LineWidth, TextBound, longest, TextReached, Shows, Outside, SameAt, WordStands, SixColumns}

pub line-count : LineCount
line-count r h = (record_sized r h).lines

pub text_most : TextBound
text_most = text_bound

-- ---- widths

abbrev Narrow : ℕ → Type 0
Narrow n = n ≤ 20

part_narrow : (n : ℕ) → All Narrow (part n)
unfolding part
part_narrow n = all_append Narrow (replicate (n / 20) 20) (shorter (n % 20)) (full (n / 20)) (rest (n % 20) (omega arith))
  where
    full : (k : ℕ) → All Narrow (replicate k 20)
    full zero = tt
    full (suc k) = (omega arith, full k)

    rest : (k : ℕ) → k ≤ 20 → All Narrow (shorter k)
    rest zero h = tt
    rest (suc k) h = (h, tt)

times_narrow : (k n : ℕ) → All Narrow (times k (part n))
unfolding times
times_narrow zero n = tt
times_narrow (suc k) n = all_append Narrow (part n) (times k (part n)) (part_narrow n) (times_narrow k n)

plan_narrow : (c : Counts) → All Narrow (plan c)
unfolding plan
plan_narrow c =
    all_append Narrow (part c.lprol) _ (part_narrow c.lprol) (all_append Narrow (times 2 (part c.jpar)) _ (times_narrow 2 c.jpar) (times_narrow (c.nrow + 1) c.mpar))

fields_width : (n : ℕ) (ws : List ℕ) → n ≤ 20 → length (fields_of (take n ws)) ≤ 120
fields_width n ws h = omega (arith, length_fields_of (take n ws), length-take n ws)

laid_width : (ns ws : List ℕ) → All Narrow ns → All (λ l. length l ≤ 120) (laid ns ws)
unfolding laid
laid_width [] ws h = tt
laid_width (n ∷ ns) ws h = (fields_width n ws h.0, laid_width ns (drop n ws) h.1)

cards_width : (n : ℕ) (ws : List ℕ) → All (λ l. length l ≤ 120) (card_lines n ws)
unfolding card_lines
cards_width zero ws = tt
cards_width (suc n) ws = (omega (arith, length_bytes_of (take 40 ws), length-take 40 ws), cards_width n (drop 40 ws))

pub line_width : LineWidth
line_width r h = by h.kind
  where
    cards : eqb (word r 2) 1002 ≡ false → All (λ l. length l ≤ 120) (lines_of r)
    cards e = rw (cards-lines r e) (fields_width 20 (shown_words r) (omega arith), cards_width (line_count r - 1) (drop 40 r))

    by : KindOk r → All (λ l. length l ≤ 120) (lines_of r)
    by (catalogue e c) = cards (ap (λ k. eqb k 1002) e)
    by (header e c) = cards (ap (λ k. eqb k 1002) e)
    by (data_record e d) = rw (data-lines r (ap (λ k. eqb k 1002) e)) (laid_width (data_plan r) (shown_words r) (plan_narrow (counts_of r)))

-- ---- the largest text

-- a record with these counts has that text
reached : (r : List ℕ) → RecordOk r → word r 2 ≡ 1002 → word r 13 ≡ 16 → word r 14 ≡ 0 → word r 15 ≡ 1 → word r 16 ≡ 7981 → length (text_of (r ∷ [])) ≡ 55971
unfolding text_of line_count
reached r h kind l j m n =
    let z = record_sized r h in
    let e = ap (λ k. eqb k 1002) kind in
    let d = is_data r h kind in
    let k : length r ≡ most_record_words = d.sum ∙ rw (l, j, m, n) refl in
    let c : line_count r ≡ 7983 = data-count r e ∙ rw (l, j, m, n) refl in
    omega (arith, length-append (ended (lines_of r)) [], z.bytes, data-size r e)

-- the record, with any words behind its counts
abbrev with_values : List ℕ → List ℕ
with_values vs = 7998 ∷ 1002 ∷ replicate 10 0 ++ (16 ∷ 0 ∷ 1 ∷ 7981 ∷ vs)

abbrev Word : ℕ → Type 0
Word w = w < 65536

values_ok : (vs : List ℕ) → length vs ≡ 7982 → Below 65536 vs → RecordOk (with_values vs)
values_ok vs h b =
    let l : length (with_values vs) ≡ most_record_words = omega arith in
    record {
      total = sym l;
      kind = data_record refl (record {
        counts = record { lprol = omega arith; jpar = omega arith; mpar = omega arith; nrow = omega arith };
        sum = l;
      });
      sized = all_append Word (7998 ∷ 1002 ∷ replicate 10 0) (16 ∷ 0 ∷ 1 ∷ 7981 ∷ vs) (omega arith, (omega arith, all_replicate Word 10 0 (omega arith))) (omega arith, (omega arith, (omega arith, (omega arith, b))));
    }

longest_ok : RecordOk longest
unfolding longest
longest_ok = values_ok (replicate 7982 0) (length-replicate {A = ℕ} 7982 0) (all_replicate Word 7982 0 (omega arith))

longest-text : length (text_of (longest ∷ [])) ≡ 55971
unfolding longest
longest-text = reached (with_values (replicate 7982 0)) longest_ok refl refl refl refl refl

longest_long : length longest ≡ most_record_words
unfolding longest
longest_long = omega (arith, length-replicate {A = ℕ} 7982 0)

longest_block : IsBlock (block_of (longest ∷ [])) (longest ∷ [])
unfolding joined
longest_block = record { bytes = refl; each = (longest_ok, tt); some = omega arith; most = omega (arith, longest_long, length-append longest []) }

pub text_reached : TextReached
text_reached =
    let b = block_of (longest ∷ []) in
    (record { count = 1; is = every_good b (longest ∷ []) longest_block }, ap (λ rs. length (text_of rs)) (its_records b (longest ∷ []) longest_block) ∙ longest-text)

-- ---- one word changed

-- a word of a line
fields_set : (ws : List ℕ) (j v : ℕ) → j < length ws → fields_of (set ws j v) ≡ sets (fields_of ws) (6 * j) (field_of v)
unfolding fields_of
fields_set [] j v h = absurd (omega arith)
fields_set (w ∷ ws) zero v h =
    let l = length_field_of v in
    let m = length_field_of w in
    sym (sets_left (field_of v) (field_of w) (fields_of ws) 0 (omega arith) ∙ ap (λ t. t ++ fields_of ws) (over (field_of v) (field_of w) (omega arith)))
  where
    over : (vs xs : List ℕ) → length vs ≡ length xs → sets xs 0 vs ≡ vs
    over vs xs e =
        let n : 0 + length vs ≡ length xs = omega arith in
        sets-eq vs xs 0 (omega arith) ∙ ap (λ k. vs ++ drop k xs) n ∙ ap (λ t. vs ++ t) (drop-length xs) ∙ append-nil vs
fields_set (w ∷ ws) (suc j) v h =
    let e : 6 * suc j ≡ length (field_of w) + 6 * j = omega (arith, length_field_of w) in
    ap (λ t. field_of w ++ t) (fields_set ws j v (omega arith))
    ∙ sym (ap (λ k. sets (field_of w ++ fields_of ws) k (field_of v)) e ∙ sets_right (field_of v) (field_of w) (fields_of ws) (6 * j))

-- a word on its line
laid-set : (ns ws : List ℕ) (j v : ℕ) → j < fields_in ns → fields_in ns ≤ length ws
    → ended (laid ns (set ws j v)) ≡ sets (ended (laid ns ws)) (6 * j + ends_before ns j) (field_of v)
unfolding ended laid fields_in ends_before
laid-set [] ws j v h k = absurd (omega arith)
laid-set (n ∷ ns) ws j v h k = by (ltb j n) refl (laid-set ns (drop n ws) (j - n) v)
  where
    line : List ℕ
    line = fields_of (take n ws)

    others : List ℕ
    others = ended (laid ns (drop n ws))

    size : length line ≡ 6 * n
    size = length_fields_of (take n ws) ∙ ap (λ k. 6 * k) (length-take-le n ws (omega arith))

    by : (t : Bool) → ltb j n ≡ t
        → (j - n < fields_in ns → fields_in ns ≤ length (drop n ws) → ended (laid ns (set (drop n ws) (j - n) v)) ≡ sets others (6 * (j - n) + ends_before ns (j - n)) (field_of v))
        → fields_of (take n (set ws j v)) ++ (10 ∷ ended (laid ns (drop n (set ws j v))))
        ≡ sets (line ++ (10 ∷ others)) (6 * j + (if t then 0 else suc (ends_before ns (j - n)))) (field_of v)
    by true e ih =
        let l = ltb-true j n e in
        let z : 6 * j + 0 ≡ 6 * j = omega arith in
        ap₂ (λ (a b : List ℕ). fields_of a ++ (10 ∷ ended (laid ns b))) (take-set-lt n ws j v l) (drop-set-lt n ws j v l)
        ∙ ap (λ t. t ++ (10 ∷ others)) (fields_set (take n ws) j v (omega (arith, length-take-le n ws (omega arith))))
        ∙ sym (ap (λ k. sets (line ++ (10 ∷ others)) k (field_of v)) z ∙ sets_left (field_of v) line (10 ∷ others) (6 * j) (omega (arith, size, length_field_of v)))
    by false e ih =
        let l = ltb-false j n e in
        let p : n + (j - n) ≡ j = omega arith in
        let q : drop n (set ws j v) ≡ set (drop n ws) (j - n) v = ap (λ i. drop n (set ws i v)) (sym p) ∙ drop-set-add n ws (j - n) v in
        let i = ih (omega arith) (omega (arith, length-drop n ws)) in
        let s : 6 * j + suc (ends_before ns (j - n)) ≡ length (line ++ (10 ∷ [])) + (6 * (j - n) + ends_before ns (j - n)) = omega (arith, size, length-append line (10 ∷ [])) in
        ap₂ (λ (a b : List ℕ). fields_of a ++ (10 ∷ ended (laid ns b))) (take-set-le n ws j v l) q
        ∙ ap (λ t. line ++ (10 ∷ t)) i
        ∙ sym (append_assoc line (10 ∷ []) (sets others (6 * (j - n) + ends_before ns (j - n)) (field_of v)))
        ∙ sym (
        ap₂ (λ (t : List ℕ) (k : ℕ). sets t k (field_of v)) (sym (append_assoc line (10 ∷ []) others)) s
        ∙ sets_right (field_of v) (line ++ (10 ∷ [])) others (6 * (j - n) + ends_before ns (j - n))
        )

ends_le : (ns : List ℕ) (j : ℕ) → ends_before ns j ≤ length ns
unfolding ends_before
ends_le [] j = omega arith
ends_le (n ∷ ns) j = by (ltb j n) (ends_le ns (j - n))
  where
    by : (t : Bool) → ends_before ns (j - n) ≤ length ns → (if t then 0 else suc (ends_before ns (j - n))) ≤ suc (length ns)
    by true h = omega arith
    by false h = omega arith

-- a word of a Data record behind its counts
module _ (r : List ℕ) (h : RecordOk r) (kind : word r 2 ≡ 1002) (j v : ℕ) (low : 16 ≤ j) (high : j < length r) where
  kind_same : word (set r j v) 2 ≡ 1002
  kind_same = get_or-set_other r j 1 v 0 (λ e. omega arith) ∙ kind

  plan_same : data_plan (set r j v) ≡ data_plan r
  plan_same = ap plan (counts_set r j v low)

  count_same : line_count (set r j v) ≡ line_count r
  count_same =
      data-count (set r j v) (ap (λ k. eqb k 1002) kind_same)
      ∙ ap lines_needed (counts_set r j v low) ∙ sym (data-count r (ap (λ k. eqb k 1002) kind))

  abbrev head : List ℕ → List ℕ
  head t = line_count r ∷ (1101 ∷ t)

  shown_set : head (drop 2 (set r j v)) ≡ set (head (drop 2 r)) j v
  shown_set =
      let p : 2 + (j - 2) ≡ j = omega arith in
      let q : j ≡ suc (suc (j - 2)) = omega arith in
      ap (λ i. head (drop 2 (set r i v))) (sym p)
      ∙ ap head (drop-set-add 2 r (j - 2) v)
      ∙ ap (λ i. set (head (drop 2 r)) i v) (sym q)

  record_set : ended (lines_of (set r j v)) ≡ sets (ended (lines_of r)) (columns_before r j) (field_of v)
  record_set =
      let d = is_data r h kind in
      let f = fields_in-plan (counts_of r) in
      let l : length (head (drop 2 r)) ≡ length r = omega (arith, length-drop 2 r) in
      data_is (set r j v) kind_same
      ∙ ap₂ (λ (ns : List ℕ) (n : ℕ). ended (laid ns (n ∷ (1101 ∷ drop 2 (set r j v))))) plan_same count_same
      ∙ ap (λ ws. ended (laid (data_plan r) ws)) shown_set
      ∙ laid-set (data_plan r) (head (drop 2 r)) j v (omega (arith, d.sum)) (omega (arith, d.sum))
      ∙ ap (λ t. sets t (columns_before r j) (field_of v)) (sym (data_is r kind))

  -- the column lies in the record's text
  column_room : columns_before r j + length (field_of v) ≤ length (ended (lines_of r))
  column_room =
      let e = ap (λ k. eqb k 1002) kind in
      omega (
        arith,
        length_field_of v,
        ends_le (data_plan r) j,
        length-plan (counts_of r),
        data-count r e,
        data-size r e,
        (record_sized r h).bytes,
      )

text-append : (rs ss : List (List ℕ)) → text_of (rs ++ ss) ≡ text_of rs ++ text_of ss
unfolding text_of
text-append [] ss = refl
text-append (r ∷ rs) ss = ap (λ t. ended (lines_of r) ++ t) (text-append rs ss) ∙ sym (append_assoc (ended (lines_of r)) (text_of rs) (text_of ss))

-- a field put into six columns of a text
module _ (t : List ℕ) (at v : ℕ) where
  put_shows : at + 6 ≤ length t → Shows (sets t at (field_of v)) at v
  put_shows h =
      record {
        inside = omega (arith, h, length-sets t at (field_of v));
        columns = slice-sets t (field_of v) at (at + 6) (ap (λ n. at + n) (length_field_of v)) h;
      }

  put_apart : SameAt (λ i. Outside i at) (sets t at (field_of v)) t
  put_apart =
      record {
        size = length-sets t at (field_of v);
        bytes = λ i o. sets_outside t (field_of v) at i (subst (λ n. (i < at) ⊎ (at + n ≤ i)) (sym (length_field_of v)) o);
      }

-- among other records
module _ (before after : List (List ℕ)) (r : List ℕ) (h : RecordOk r) (kind : word r 2 ≡ 1002) (j : ℕ) (low : 16 ≤ j) (high : j < length r) where
  abbrev text : List ℕ → List ℕ
  text q = text_of (before ++ q ∷ after)

  abbrev at : ℕ
  at = length (text_of before) + columns_before r j

  -- the changed word's field is put into its columns
  text-set : (v : ℕ) → text (set r j v) ≡ sets (text r) at (field_of v)
  unfolding text_of
  text-set v =
      text-append before (set r j v ∷ after)
      ∙ ap (λ t. text_of before ++ (t ++ text_of after)) (record_set r h kind j v low high)
      ∙ ap (λ t. text_of before ++ t) (sym (sets_left (field_of v) (ended (lines_of r)) (text_of after) (columns_before r j) (column_room r h kind j v low high)))
      ∙ sym (sets_right (field_of v) (text_of before) (ended (lines_of r) ++ text_of after) (columns_before r j))
      ∙ ap (λ t. sets t at (field_of v)) (sym (text-append before (r ∷ after)))

  -- which lie in the text
  text_room : at + 6 ≤ length (text r)
  unfolding text_of
  text_room =
      omega (
        arith,
        ap length (text-append before (r ∷ after)),
        length-append (text_of before) (text_of (r ∷ after)),
        length-append (ended (lines_of r)) (text_of after),
        column_room r h kind j 0 low high,
        length_field_of 0,
      )

pub six_columns : SixColumns
six_columns before after r h kind j v low high =
    let t = text_of (before ++ r ∷ after) in
    let at = length (text_of before) + columns_before r j in
    rw (text-set before after r h kind j low high v) (put_shows t at v (text_room before after r h kind j low high), put_apart t at v)

-- a word put in where it stands changes nothing
pub word_stands : WordStands
word_stands before after r h kind j low high =
    let v = get_or r j 0 in
    subst (λ q. Shows (text_of (before ++ q ∷ after)) (length (text_of before) + columns_before r j) v) (set-get_or r j 0) (six_columns before after r h kind j v low high).0
