-- The layout of words on lines, a turn of each writer at a time.
use mathlib.Core.Path.{◌≡◌, refl, sym, ap, ap₂, ◌∙◌}
use mathlib.Core.List.{List, [], ◌∷◌, ◌++◌, map, append_assoc, append-nil}
use Prim.Native.Nat.{ℕ, zero, suc, ◌+◌, ◌-◌, ◌*◌, ◌/◌, ◌≤◌, ◌<◌, min}
use native.Mathlib.Nat.{suc-mul, mul-zero, zero-add, mul-div_cancel}
use native.Mathlib.Numerals.{add-one}
use native.Mathlib.Omega.{arith}
use lib.ListN.{length, get_or, take, drop, length-append, length-drop, drop_of_length-le}
use lib.Seq.{sets, slice, drop-cons, drop-drop, length-slice, length-take-le, take_all, take-append_seam, drop-append_seam}
use Rattle.std.proofs.lemmas.List.{take-append-drop, take-append-le, drop-append-le, take-map, drop-map}
use Rattle.std.specs.Int.{w16, from_be_bytes}
use Rattle.words.specs.Words.{words_of, bytes_of, Below}
use Rattle.words.specs.Writing.{Put}
use Rattle.words.proofs.Lists.{all_take, all_drop}
use Rattle.words.proofs.Laws.{length_words_of, all_below, bytes_words, words_take, words-drop, words-slice}
use Rattle.std.specs.Simd.{first_chunks}
use Rattle.field.specs.Writing.{field_of}
use Rattle.field.proofs.Written.{length_field_of}
use Rattle.units.specs.Units.{Line}
use Rattle.counts.specs.declared.Counts.{Counts}
use Rattle.line_plan.specs.Plan.{part, times, tables, plan}
use Rattle.line_plan.proofs.Plans.{part_turn, fields_in, fields_in-part, fields_in-times}
use Rattle.write_parts.specs.Laid.{fields_of, laid, card_lines, ended, part_text}
use Rattle.words.specs.Words.{pair_words}

pub length_fields_of : (ws : List ℕ) → length (fields_of ws) ≡ 6 * length ws
unfolding fields_of
length_fields_of [] = refl
length_fields_of (w ∷ ws) = omega (arith, length-append (field_of w) (fields_of ws), length_field_of w, length_fields_of ws)

-- the word after k others, and those behind it
pub fields_turn : (ps : List (List ℕ)) (k w : ℕ) (d : List ℕ) → k < length ps → w ≡ from_be_bytes w16 (get_or ps k d)
    → fields_of (drop k (pair_words ps)) ≡ field_of w ++ fields_of (drop (k + 1) (pair_words ps))
unfolding fields_of
fields_turn ps k w d h e =
    let f = from_be_bytes w16 in
    let next : drop k ps ≡ get_or ps k d ∷ drop (k + 1) ps = rw add-one (drop-cons ps k d h) in
    ap fields_of (drop-map f k ps ∙ ap (λ l. map f l) next) ∙ ap₂ (λ v l. field_of v ++ fields_of l) (sym e) (sym (drop-map f (k + 1) ps))

pub no_fields : (ws : List ℕ) (k : ℕ) → length ws ≤ k → fields_of (drop k ws) ≡ []
unfolding fields_of
no_fields ws k h = ap fields_of (drop_of_length-le ws {i = k} h)

-- a line, and the lines behind it
first-line : (n : ℕ) (ns ws : List ℕ) → ended (laid (n ∷ ns) ws) ≡ (fields_of (take n ws) ++ (10 ∷ [])) ++ ended (laid ns (drop n ws))
unfolding ended laid
first-line n ns ws = sym (append_assoc (fields_of (take n ws)) (10 ∷ []) (ended (laid ns (drop n ws))))

-- a part of n words: its first line
line_of : (ws : List ℕ) (n : ℕ) → 0 < n → ended (laid (part n) ws) ≡ (fields_of (take (min n 20) ws) ++ (10 ∷ [])) ++ ended (laid (part (n - min n 20)) (drop (min n 20) ws))
line_of ws n h = ap (λ ns. ended (laid ns ws)) (part_turn n h) ∙ first-line (min n 20) (part (n - min n 20)) ws

-- lists of a known length, one behind the other, are taken apart
cut : (ws vs : List ℕ) (n : ℕ) → n ≡ length ws → (take n (ws ++ vs) ≡ ws) × (drop n (ws ++ vs) ≡ vs)
cut ws vs n e = (rw e (take-append_seam ws vs), rw e (drop-append_seam ws vs))

-- the next line's words, and the others
pub line_turn : (all line others : List ℕ) → all ≡ line ++ others → length line ≡ min 20 (length all) → 0 < length all
    → part_text all ≡ (fields_of line ++ (10 ∷ [])) ++ part_text others
line_turn all line others e sized some =
    let n = length all in
    let two = ap length e ∙ length-append line others in
    let m : min n 20 ≡ length line = omega arith in
    let c = cut line others (min n 20) m in
    let left : n - min n 20 ≡ length others = omega (arith, two) in
    line_of all n some
    ∙ ap (λ ws. (fields_of (take (min n 20) ws) ++ (10 ∷ [])) ++ ended (laid (part (n - min n 20)) (drop (min n 20) ws))) e
    ∙ ap₂ (λ ws vs. (fields_of ws ++ (10 ∷ [])) ++ ended (laid (part (n - min n 20)) vs)) c.0 c.1
    ∙ ap (λ k. (fields_of line ++ (10 ∷ [])) ++ ended (laid (part k) others)) left

pub no_part : (ws : List ℕ) → length ws ≡ 0 → part_text ws ≡ []
unfolding ended laid part
no_part [] e = refl
no_part (w ∷ ws) e = absurd (omega arith)

ended-append : (ls ms : List Line) → ended (ls ++ ms) ≡ ended ls ++ ended ms
unfolding ended
ended-append [] ms = refl
ended-append (l ∷ ls) ms = ap (λ t. l ++ (10 ∷ t)) (ended-append ls ms) ∙ sym (append_assoc l (10 ∷ ended ls) (ended ms))

laid-append : (ns ms ws : List ℕ) → laid (ns ++ ms) ws ≡ laid ns ws ++ laid ms (drop (fields_in ns) ws)
unfolding laid fields_in
laid-append [] ms ws = refl
laid-append (n ∷ ns) ms ws = ap (λ t. fields_of (take n ws) ∷ t) (laid-append ns ms (drop n ws) ∙ ap (λ l. laid ns (drop n ws) ++ laid ms l) (drop-drop (fields_in ns) n ws))

-- lines of n words in all, and what stands behind them
behind : (ns ms ws : List ℕ) (place n : ℕ) → fields_in ns ≡ n
    → ended (laid (ns ++ ms) (drop place ws)) ≡ ended (laid ns (drop place ws)) ++ ended (laid ms (drop (place + n) ws))
behind ns ms ws place n e =
    ap ended (laid-append ns ms (drop place ws))
    ∙ ended-append (laid ns (drop place ws)) (laid ms (drop (fields_in ns) (drop place ws)))
    ∙ ap (λ l. ended (laid ns (drop place ws)) ++ ended (laid ms l)) (ap (λ k. drop k (drop place ws)) e ∙ drop-drop n place ws)

-- lines of all of some words, and lines of those behind them
laid-both : (ns ms ws vs : List ℕ) → fields_in ns ≡ length ws → laid (ns ++ ms) (ws ++ vs) ≡ laid ns ws ++ laid ms vs
unfolding laid fields_in
laid-both [] ms [] vs h = refl
laid-both [] ms (w ∷ ws) vs h = absurd (omega arith)
laid-both (n ∷ ns) ms ws vs h =
    let k : n ≤ length ws = omega arith in
    ap₂ (λ t l. fields_of t ∷ laid (ns ++ ms) l) (take-append-le n ws vs k) (drop-append-le n ws vs k)
    ∙ ap (λ l. fields_of (take n ws) ∷ l) (laid-both ns ms (drop n ws) vs (omega (arith, length-drop n ws)))

-- lines take no more words than they have fields
laid-front : (ns ws : List ℕ) (n : ℕ) → fields_in ns ≡ n → n ≤ length ws → ended (laid ns ws) ≡ ended (laid ns (take n ws))
unfolding laid
laid-front ns ws n e h =
    ap₂ (λ ms l. ended (laid ms l)) (sym (append-nil ns)) (sym (take-append-drop n ws))
    ∙ ap ended (laid-both ns [] (take n ws) (drop n ws) (omega (arith, length-take-le n ws h)) ∙ append-nil (laid ns (take n ws)))

-- the words of some of the pairs
pub words_among : (ps : List (List ℕ)) (f n : ℕ) {ws : List ℕ} → pair_words ps ≡ ws → pair_words (take n (drop f ps)) ≡ take n (drop f ws)
words_among ps f n e =
    let g = from_be_bytes w16 in
    sym (take-map g n (drop f ps)) ∙ ap (take n) (sym (drop-map g f ps) ∙ ap (drop f) e)

-- of a table of `left` rows of w words, the next row's words, and the others
module _ (all row others : List ℕ) (w : ℕ) (e : all ≡ row ++ others) (sized : length row ≡ w) (some : 0 < w) where
  abbrev both : length all ≡ length row + length others
  both = ap length e ∙ length-append row others

  some_left : (left : ℕ) → length all ≡ left * w → 0 < left
  some_left zero h = absurd (omega (arith, both))
  some_left (suc k) h = omega arith

  pub row_whole : (left : ℕ) → length all ≡ left * w → length others ≡ (left - 1) * w
  row_whole left h =
      let k = some_left left h in
      let is : left ≡ suc (left - 1) = omega arith in
      let m = ap (λ n. n * w) is ∙ suc-mul (left - 1) w in
      omega (arith, both)

  pub row_turn : (left : ℕ) → length all ≡ left * w
      → ended (laid (times left (part w)) all) ≡ part_text row ++ ended (laid (times (left - 1) (part w)) others)
  unfolding times
  row_turn left h =
      let k = some_left left h in
      let is : left ≡ suc (left - 1) = omega arith in
      ap₂ (λ m ws. ended (laid (times m (part w)) ws)) is e
      ∙ ap ended (laid-both (part w) (times (left - 1) (part w)) row others (fields_in-part w ∙ sym sized))
      ∙ ended-append (laid (part w) row) (laid (times (left - 1) (part w)) others)
      ∙ ap (λ m. ended (laid (part m) row) ++ ended (laid (times (left - 1) (part w)) others)) (sym sized)

pub no_rows : (ws : List ℕ) (w left : ℕ) → length ws ≡ left * w → length ws < w → ended (laid (times left (part w)) ws) ≡ []
unfolding ended laid times
no_rows ws w zero h e = refl
no_rows ws w (suc k) h e = absurd (omega (arith, suc-mul k w))

-- rows without words take no line
pub no_width : (ws : List ℕ) (n left : ℕ) → n ≡ 0 → ended (laid (times left (part n)) ws) ≡ []
unfolding ended laid part times
no_width ws n zero e = refl
no_width ws n (suc left) e = let ih = no_width ws n left e in rw e (rw e at ih)

-- the first line of a record: its two first fields, and the others
pub head_turn : (a b n : ℕ) (ws : List ℕ) → 2 ≤ n
    → fields_of (take n (a ∷ (b ∷ ws))) ++ (10 ∷ []) ≡ field_of a ++ (field_of b ++ (fields_of (take (n - 2) ws) ++ (10 ∷ [])))
unfolding fields_of
head_turn a b n ws h =
    let e : n ≡ suc (suc (n - 2)) = omega arith in
    ap (λ k. fields_of (take k (a ∷ (b ∷ ws))) ++ (10 ∷ [])) e
    ∙ append_assoc (field_of a) (field_of b ++ fields_of (take (n - 2) ws)) (10 ∷ [])
    ∙ ap (λ t. field_of a ++ t) (append_assoc (field_of b) (fields_of (take (n - 2) ws)) (10 ∷ []))

-- the cards of whole cards' bytes, as words and as they stand in the record
card_chunks : (n m : ℕ) (b : List ℕ) → n ≤ m → m * 80 ≤ length b → Below 256 b → take n (first_chunks 80 m b) ≡ card_lines n (words_of b)
unfolding card_lines
card_chunks zero m b h k below = refl
card_chunks (suc n) zero b h k below = absurd (omega arith)
card_chunks (suc n) (suc m) b h k below =
    let l = length-take-le 80 b (omega arith) in
    let card = sym (bytes_words (take 80 b) (omega arith) (all_take (λ x. x < 256) 80 b below)) ∙ ap bytes_of (words_take 40 b) in
    let others = card_chunks n m (drop 80 b) (omega arith) (omega (arith, length-drop 80 b)) (all_drop (λ x. x < 256) 80 b below) in
    ap₂ ◌∷◌ card (others ∙ ap (card_lines n) (words-drop 40 b))

-- those of a record, from a place on
pub cards_told : (b : List ℕ) (from cards n : ℕ) {s : List ℕ} {chunks : List (List ℕ)} → ((i : ℕ) → get_or b i 0 < 256) → from + 40 * cards ≤ length (words_of b) → n ≡ length (words_of b)
    → s ≡ slice (from * 2) (n * 2) b → chunks ≡ first_chunks 80 (length s / 80) s → take cards chunks ≡ card_lines cards (drop from (words_of b))
cards_told b from cards n {s} {chunks} h fit all e f =
    let ws = words_of b in
    let below = all_below 256 b h in
    let sized : length s ≡ n * 2 - from * 2 = ap length e ∙ length-slice (from * 2) (n * 2) b (omega (arith, all, length_words_of b)) in
    let bytes : Below 256 s = rw e (all_drop (λ x. x < 256) (from * 2) (take (n * 2) b) (all_take (λ x. x < 256) (n * 2) b below)) in
    let words : words_of s ≡ drop from ws = ap words_of e ∙ words-slice from n b ∙ ap (drop from) (take_all n ws (omega (arith, all))) in
    ap (take cards) f ∙ card_chunks cards (length s / 80) s (omega (arith, sized, all)) (omega arith) bytes ∙ ap (card_lines cards) words

-- the next of some texts, and the others
pub text_turn : (texts : List Line) (k : ℕ) → k < length texts → ended (drop k texts) ≡ get_or texts k [] ++ (10 ∷ ended (drop (k + 1) texts))
unfolding ended
text_turn texts k h =
    let next : drop k texts ≡ get_or texts k [] ∷ drop (k + 1) texts = rw add-one (drop-cons texts k [] h) in
    ap ended next

pub no_texts : (texts : List Line) (k : ℕ) → length texts ≤ k → ended (drop k texts) ≡ []
unfolding ended
no_texts texts k h = ap ended (drop_of_length-le texts {i = k} h)

-- a table's rows, told by its length: where it has no columns, their number is nothing
rows_told : (rows n w : ℕ) → 0 < w → n ≡ rows * w → n / w ≡ rows
rows_told rows n w h e = ap (λ k. k / w) e ∙ mul-div_cancel rows h

pub rows_sized : (rows n w : ℕ) → n ≡ rows * w → n ≡ n / w * w
rows_sized rows n zero e = e ∙ mul-zero rows ∙ sym (mul-zero (n / 0))
rows_sized rows n (suc w) e = e ∙ ap (λ r. r * suc w) (sym (rows_told rows n (suc w) (omega arith) e))

pub rows_text : (rows n w : ℕ) (ws : List ℕ) → n ≡ rows * w → ended (laid (times (n / w) (part w)) ws) ≡ ended (laid (times rows (part w)) ws)
rows_text rows n zero ws e = no_width ws 0 (n / 0) refl ∙ sym (no_width ws 0 rows refl)
rows_text rows n (suc w) ws e = ap (λ r. ended (laid (times r (part (suc w))) ws)) (rows_told rows n (suc w) (omega arith) e)

-- a field that was put in, and the place behind it
pub field_put : (out : List ℕ) (to w : ℕ) {out' : List ℕ} → out' ≡ sets out to (field_of w) → Put out to (field_of w) out' (to + 6)
field_put out to w e = record { ends = rw (length_field_of w) refl; bytes = e }

-- the words of a record behind its first two
shown_drop : (a b n : ℕ) (ws : List ℕ) → 2 ≤ n → drop n (a ∷ (b ∷ drop 2 ws)) ≡ drop n ws
shown_drop a b n ws h =
    let e : n ≡ suc (suc (n - 2)) = omega arith in
    let f : 2 + (n - 2) ≡ n = omega arith in
    ap (λ k. drop k (a ∷ (b ∷ drop 2 ws))) e ∙ drop-drop (n - 2) 2 ws ∙ ap (λ k. drop k ws) f

-- the first line of a Data record's prologue, n fields, and the others
pub prologue_text : (lines n : ℕ) (ws : List ℕ) (lprol : ℕ) → 16 ≤ lprol → lprol ≤ length ws → n ≡ min lprol 20 → let shown = lines ∷ (1101 ∷ drop 2 ws) in
    ended (laid (part lprol) shown) ≡ (fields_of (take n shown) ++ (10 ∷ [])) ++ part_text (take (lprol - n) (drop n ws))
prologue_text lines n ws lprol least most e = let shown = lines ∷ (1101 ∷ drop 2 ws) in
    let m = lprol - n in
    let others = drop n ws in
    let room : m ≤ length others = omega (arith, length-drop n ws) in
    line_of shown lprol (omega arith)
    ∙ ap (λ k. (fields_of (take k shown) ++ (10 ∷ [])) ++ ended (laid (part (lprol - k)) (drop k shown))) (sym e)
    ∙ ap (λ l. (fields_of (take n shown) ++ (10 ∷ [])) ++ ended (laid (part m) l)) (shown_drop lines 1101 n ws (omega arith))
    ∙ ap (λ t. (fields_of (take n shown) ++ (10 ∷ [])) ++ t) (laid-front (part m) others m (fields_in-part m) room)
    ∙ ap (λ k. (fields_of (take n shown) ++ (10 ∷ [])) ++ ended (laid (part k) (take m others))) (sym (length-take-le m others room))

module _ (ws : List ℕ) (c : Counts) where
  -- its tables: the 1-D codes and values, the 2-D codes and rows
  pub tables-text : (table end : ℕ) → table ≡ c.lprol + 2 * c.jpar → end ≡ table + (c.nrow + 1) * c.mpar → end ≤ length ws → ended (laid (tables c) (drop c.lprol ws))
      ≡ ended (laid (times 2 (part c.jpar)) (take (table - c.lprol) (drop c.lprol ws))) ++ ended (laid (times (c.nrow + 1) (part c.mpar)) (take (end - table) (drop table ws)))
  tables-text table end e f h =
      let singles = times 2 (part c.jpar) in
      let rows = times (c.nrow + 1) (part c.mpar) in
      behind singles rows ws c.lprol (2 * c.jpar) (fields_in-times 2 c.jpar)
      ∙ ap (λ k. ended (laid singles (drop c.lprol ws)) ++ ended (laid rows (drop k ws))) (sym e)
      ∙ ap₂ ◌++◌ (laid-front singles (drop c.lprol ws) (table - c.lprol) (omega (arith, fields_in-times 2 c.jpar)) (omega (arith, length-drop c.lprol ws)))
      (laid-front rows (drop table ws) (end - table) (omega (arith, fields_in-times (c.nrow + 1) c.mpar)) (omega (arith, length-drop table ws)))

  -- its text: the prologue, then the tables
  pub plan-text : (lines : ℕ) → 16 ≤ c.lprol → let shown = lines ∷ (1101 ∷ drop 2 ws) in
      ended (laid (plan c) shown) ≡ ended (laid (part c.lprol) shown) ++ ended (laid (tables c) (drop c.lprol ws))
  unfolding plan
  plan-text lines least = let shown = lines ∷ (1101 ∷ drop 2 ws) in
      behind (part c.lprol) (tables c) shown 0 c.lprol (fields_in-part c.lprol)
      ∙ ap (λ l. ended (laid (part c.lprol) shown) ++ ended (laid (tables c) l))
      (ap (λ k. drop k shown) (zero-add c.lprol) ∙ shown_drop lines 1101 c.lprol ws (omega arith))
