-- How many lines and bytes a record's text has.
use mathlib.Core.Path.{◌≡◌, refl, sym, ap, ◌∙◌}
use mathlib.Core.Bool.{true, false}
use mathlib.Core.List.{List, [], ◌∷◌, ◌++◌, append_assoc}
use Prim.Native.Nat.{ℕ, zero, suc, ◌+◌, ◌-◌, ◌*◌, ◌/◌, ◌%◌, ◌≤◌}
use native.Mathlib.Nat.{mul-le-mul_right}
use native.Mathlib.Omega.{arith}
use borrow.Author.Tests.{ne_eqb}
use lib.Dec.{eqb}
use lib.ListN.{length, take, drop, length-append, length-drop}
use lib.Seq.{length-take-le}
use Rattle.units.specs.Units.{lines_of_fields}
use Rattle.words.specs.Words.{word, bytes_of, joined, All, Below}
use Rattle.words.proofs.Laws.{length_bytes_of}
use Rattle.counts.specs.Counts.{counts_of, words_needed, lines_needed}
use Rattle.record.specs.Lines.{line_count}
use Rattle.record.specs.Rules.{CardsOk, DataOk, KindOk, catalogue, header, data_record, RecordOk}
use Rattle.block.specs.Judging.{Accepted}
use Rattle.block.specs.Records.{records_of}
use Rattle.block.proofs.Exact.{only_good}
use Rattle.line_plan.specs.Plan.{data_plan, kind_shown, shown_words}
use Rattle.line_plan.proofs.Plans.{fields_in, length-plan, fields_in-plan}
use Rattle.write_parts.specs.Laid.{fields_of, laid, card_lines, ended}
use Rattle.write_parts.proofs.Turns.{length_fields_of}
use Rattle.write_lines.specs.Lines.{lines_of, columns_in}
use Rattle.write_lines.specs.Text.{text_of}

length-laid : (ns ws : List ℕ) → length (laid ns ws) ≡ length ns
unfolding laid
length-laid [] ws = refl
length-laid (n ∷ ns) ws = ap suc (length-laid ns (drop n ws))

length-text : (ns ws : List ℕ) → fields_in ns ≤ length ws → length (ended (laid ns ws)) ≡ 6 * fields_in ns + length ns
unfolding ended laid fields_in
length-text [] ws h = refl
length-text (n ∷ ns) ws h =
    omega (
      arith,
      length-append (fields_of (take n ws)) (10 ∷ ended (laid ns (drop n ws))),
      length_fields_of (take n ws),
      length-take-le n ws (omega arith),
      length-text ns (drop n ws) (omega (arith, length-drop n ws)),
    )

length_cards : (n : ℕ) (ws : List ℕ) → length (card_lines n ws) ≡ n
unfolding card_lines
length_cards zero ws = refl
length_cards (suc n) ws = ap suc (length_cards n (drop 40 ws))

cards_text : (n : ℕ) (ws : List ℕ) → n * 40 ≤ length ws → length (ended (card_lines n ws)) ≡ 81 * n
unfolding ended card_lines
cards_text zero ws h = refl
cards_text (suc n) ws h =
    omega (
      arith,
      length-append (bytes_of (take 40 ws)) (10 ∷ ended (card_lines n (drop 40 ws))),
      length_bytes_of (take 40 ws),
      length-take-le 40 ws (omega arith),
      cards_text n (drop 40 ws) (omega (arith, length-drop 40 ws)),
    )

-- a record's text: the columns of its lines, and their ends
unfoldable pub size_of : List ℕ → ℕ
size_of r = columns_in (word r 2) (length r) + line_count r

-- what is known of a record's lines
pub record Sized (r : List ℕ) : Type 0 where
  pub lines : length (lines_of r) ≡ line_count r
  pub bytes : length (ended (lines_of r)) ≡ size_of r
  pub count_most : line_count r + 15 ≤ length r
  pub size_most : size_of r + 15 ≤ 7 * length r

module _ (r : List ℕ) where
  module _ (e : eqb (word r 2) 1002 ≡ false) where
    cards-count : line_count r ≡ length r / 40
    unfolding line_count
    cards-count = simp e

    cards-size : size_of r ≡ 120 + (length r - 40) * 2 + line_count r
    unfolding size_of
    cards-size = simp e

    pub cards-lines : lines_of r ≡ fields_of (take 20 (shown_words r)) ∷ card_lines (line_count r - 1) (drop 40 r)
    unfolding lines_of
    cards-lines = simp e

    cards-sized : (z : ℕ) → CardsOk z r → Sized r
    unfolding ended
    cards-sized z c =
        let n = cards-count in
        let s = c.size in
        let sh : length (shown_words r) ≡ length r = omega (arith, length-drop 2 r) in
        let l : length (lines_of r) ≡ line_count r = ap length cards-lines ∙ omega (arith, length_cards (line_count r - 1) (drop 40 r)) in
        let t : length (ended (lines_of r)) ≡ size_of r =
        ap (λ ls. length (ended ls)) cards-lines
        ∙ omega (
          arith,
          cards-size,
          length-append (fields_of (take 20 (shown_words r))) (10 ∷ ended (card_lines (line_count r - 1) (drop 40 r))),
          length_fields_of (take 20 (shown_words r)),
          length-take-le 20 (shown_words r) (omega arith),
          cards_text (line_count r - 1) (drop 40 r) (omega (arith, length-drop 40 r)),
        ) in
        record { lines = l; bytes = t; count_most = omega arith; size_most = omega (arith, cards-size) }

  module _ (e : eqb (word r 2) 1002 ≡ true) where
    pub data-count : line_count r ≡ lines_needed (counts_of r)
    unfolding line_count
    data-count = simp e

    pub data-size : size_of r ≡ 6 * length r + line_count r
    unfolding size_of
    data-size = simp e

    pub data-lines : lines_of r ≡ laid (data_plan r) (shown_words r)
    unfolding lines_of
    data-lines = simp e

    data-sized : DataOk r → Sized r
    data-sized d =
        let c = counts_of r in
        let least = d.counts.lprol.least_is in
        let k : length r ≡ words_needed c = d.sum in
        let n = data-count in
        let m : lines_of_fields c.mpar * (c.nrow + 1) ≤ c.mpar * (c.nrow + 1) = mul-le-mul_right (c.nrow + 1) (omega arith) in
        let sh : length (shown_words r) ≡ length r = omega (arith, length-drop 2 r) in
        let f = fields_in-plan c in
        let p = length-plan c in
        let l : length (lines_of r) ≡ line_count r = ap length data-lines ∙ length-laid (data_plan r) (shown_words r) ∙ p ∙ sym n in
        let t : length (ended (lines_of r)) ≡ size_of r =
        ap (λ ls. length (ended ls)) data-lines ∙ omega (arith, data-size, length-text (data_plan r) (shown_words r) (omega arith)) in
        record { lines = l; bytes = t; count_most = omega arith; size_most = omega (arith, data-size) }

pub record_sized : (r : List ℕ) → RecordOk r → Sized r
record_sized r h = by h.kind
  where
    by : KindOk r → Sized r
    by (catalogue e c) = cards-sized r (ap (λ k. eqb k 1002) e) 13 c
    by (header e c) = cards-sized r (ap (λ k. eqb k 1002) e) 16 c
    by (data_record e d) = data-sized r (ap (λ k. eqb k 1002) e) d

-- the size as it is added up
pub size_read : (r : List ℕ) (kind n columns ends : ℕ) → RecordOk r → kind ≡ word r 2 → n ≡ length r → columns ≡ columns_in kind n → ends ≡ line_count r
    → (columns + ends ≡ length (ended (lines_of r))) × (columns + ends ≤ 7 * length r)
unfolding size_of
size_read r kind n columns ends h k e c l = let z = record_sized r h in let same : columns ≡ columns_in (word r 2) (length r) = c ∙ rw (k, e) in
    (omega (arith, z.bytes), omega (arith, z.size_most))

-- a block's text has fewer than seven bytes for each of its record words
pub text_size_most : (rs : List (List ℕ)) → All RecordOk rs → 1 ≤ length rs → length (text_of rs) + 15 ≤ 7 * length (joined rs)
unfolding text_of joined
text_size_most [] h s = absurd (omega arith)
text_size_most (r ∷ []) h s =
    let z = record_sized r h.0 in
    omega (arith, z.bytes, z.size_most, length-append (ended (lines_of r)) [], length-append r [])
text_size_most (r ∷ (q ∷ rs)) h s =
    let z = record_sized r h.0 in
    omega (
      arith,
      z.bytes,
      z.size_most,
      text_size_most (q ∷ rs) h.1 (omega arith),
      length-append (ended (lines_of r)) (text_of (q ∷ rs)),
      length-append r (joined (q ∷ rs)),
    )

-- a Data record's text, and a Catalogue's or a Header's
pub data_is : (r : List ℕ) → word r 2 ≡ 1002 → ended (lines_of r) ≡ ended (laid (data_plan r) (line_count r ∷ (1101 ∷ drop 2 r)))
data_is r e = ap ended (data-lines r (ap (λ k. eqb k 1002) e)) ∙ ap (λ k. ended (laid (data_plan r) (line_count r ∷ (kind_shown k ∷ drop 2 r)))) e

pub cards_are : (r : List ℕ) (lines kind cards : ℕ) → (word r 2 ≡ 1002 → ⊥) → lines ≡ line_count r → kind ≡ kind_shown (word r 2) → cards ≡ line_count r - 1
    → ended (lines_of r) ≡ (fields_of (take 20 (lines ∷ (kind ∷ drop 2 r))) ++ (10 ∷ [])) ++ ended (card_lines cards (drop 40 r))
unfolding ended
cards_are r lines kind cards h l k n =
    rw (l, k, n)
    (ap ended (cards-lines r (ne_eqb (word r 2) 1002 h))
    ∙ sym (append_assoc (fields_of (take 20 (shown_words r))) (10 ∷ []) (ended (card_lines (line_count r - 1) (drop 40 r)))))

-- what a good record is by its kind
pub record Cards (r : List ℕ) : Type 0 where
  pub count : line_count r ≡ length r / 40
  pub least : 40 ≤ length r
  pub whole : length r % 40 ≡ 0

pub is_cards : (r : List ℕ) → RecordOk r → (word r 2 ≡ 1002 → ⊥) → Cards r
is_cards r h ne = by h.kind
  where
    count : line_count r ≡ length r / 40
    count = cards-count r (ne_eqb (word r 2) 1002 ne)

    of : (z : ℕ) → CardsOk z r → Cards r
    of z c = let s = c.size in record { count = count; least = omega arith; whole = omega arith }

    by : KindOk r → Cards r
    by (catalogue f c) = of 13 c
    by (header f c) = of 16 c
    by (data_record f d) = absurd (ne f)

-- "It is never longer than 55,971 bytes"
pub text_bound : (b : List ℕ) → Below 256 b → Accepted b → length (text_of (records_of b)) ≤ 55971
text_bound b h a =
    let g = (only_good b a.count h a.is).0 in
    omega (arith, text_size_most (records_of b) g.each g.some, g.most)

-- the bytes so far, and those of the records that are left
pub record Counted (block : List ℕ) (bytes : ℕ) (rs : List (List ℕ)) : Type 0 where
  pub total : bytes + length (text_of rs) ≡ length (text_of (records_of block))
  pub most : length (text_of (records_of block)) ≤ 55971

-- a record's bytes more
pub counted : {block r : List ℕ} {bytes n : ℕ} {rs : List (List ℕ)} → Counted block bytes (r ∷ rs) → n ≡ length (ended (lines_of r)) → Counted block (bytes + n) rs
unfolding text_of
counted {r = r} {rs = rs} g e = record { total = omega (arith, g.total, e, length-append (ended (lines_of r)) (text_of rs)); most = g.most }
