-- The accepted texts are exactly the good ones.
use Rattle.record.proofs.Values.{is_data}
use mathlib.Core.Path.{◌≡◌, refl, sym, ap, ◌∙◌}
use mathlib.Core.List.{List, [], ◌∷◌, ◌++◌, map}
use Prim.Native.Nat.{ℕ, suc, ◌+◌, ◌-◌, ◌≤◌, min}
use native.Mathlib.Omega.{arith}
use borrow.Author.Tests.{le-ltb, ne_eqb}
use lib.ListN.{length, take, drop, replicate, length-append, take-append-drop}
use lib.Seq.{take_at, drop_at}
use Rattle.units.specs.Answers.{passed}
use Rattle.words.specs.Words.{word, joined, All, most_record_words}
use Rattle.words.proofs.Lists.{all_parts}
use Rattle.counts.specs.Counts.{counts_of}
use Rattle.record.specs.Lines.{line_count}
use Rattle.record.specs.Rules.{RecordOk}
use Rattle.block.proofs.Exact.{ok_long}
use Rattle.field.proofs.Exact.{field_read, field_said}
use Rattle.line_plan.specs.Plan.{data_plan, kind_shown, shown_words}
use Rattle.units.specs.Units.{Line}
use Rattle.read_first_line.specs.FirstLine.{Shape, card, fields, gives}
use Rattle.read_line.specs.Lines.{in_state, at_end, read_lines}
use Rattle.read_records.specs.Reading.{read_text}
use Rattle.read_records.specs.Spelled.{Readable, LineSpells, LinesSpell, a_line, RecordSpelled, as_catalogue, as_header, as_data, Spelled, at_text_end, blank_line, a_record}
use Rattle.read_records.proofs.Opened.{plan_turn}
use Rattle.demands.specs.Texts.{FieldsExactly, IsText, TextsExactly}
use Rattle.demands.proofs.Back.{ahead, line_back, skip_back, joins, lines_back}
use Rattle.demands.proofs.FirstLine.{catalogue-given, header-given, data-given}
use Rattle.demands.proofs.Sound.{its-text}

-- ---- a record

-- the first of some lines, and the others
record Apart (x : Shape) (xs : List Shape) (ms : List Line) (ws : List ℕ) : Type 0 where
  line : Line
  lines : List Line
  here : List ℕ
  behind : List ℕ
  are : ms ≡ line ∷ lines
  words : ws ≡ here ++ behind
  spells : LineSpells x line here
  others : LinesSpell xs lines behind

-- where some are to come
apart : {x : Shape} {xs : List Shape} {ms : List Line} {ws : List ℕ} → LinesSpell (x ∷ xs) ms ws → Apart x xs ms ws
apart (a_line {l = l} {ls = ls} {vs = vs} ws h on) = record { line = l; lines = ls; here = ws; behind = vs; are = refl; words = refl; spells = h; others = on }

module _ (num held a b : ℕ) (ws : List ℕ) (ls : List Line) where
  abbrev it : List ℕ
  it = a ∷ (b ∷ ws)

  -- the lines of the record give its words, in front of what the lines behind them give
  abbrev ReadBack : List Line → Type 0
  ReadBack ms = read_lines num held [] (ms ++ ls) ≡ ahead it (read_lines (num + length ms) (held + length it) [] ls)

  module _ (h : RecordOk it) (fits : held + length it ≤ most_record_words) where
    -- its first line gives some of its words, and the others are still to come
    goes_on : (p : ℕ) (xs : List Shape) (l : Line) (ms : List Line) → All Readable (l ∷ ms) → in_state num held [] l ≡ gives (take p it) xs → LinesSpell xs ms (drop p it) → ReadBack (l ∷ ms)
    goes_on p xs l ms r e on =
        line_back num held [] l (ms ++ ls) (take p it) xs r.0 e
        ∙ ap (ahead (take p it)) (lines_back (suc num) (held + length (take p it)) ls on r.1)
        ∙ joins (take p it) (drop p it) it (suc num + length ms) (num + suc (length ms)) held ls (take-append-drop p it) (omega arith)

    -- a Data record: q words behind the first two stand on its first line, and the others on the lines behind it
    module _ (ms : List Line) (r : All Readable ms) (kind : b ≡ 1002) (q : ℕ) (first : min (word it 13) 20 ≡ suc (suc q)) where
      abbrev more : List Shape
      more = map fields (drop 1 (data_plan it))

      from_first : Apart (fields (suc (suc q))) more ms (line_count it ∷ (1101 ∷ ws)) → ReadBack ms
      from_first c =
          let p = suc (suc q) in
          let here : c.here ≡ line_count it ∷ (1101 ∷ take q ws) = sym (ap (take p) c.words ∙ take_at c.here c.behind p c.spells.0) in
          let behind : c.behind ≡ drop q ws = sym (ap (drop p) c.words ∙ drop_at c.here c.behind p c.spells.0) in
          rw c.are
          (goes_on p more c.line c.lines (rw c.are at r)
          (data-given num held a b ws h fits kind q first c.line (rw here at c.spells.1) c.spells.2)
          (rw behind at c.others))

      data_read : LinesSpell (map fields (data_plan it)) ms (shown_words it) → ReadBack ms
      data_read s =
          let turn = plan_turn (counts_of it) (omega (arith, (is_data it h kind).counts.lprol.least_is)) in
          let shows : kind_shown b ≡ 1101 = ap (λ k. kind_shown k) kind in
          from_first (apart (rw (turn, first, shows) at s))

    -- a record of any kind
    record-read : (ms : List Line) → All Readable ms → RecordSpelled it ms → ReadBack ms
    record-read ms r (as_catalogue {l} {ls = ms'} e s) = goes_on 40 (replicate (line_count it - 1) card) l ms' r (catalogue-given num held a b ws h fits (λ f. omega arith) l ms' e s) s.cards
    record-read ms r (as_header {l} {ls = ms'} e s) = goes_on 40 (replicate (line_count it - 1) card) l ms' r (header-given num held a b ws h fits (λ f. omega arith) l ms' e s) s.cards
    record-read ms r (as_data e s) = data_read ms r e (min (word it 13) 20 - 2) (omega (arith, (is_data it h e).counts.lprol.least_is)) s

record_back : (r : List ℕ) (num held : ℕ) (ms ls : List Line) → RecordOk r → held + length r ≤ most_record_words → All Readable ms → RecordSpelled r ms
    → read_lines num held [] (ms ++ ls) ≡ ahead r (read_lines (num + length ms) (held + length r) [] ls)
record_back [] num held ms ls h fits r s = absurd (omega (arith, ok_long [] h))
record_back (a ∷ []) num held ms ls h fits r s = absurd (omega (arith, ok_long (a ∷ []) h))
record_back (a ∷ (b ∷ ws)) num held ms ls h fits r s = record-read num held a b ws ls h fits ms r s

-- ---- a text

-- some records, or records behind words that were read already
spelled_back : {ls : List Line} {rs : List (List ℕ)} (num held : ℕ) → Spelled ls rs → All Readable ls → All RecordOk rs → held + length (joined rs) ≤ most_record_words → 1 ≤ held + length rs
    → read_lines num held [] ls ≡ passed (joined rs)
unfolding read_lines at_end joined
spelled_back num held at_text_end r h fits some = simp (ne_eqb held 0 (λ e. omega arith))
spelled_back num held (blank_line {l} {ls} b s) r h fits some = skip_back num held l ls r.0 b ∙ spelled_back (suc num) held s r.1 h fits some
spelled_back num held (a_record {r = q} {ms} {ls} {rs} k s) r h fits some =
    let l = length-append q (joined rs) in
    let p = all_parts Readable ms ls r in
    record_back q num held ms ls h.0 (omega arith) p.0 k
    ∙ ap (ahead q) (spelled_back (num + length ms) (held + length q) s p.1 h.1 (omega arith) (omega (arith, ok_long q h.0)))

-- every text of good records is accepted, and read as their words
pub text_read : (t : List ℕ) (rs : List (List ℕ)) → IsText t rs → read_text t ≡ passed (joined rs)
unfolding read_text
text_read t rs g =
    simp (le-ltb 65536 (length t) g.size) (spelled_back 1 0 g.spelled g.lines g.each (omega (arith, g.most)) (omega (arith, g.some)))

pub fields_exactly : FieldsExactly
fields_exactly bs w = (λ e. field_said e, λ f. field_read f)

pub texts_exactly : TextsExactly
texts_exactly t ws = (λ e. its-text t ws e, λ g. text_read t g.0 g.1 ∙ ap (λ l. passed l) (sym g.2))
