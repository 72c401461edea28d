-- The text of amended records: it differs in the amended six columns only, and they show the values that stand.
use mathlib.Core.Path.{◌≡◌, refl, sym, ap, ap₂, subst, ◌∙◌}
use mathlib.Core.List.{List, [], ◌∷◌, ◌++◌, map, append-nil}
use Prim.Native.Nat.{ℕ, zero, suc, ◌+◌}
use native.Mathlib.Omega.{arith}
use lib.ListN.{length, get_or, take, drop, set, length-append}
use lib.Seq.{take_all, split_at, set_split}
use Rattle.words.specs.Words.{All}
use Rattle.words.proofs.Lists.{all_map}
use Rattle.record.specs.Rules.{RecordOk}
use Rattle.write_parts.specs.Laid.{ended}
use Rattle.write_lines.specs.Lines.{lines_of}
use Rattle.write_lines.specs.Text.{text_of}
use Rattle.write_lines.specs.Columns.{columns_before}
use Rattle.sheet.specs.Sheets.{Entry}
use Rattle.block_value.specs.Places.{record_number, new_value, found, with_value, NamesValuePlace}
use Rattle.block_value.proofs.Named.{named_inside}
use Rattle.demands.specs.Lines.{Outside, Shows, SameAt}
use Rattle.demands.specs.Demand3.{put_in, bytes_before}
use Rattle.demands.proofs.Lines.{six_columns, word_stands}
use Rattle.demands.proofs.Values.{Steady, Alike, its, records_before, words_before, steady_columns, named_word, alike_count, alike_record, alike_named}
use Rattle.demands.proofs.Stack.{Stack, put_good, put_alike, total, put_in_good, put_in_alike, stack_named}

-- ---- where the columns are

-- the bytes of a record's text
abbrev text_size : List ℕ → ℕ
text_size r = length (text_of (r ∷ []))

steady_text : Steady text_size
steady_text r j v h = (six_columns [] [] r h.ok h.kind j v h.low h.high).1.size

length-text : (k : ℕ) (rs : List (List ℕ)) → length (text_of (take k rs)) ≡ total (take k (map text_size rs))
unfolding text_of
length-text zero rs = refl
length-text (suc k) [] = refl
length-text (suc k) (r ∷ rs) =
    let t = ended (lines_of r) in
    length-append t (text_of (take k rs)) ∙ ap (λ n. length t + n) (length-text k rs) ∙ ap (λ l. length l + total (take k (map text_size rs))) (sym (append-nil t))

module _ (rs ss : List (List ℕ)) (alike : Alike rs ss) where
  before_same : (k : ℕ) → length (text_of (take k ss)) ≡ length (text_of (take k rs))
  before_same k = length-text k ss ∙ ap (λ l. total (take k l)) (alike ℕ text_size steady_text) ∙ sym (length-text k rs)

  text_size_lem : length (text_of ss) ≡ length (text_of rs)
  text_size_lem =
      let n = length rs in
      ap (λ l. length (text_of l)) (sym (take_all n ss (omega (arith, alike_count rs ss alike)))) ∙ before_same n ∙ ap (λ l. length (text_of l)) (take_all n rs (omega arith))

  column_same : (e : Entry) → bytes_before ss e ≡ bytes_before rs e
  column_same e =
      ap₂ ◌+◌ (before_same (records_before e)) (alike_record rs ss alike (λ r. columns_before r (words_before e)) (steady_columns (words_before e)) (record_number e))

-- ---- one amendment

module _ (rs : List (List ℕ)) (e : Entry) (good : All RecordOk rs) (p : NamesValuePlace rs e) where
  -- the records around it
  around : rs ≡ take (records_before e) rs ++ its rs e ∷ drop (suc (records_before e)) rs
  around = split_at rs (records_before e) [] (named_inside rs e p)

  amended_apart : (v i : ℕ) → Outside i (bytes_before rs e) → get_or (text_of (with_value rs e v)) i 0 ≡ get_or (text_of rs) i 0
  unfolding with_value
  amended_apart v i o =
      let w = named_word rs e good p in
      ap (λ l. get_or (text_of l) i 0) (set_split rs (records_before e) (set (its rs e) (words_before e) v) (named_inside rs e p))
      ∙ (six_columns (take (records_before e) rs) (drop (suc (records_before e)) rs) (its rs e) w.ok w.kind (words_before e) v w.low w.high).1.bytes i o
      ∙ ap (λ l. get_or (text_of l) i 0) (sym around)

  -- the columns show the value
  named_shows : Shows (text_of rs) (bytes_before rs e) (found rs e)
  named_shows =
      let w = named_word rs e good p in
      subst (λ l. Shows (text_of l) (bytes_before rs e) (found rs e)) (sym around)
      (word_stands (take (records_before e) rs) (drop (suc (records_before e)) rs) (its rs e) w.ok w.kind (words_before e) w.low w.high)

-- ---- the stack

stack_outside : (rs : List (List ℕ)) (es : List Entry) → All RecordOk rs → Stack rs es
    → (i : ℕ) → All (λ e. Outside i (bytes_before rs e)) es → get_or (text_of (put_in rs es)) i 0 ≡ get_or (text_of rs) i 0
stack_outside rs [] good s i o = refl
stack_outside rs (e ∷ es) good s i o =
    let v = new_value e in
    let ss = with_value rs e v in
    let column = column_same rs ss (put_alike rs e good s.0) in
    let others = all_map (λ f. Outside i (bytes_before rs f)) (λ f. Outside i (bytes_before ss f)) (λ f q. subst (Outside i) (sym (column f)) q) es o.1 in
    stack_outside ss es (put_good rs e good s.0) s.1 i others
    ∙ amended_apart rs e good s.0.named v i o.0

module _ (rs : List (List ℕ)) (es : List Entry) (good : All RecordOk rs) (s : Stack rs es) where
  pub stack_apart : SameAt (λ i. All (λ e. Outside i (bytes_before rs e)) es) (text_of (put_in rs es)) (text_of rs)
  stack_apart = record { size = text_size_lem rs (put_in rs es) (put_in_alike rs es good s); bytes = stack_outside rs es good s }

  pub stack_shows : All (λ e. Shows (text_of (put_in rs es)) (bytes_before rs e) (found (put_in rs es) e)) es
  stack_shows =
      let ps = put_in rs es in
      let alike = put_in_alike rs es good s in
      all_map (NamesValuePlace rs) (λ e. Shows (text_of ps) (bytes_before rs e) (found ps e))
      (λ e p. subst (λ c. Shows (text_of ps) c (found ps e)) (column_same rs ps alike e) (named_shows ps e (put_in_good rs es good s) (alike_named rs ps alike e p)))
      es (stack_named rs es good s)
