-- One value of good records amended: what it changes, and what it leaves.
use mathlib.Core.Path.{◌≡◌, refl, sym, ap, subst, ◌∙◌}
use mathlib.Core.Bool.{Bool, true, false, ◌&&◌}
use borrow.Author.Tests.{eqb-true, eqb-false}
use lib.Dec.{eqb}
use mathlib.Core.List.{List, [], map}
use Prim.Native.Nat.{ℕ, ◌+◌, ◌-◌, ◌≤◌, ◌<◌}
use native.Mathlib.Omega.{arith}
use lib.ListN.{length, get_or, set, length-set, length-map, get_or-map}
use lib.Seq.{get_or-set_same, get_or-set_other, set-get_or, set-set, map-set_same}
use Rattle.words.specs.Words.{word, All}
use Rattle.words.proofs.Lists.{all-at, all_set}
use Rattle.units.specs.Units.{columns_of_fields, ends_of_lines}
use Rattle.counts.specs.Counts.{counts_of, words_needed, among_values}
use Rattle.record.specs.Rules.{data_record, RecordOk}
use Rattle.counts.specs.Rules.{CountsOk}
use Rattle.record.specs.Values.{is_value}
use Rattle.counts.proofs.FourCounts.{counts_set}
use Rattle.line_plan.specs.Plan.{plan}
use Rattle.record.proofs.Values.{is_data}
use Rattle.write_lines.specs.Columns.{ends_before, columns_before}
use Rattle.sheet.specs.Sheets.{Entry}
use Rattle.block_value.specs.Places.{record_number, word_number, record_in, found, with_value, NamesValuePlace}
use Rattle.block_value.proofs.Named.{named_inside, named_value}
use Rattle.demands.specs.Demand3.{Elsewhere}

-- ---- a value's word

-- word j + 1 stands behind the counts of a good Data record
pub record ValueWord (r : List ℕ) (j : ℕ) : Type 0 where
  pub ok : RecordOk r
  pub kind : word r 2 ≡ 1002
  pub low : 16 ≤ j
  pub high : j < length r

-- the kind and the counts stay, whatever is put there
module _ (r : List ℕ) (j v : ℕ) (h : ValueWord r j) where
  same_kind : word (set r j v) 2 ≡ word r 2
  same_kind = get_or-set_other r j 1 v 0 (λ e. omega (arith, h.low))

  same_counts : counts_of (set r j v) ≡ counts_of r
  same_counts = counts_set r j v h.low

  -- and the record is good again
  set_ok : v < 65536 → RecordOk (set r j v)
  set_ok fits =
      let d = is_data r h.ok h.kind in
      record {
        total = get_or-set_other r j 0 v 0 (λ e. omega (arith, h.low)) ∙ h.ok.total ∙ sym (length-set r j v);
        kind =
            data_record (same_kind ∙ h.kind)
            (record { counts = subst (λ c. CountsOk c) (sym same_counts) d.counts; sum = length-set r j v ∙ d.sum ∙ ap words_needed (sym same_counts) });
        sized = all_set (λ w. w < 65536) r j v fits h.ok.sized;
      }

-- ---- one amendment

-- what no amendment changes of a record
abbrev pub Steady : {A : Type 0} → (List ℕ → A) → Type 0
Steady f = (r : List ℕ) (j v : ℕ) → ValueWord r j → f (set r j v) ≡ f r

steady_value : (w : ℕ) → Steady (λ r. is_value r w)
unfolding is_value
steady_value w r j v h = rw (same_kind r j v h) (ap (λ c. eqb (word r 2) 1002 && among_values c w) (same_counts r j v h))

pub steady_columns : (i : ℕ) → Steady (λ r. columns_before r i)
steady_columns i r j v h = ap (λ c. columns_of_fields i + ends_of_lines (ends_before (plan c) i)) (same_counts r j v h)

pub steady_size : Steady length
steady_size r j v h = length-set r j v

-- records that nothing of the kind tells from others
abbrev pub Alike : List (List ℕ) → List (List ℕ) → Type 1
Alike rs ss = (A : Type 0) (f : List ℕ → A) → Steady f → map f ss ≡ map f rs

-- the record that an entry names, and how many records and words stand before its value
abbrev pub its : List (List ℕ) → Entry → List ℕ
its rs e = record_in rs (record_number e)

abbrev pub records_before : Entry → ℕ
records_before e = record_number e - 1

abbrev pub words_before : Entry → ℕ
words_before e = word_number e - 1

module _ (rs : List (List ℕ)) (e : Entry) (good : All RecordOk rs) (p : NamesValuePlace rs e) where
  inside : records_before e < length rs
  inside = named_inside rs e p

  pub named_word : ValueWord (its rs e) (words_before e)
  named_word =
      let v = named_value rs e p good in
      record { ok = all-at RecordOk rs (records_before e) [] inside good; kind = v.kind; low = omega (arith, v.low); high = omega (arith, v.low, v.high) }

  module _ (v : ℕ) where
    -- the record with the value in it
    abbrev amended : List ℕ
    amended = set (its rs e) (words_before e) v

    pub amended-good : v < 65536 → All RecordOk (with_value rs e v)
    unfolding with_value
    amended-good fits = all_set RecordOk rs (records_before e) amended (set_ok (its rs e) (words_before e) v named_word fits) good

    pub amended-alike : Alike rs (with_value rs e v)
    unfolding with_value
    amended-alike A f s = map-set_same f rs (records_before e) amended [] (s (its rs e) (words_before e) v named_word)

    its-amended : its (with_value rs e v) e ≡ amended
    unfolding with_value
    its-amended = get_or-set_same rs (records_before e) amended [] inside

    -- the value stands there
    pub amended-found : found (with_value rs e v) e ≡ v
    amended-found = ap (λ r. word r (word_number e)) its-amended ∙ get_or-set_same (its rs e) (words_before e) v 0 named_word.high

    -- and what stood there, put back, gives the records back
    pub put_back : with_value (with_value rs e v) e (found rs e) ≡ rs
    unfolding with_value
    put_back =
        set-set rs (records_before e) amended _
        ∙ ap (λ r. set rs (records_before e) (set r (words_before e) (found rs e))) its-amended
        ∙ ap (set rs (records_before e)) (set-set (its rs e) (words_before e) v (found rs e) ∙ set-get_or (its rs e) (words_before e) 0)
        ∙ set-get_or rs (records_before e) []

-- they are as many, each is the same to such a reading, and they have values at the same places
module _ (rs ss : List (List ℕ)) (alike : Alike rs ss) where
  pub alike_count : length ss ≡ length rs
  alike_count = sym (length-map ss length) ∙ ap length (alike ℕ length steady_size) ∙ length-map rs length

  pub alike_record : {A : Type 0} (f : List ℕ → A) → Steady f → (n : ℕ) → f (record_in ss n) ≡ f (record_in rs n)
  alike_record {A} f s n = sym (get_or-map f ss (n - 1) []) ∙ ap (λ l. get_or l (n - 1) (f [])) (alike A f s) ∙ get_or-map f rs (n - 1) []

  pub alike_value : (n w : ℕ) → is_value (record_in ss n) w ≡ is_value (record_in rs n) w
  alike_value n w = alike_record (λ r. is_value r w) (steady_value w) n

  pub alike_named : (e : Entry) → NamesValuePlace rs e → NamesValuePlace ss e
  alike_named e p = record { least = p.least; most = omega (arith, p.most, alike_count); value = alike_value (record_number e) (word_number e) ∙ p.value }

-- ---- at another place

-- what stands at another place stays
pub other_found : (rs : List (List ℕ)) (e f : Entry) (v : ℕ) → NamesValuePlace rs e → NamesValuePlace rs f → All RecordOk rs → Elsewhere e f → found (with_value rs f v) e ≡ found rs e
unfolding with_value
other_found rs e f v p q good other = by (eqb (record_number f) (record_number e)) refl
  where
    low : 16 ≤ words_before e
    low = (named_word rs e good p).low

    low-f : 16 ≤ words_before f
    low-f = (named_word rs f good q).low

    by : (t : Bool) → eqb (record_number f) (record_number e) ≡ t → found (set rs (records_before f) (set (its rs f) (words_before f) v)) e ≡ found rs e
    by true z =
        let n = eqb-true (record_number f) (record_number e) z in
        let w : words_before e ≡ words_before f → ⊥ = λ m. other n (omega (arith, low, low-f)) in
        rw n
        (ap (λ r. get_or r (words_before e) 0) (get_or-set_same rs (records_before e) (set (its rs e) (words_before f) v) [] (named_inside rs e p))
        ∙ get_or-set_other (its rs e) (words_before f) (words_before e) v 0 w)
    by false z =
        let n = eqb-false (record_number f) (record_number e) z in
        ap (λ r. get_or r (words_before e) 0) (get_or-set_other rs (records_before f) (records_before e) _ [] (λ m. n (omega (arith, p.least, q.least))))
