-- Record n of an accepted block: where it stands, and its words.
use mathlib.Core.Path.{◌≡◌, refl, sym, ap, ◌∙◌}
use mathlib.Core.Bool.{Bool, true, false}
use mathlib.Core.List.{List, [], ◌∷◌, ◌++◌}
use Prim.Native.Nat.{ℕ, zero, suc, ◌+◌, ◌-◌, ◌≤◌, ◌<◌}
use native.Mathlib.Nat.{add-zero}
use native.Mathlib.Omega.{arith}
use borrow.Author.Tests.{lt-ltb, le-ltb, eq-eqb, ne_eqb}
use lib.Dec.{eqb-suc-zero, leb-suc-suc}
use lib.ListN.{length, get_or, take, drop, length-append}
use lib.Seq.{split_at}
use Rattle.std.specs.Prelude.{if◌then◌else◌, Option, Some, None, Ok, Err}
use Rattle.std.specs.Option.{ok_or}
use Rattle.units.specs.Answers.{answer, passed, refused}
use Rattle.units.specs.declared.Words.{Words}
use Rattle.words.specs.Words.{words_of, bytes_of, joined, Below, most_words}
use Rattle.words.proofs.Laws.{words_bytes}
use Rattle.record.specs.Rules.{RecordOk}
use Rattle.record.specs.Values.{is_value}
use Rattle.record.proofs.Values.{ValueAt, value_at}
use Rattle.block_steps.specs.Steps.{place_of, find_of, placed, record_at}
use Rattle.block.specs.Judging.{Accepted}
use Rattle.block.specs.Records.{records_of}
use Rattle.block_steps.specs.declared.Place.{Place}
use Rattle.block_steps.proofs.Placed.{others_left, first_left, find_record}
use Rattle.sheet.specs.Sheets.{Entry}
use Rattle.block_value.specs.Places.{record_number, word_number, record_in, no_record}
use Rattle.block_value.specs.declared.Obstacle.{Obstacle}
use Rattle.block_value.specs.declared.Obstacle.TheVariants.{NoSuchRecord}
use Rattle.block_value.specs.Cases.{obstacle_of}
use Rattle.block_value.specs.Exchange.{value_in, value_place}
use Rattle.block_value.proofs.Named.{is_record}

-- of records that stand one after the other: none where there is no such number, or this one behind the others
placed_is : (rs : List (List ℕ)) (at n : ℕ) → placed rs at n ≡ (if no_record rs n then None else place_of (at + length (joined (take (n - 1) rs))) (length (record_in rs n)))
unfolding placed no_record joined
placed_is [] at zero = refl
placed_is [] at (suc n) = simp (eqb-suc-zero n, lt-ltb 0 (suc n) (omega arith))
placed_is (r ∷ rs) at zero = refl
placed_is (r ∷ rs) at (suc zero) = simp (le-ltb (suc (length rs)) 1 (omega arith), add-zero)
placed_is (r ∷ rs) at (suc (suc n)) =
    let i : suc (suc n) - 1 ≡ suc n = omega arith in
    let k : suc n - 1 ≡ n = omega arith in
    let l : at + length (r ++ joined (take n rs)) ≡ at + length r + length (joined (take n rs)) = omega (arith, length-append r (joined (take n rs))) in
    simp (eqb-suc-zero, leb-suc-suc, i, l) (simp (eqb-suc-zero, leb-suc-suc, k) at (placed_is rs (at + length r) (suc n)))

-- where the search has found it
pub record Located (b : List ℕ) (n : ℕ) (place size : Words) : Type 0 where
  pub there : no_record (records_of b) n ≡ false
  pub here : place.0 ≡ 1 + length (joined (take (n - 1) (records_of b)))
  pub words : record_at (words_of b) place.0 ≡ record_in (records_of b) n
  pub ok : RecordOk (record_in (records_of b) n)
  pub within : place.0 + size.0 < length (words_of b)
  pub most : length (words_of b) ≤ most_words

-- what the search hands on, where it finds one
some_found : (p : Option Place) {r : Place} → ok_or p NoSuchRecord ≡ Ok r → p ≡ Some r
some_found (Some x) f = cc
some_found None f = absurd (cc)

module _ (b : List ℕ) (bytes : Below 256 b) (accepted : Accepted b) (n : ℕ) (p : Option Place) (q : p ≡ find_of (words_of b) 1 n) where
  found_is : p ≡ (if no_record (records_of b) n then None else place_of (1 + length (joined (take (n - 1) (records_of b)))) (length (record_in (records_of b) n)))
  found_is = q ∙ find_record b accepted.count bytes accepted.is n ∙ placed_is (records_of b) 1 n

  found_none : p ≡ None → no_record (records_of b) n ≡ true
  found_none e = by (no_record (records_of b) n) _ _ (sym e ∙ found_is)
    where
      by : (t : Bool) (at size : ℕ) → None ≡ (if t then None else place_of at size) → t ≡ true
      by true at size f = refl
      by false at size f = cc

  pub located : {place : Place} → ok_or p NoSuchRecord ≡ Ok place → Located b n place.at place.size
  located {place} e = by (no_record (records_of b) n) refl (sym (some_found p e) ∙ found_is)
    where
      before : List (List ℕ)
      before = take (n - 1) (records_of b)

      by : (t : Bool) → no_record (records_of b) n ≡ t → Some place ≡ (if t then None else place_of (1 + length (joined before)) (length (record_in (records_of b) n))) → Located b n place.at place.size
      by true none f = let z : ◌≡◌ {A = ℕ} 0 1 = cc in absurd (omega arith)
      by false some f =
          let r = record_in (records_of b) n in
          let after = drop (suc (n - 1)) (records_of b) in
          let k = accepted.count in
          let split = split_at (records_of b) (n - 1) [] (omega (arith, is_record (records_of b) n some)) in
          let left = others_left b k bytes accepted.is before (r ∷ after) split in
          let first = first_left left in
          let p : place ≡ record { at = record { 0 = 1 + length (joined before) }; size = record { 0 = length r } } = cc in
          let here : place.at.0 ≡ 1 + length (joined before) = ap (λ (q : Place). q.at.0) p in
          let long : place.size.0 ≡ length r = ap (λ (q : Place). q.size.0) p in
          record {
            there = some;
            here = here;
            words = rw (here, first.found) first.words;
            ok = first.ok;
            within = omega (arith, here, long, first.within);
            most = left.most;
          }

-- there is no such record, and no place
pub no_record_lem : (b : List ℕ) (e : Entry) (v : ℕ) (p : Option Place) → Below 256 b → Accepted b → p ≡ find_of (words_of b) 1 (record_number e) → p ≡ None → refused (answer 41 0 0 0) ≡ value_place (records_of b) e v
unfolding value_place
no_record_lem b e v p bytes accepted q f = rw (found_none b bytes accepted (record_number e) p q f)

-- what the search hands on: no record, as a refusal
pub none_found : (b : List ℕ) (e : Entry) (v : ℕ) (p : Option Place) → Below 256 b → Accepted b → p ≡ find_of (words_of b) 1 (record_number e) → {o : Obstacle} → ok_or p NoSuchRecord ≡ Err o → refused (obstacle_of o) ≡ value_place (records_of b) e v
none_found b e v (Some r) bytes accepted q f = absurd (cc)
none_found b e v None bytes accepted q {o = o} f = let same : NoSuchRecord ≡ o = cc in rw (← same) (no_record_lem b e v None bytes accepted q refl)

-- or the place is in its part of the block
module _ (b part : List ℕ) {n : ℕ} {place size : Words} (l : Located b n place size) (q : part ≡ bytes_of (record_at (words_of b) place.0)) where
  part_is : words_of part ≡ record_in (records_of b) n
  part_is = ap words_of q ∙ words_bytes (record_at (words_of b) place.0) ∙ l.words

  pub part_ok : RecordOk (words_of part)
  part_ok = rw part_is l.ok

  pub part_value : (e : Entry) → record_number e ≡ n → (v : ℕ) → value_in (words_of part) place.0 (word_number e) v ≡ value_place (records_of b) e v
  unfolding value_place
  part_value e m v = rw (m, l.there, ← l.here, part_is)

-- ---- the value in it

-- what the code has found of word w: its number m, whether it is a value, and x, which stands there
module _ (r : List ℕ) (at w v : ℕ) (m : Words) (e : m.0 ≡ w) (t : Bool) (q : t ≡ is_value r m.0) where
  its_test : is_value r w ≡ t
  its_test = cc

  pub value_none : t ≡ false → refused (answer 42 0 0 0) ≡ value_in r at w v
  value_none f = rw (its_test, f)

  module _ (f : t ≡ true) where
    pub value_there : RecordOk r → ValueAt r w
    value_there ok = value_at r w ok (its_test ∙ f)

    module _ (x : ℕ) (g : x ≡ get_or r (m.0 - 1) 0) where
      pub value-differs : (v ≡ x → ⊥) → refused (answer 43 x 0 0) ≡ value_in r at w v
      value-differs n = rw (its_test, f, ← e, ← g, ne_eqb v x n)

      pub value-stands : v ≡ x → passed (at + (m.0 - 1)) ≡ value_in r at w v
      value-stands n = rw (its_test, f, ← e, ← g, eq-eqb v x n)
