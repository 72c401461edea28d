-- A record passes exactly where it keeps the rules.
use mathlib.Core.Path.{◌≡◌, sym, ap, subst, ◌∙◌}
use mathlib.Core.Bool.{true}
use mathlib.Core.List.{List, ◌++◌}
use Prim.Native.Nat.{ℕ, ◌+◌, ◌-◌, ◌/◌, ◌%◌, ◌≤◌, ◌<◌}
use native.Mathlib.Omega.{arith}
use borrow.Author.Tests.{leb-true, eqb-true, le-leb, eq-eqb}
use lib.Dec.{leb}
use lib.ListN.{length, take, length-append, get_or-append}
use lib.Seq.{slice, length-take-le, get_or-take, take-take, take-append-le, length-slice}
use Rattle.units.proofs.Verdicts.{and_on}
use Rattle.words.specs.Words.{word, Below}
use Rattle.words.proofs.Lists.{all_take}
use Rattle.words.proofs.Scans.{all_pass, pass_all}
use Rattle.record.specs.Judging.{card_word}
use Rattle.words.specs.Scans.{within, word_within, is_zero}
use Rattle.counts.specs.Counts.{words_needed}
use Rattle.record.specs.Rules.{CardWord, CardsOk, DataOk, KindOk, catalogue, header, data_record, RecordOk}
use Rattle.counts.specs.Rules.{CountsOk}
use Rattle.counts.proofs.FourCounts.{counts_take, counts_append}
use Rattle.record.proofs.Passed.{CardsPassed, DataPassed, RecordPassed, a_catalogue, a_header, a_data}

card_word_lem : (w : ℕ) → card_word w ≡ true → CardWord w
unfolding word_within
card_word_lem w e =
    let a = and_on (within 32 126 (w / 256)) _ e in
    let h = and_on (leb 32 (w / 256)) _ a.0 in
    let l = and_on (leb 32 (w % 256)) _ a.1 in
    record {
      high_least = leb-true 32 (w / 256) h.0;
      high_most = leb-true (w / 256) 126 h.1;
      low_least = leb-true 32 (w % 256) l.0;
      low_most = leb-true (w % 256) 126 l.1;
    }

word_card : (w : ℕ) → CardWord w → card_word w ≡ true
unfolding word_within
word_card w c =
    simp (le-leb 32 (w / 256) c.high_least, le-leb (w / 256) 126 c.high_most, le-leb 32 (w % 256) c.low_least, le-leb (w % 256) 126 c.low_most)

-- ---- from the rest to the record that stands first in it

module _ (rest : List ℕ) (k : ℕ) (room : k ≤ length rest) where
  taken : length (take k rest) ≡ k
  taken = length-take-le k rest room

  cards_ok : (z : ℕ) → 1 ≤ z → z ≤ 41 → CardsPassed z rest k → CardsOk z (take k rest)
  cards_ok z low high c =
      let t = c.right in
      let zs : length (slice (z - 1) 40 rest) ≡ 40 - (z - 1) = length-slice (z - 1) 40 rest (omega arith) in
      let cs : length (slice 40 k rest) ≡ k - 40 = length-slice 40 k rest room in
      record {
        cards = k / 40 - 1;
        size = taken ∙ omega arith;
        zeros = rw (take-take 40 k rest t.least) (all_pass is_zero (λ w. w ≡ 0) (λ w e. eqb-true w 0 e) (slice (z - 1) 40 rest) (omega (arith, c.zeros)));
        printed = rw (taken, take-take k k rest (omega arith)) (all_pass card_word CardWord card_word_lem (slice 40 k rest) (omega (arith, c.cards)));
      }

  data_ok : DataPassed rest k → DataOk (take k rest)
  data_ok c = let same = sym (counts_take k rest c.least) in record { counts = subst (λ x. CountsOk x) same c.counts; sum = taken ∙ c.sum ∙ ap words_needed same }

  first_ok : 2 ≤ k → word rest 1 ≡ k → (word (take k rest) 1 ≡ length (take k rest)) × (word (take k rest) 2 ≡ word rest 2)
  first_ok h e = (get_or-take k rest 0 0 (omega arith) ∙ e ∙ sym taken, get_or-take k rest 1 0 (omega arith))

pub record_ok : (rest : List ℕ) (k : ℕ) → Below 65536 rest → RecordPassed rest k → RecordOk (take k rest)
record_ok rest k b (a_catalogue e c) =
    let f = first_ok rest k c.right.room (omega (arith, c.right.least)) c.total in
    record { total = f.0; kind = catalogue (f.1 ∙ e) (cards_ok rest k c.right.room 13 (omega arith) (omega arith) c); sized = all_take (λ w. w < 65536) k rest b }
record_ok rest k b (a_header e c) =
    let f = first_ok rest k c.right.room (omega (arith, c.right.least)) c.total in
    record { total = f.0; kind = header (f.1 ∙ e) (cards_ok rest k c.right.room 16 (omega arith) (omega arith) c); sized = all_take (λ w. w < 65536) k rest b }
record_ok rest k b (a_data e c) =
    let f = first_ok rest k c.room (omega (arith, c.least)) c.total in
    record { total = f.0; kind = data_record (f.1 ∙ e) (data_ok rest k c.room c); sized = all_take (λ w. w < 65536) k rest b }

-- ---- from a record to a rest in which it stands first

module _ (r tail : List ℕ) (total : word r 1 ≡ length r) where
  wide : length (r ++ tail) ≡ length r + length tail
  wide = length-append r tail

  cards_back : (z : ℕ) → 1 ≤ z → z ≤ 41 → CardsOk z r → CardsPassed z (r ++ tail) (length r)
  cards_back z low high c =
      let w = wide in
      let s = c.size in
      let forty : take 40 (r ++ tail) ≡ take 40 r = take-append-le 40 r tail (omega arith) in
      let whole : take (length r) (r ++ tail) ≡ take (length r) r = take-append-le (length r) r tail (omega arith) in
      let zs : length (slice (z - 1) 40 r) ≡ 40 - (z - 1) = length-slice (z - 1) 40 r (omega arith) in
      let cs : length (slice 40 (length r) r) ≡ length r - 40 = length-slice 40 (length r) r (omega arith) in
      record {
        total = get_or-append r tail 0 0 (omega arith) ∙ total;
        right = record { least = omega arith; whole = omega arith; room = omega arith };
        zeros = rw forty (omega (arith, pass_all is_zero (λ w. w ≡ 0) (λ w e. eq-eqb w 0 e) (slice (z - 1) 40 r) c.zeros));
        cards = rw whole (omega (arith, pass_all card_word CardWord word_card (slice 40 (length r) r) c.printed));
      }

  data_back : DataOk r → DataPassed (r ++ tail) (length r)
  data_back c =
      let w = wide in
      let long : 16 ≤ length r = omega (arith, c.sum, c.counts.lprol.least_is) in
      let same = sym (counts_append r tail long) in
      record {
        total = get_or-append r tail 0 0 (omega arith) ∙ total;
        least = long;
        room = omega arith;
        counts = subst (λ x. CountsOk x) same c.counts;
        sum = c.sum ∙ ap words_needed same;
      }

  second : 16 ≤ length r → word (r ++ tail) 2 ≡ word r 2
  second h = get_or-append r tail 0 1 (omega arith)

  back : KindOk r → RecordPassed (r ++ tail) (length r)
  back (catalogue e c) = let b = cards_back 13 (omega arith) (omega arith) c in a_catalogue (second (omega (arith, b.right.least)) ∙ e) b
  back (header e c) = let b = cards_back 16 (omega arith) (omega arith) c in a_header (second (omega (arith, b.right.least)) ∙ e) b
  back (data_record e c) = let b = data_back c in a_data (second b.least ∙ e) b

pub ok_passes : (r tail : List ℕ) → RecordOk r → RecordPassed (r ++ tail) (length r)
ok_passes r tail h = back r tail h.total h.kind
