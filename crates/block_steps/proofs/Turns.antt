-- A loop over the records of an accepted block, each lent by a walk over it: what it keeps, and what a turn of it knows.
use mathlib.Core.Path.{◌≡◌, sym, ap, subst, ◌∙◌}
use mathlib.Core.List.{List, [], ◌∷◌}
use Prim.Native.Nat.{ℕ, ◌+◌, ◌≤◌, ◌<◌}
use native.Mathlib.Omega.{arith}
use lib.ListN.{length, drop, length-append}
use denote.Ref.{Bor}
use Rattle.std.specs.Prelude.{Option, Some, None}
use Rattle.words.specs.Words.{words_of, bytes_of, joined, All, Below, framed, most_words, most_record_words}
use Rattle.record.specs.Rules.{RecordOk}
use Rattle.block.specs.Rules.{BlockRecord}
use Rattle.block.specs.Judging.{Accepted}
use Rattle.block.specs.Records.{records_of}
use Rattle.block.proofs.Exact.{ok_long, only_good, words_are, frame_of, frame_ok}
use Rattle.block_steps.specs.declared.Walk.{Walk}
use Rattle.block_steps.specs.Standing.{records_from, records_left, LendsFirst}
use Rattle.block_steps.proofs.Walking.{stand_in_block}

-- the records that are left are good, and what holds of them
pub record Loop (it : Walk) (P : List (List ℕ) → Type 0) : Type 0 where
  pub good : All BlockRecord (records_left it)
  pub holds : P (records_left it)

-- a turn: the record that is lent is the first of those, and behind it `next` has the others left
pub record Turn (P : List (List ℕ) → Type 0) (whole : List ℕ) (next : Walk) : Type 0 where
  pub good : BlockRecord (words_of whole)
  pub bytes : whole ≡ bytes_of (words_of whole)
  pub long : 16 ≤ length (words_of whole)
  pub holds : P (words_of whole ∷ records_left next)
  pub others : All BlockRecord (records_left next)

-- at the start all records are left
module _ (b : List ℕ) (bytes : Below 256 b) (a : Accepted b) where
  block_records : All BlockRecord (records_of b)
  unfolding joined
  block_records = let good = (only_good b a.count bytes a.is).0 in by (records_of b) good.each good.most
    where
      by : (rs : List (List ℕ)) → All RecordOk rs → length (joined rs) ≤ most_record_words → All BlockRecord rs
      by [] each most = tt
      by (r ∷ rs) each most = let n = length-append r (joined rs) in (record { ok = each.0; most = omega arith }, by rs each.1 (omega arith))

  pub loop_start : {made it : Walk} → records_left made ≡ records_from 0 (drop 1 (words_of b)) → it ≡ made → {P : List (List ℕ) → Type 0} → P (records_of b) → Loop it P
  loop_start made same {P} h = let are = ap records_left same ∙ made ∙ stand_in_block b bytes a in
      record { good = subst (All BlockRecord) (sym are) block_records; holds = subst P (sym are) h }

pub turn : {it : Walk} {P : List (List ℕ) → Type 0} → Loop it P → (r : Option (Bor (List ℕ))) (next : Walk) → LendsFirst it r next
    → {whole : Bor (List ℕ)} → r ≡ Some whole → Turn P whole.now next
turn {it} {P} l r next lends {whole} is = by (rw is at lends)
  where
    by : LendsFirst it (Some whole) next → Turn P whole.now next
    by t =
        let good = subst (All BlockRecord) t.0 l.good in
        record { good = good.0; bytes = t.1; long = ok_long (words_of whole.now) good.0.ok; holds = subst P t.0 l.holds; others = good.1 }

-- where none is lent none is left
pub loop_end : {it : Walk} {P : List (List ℕ) → Type 0} → Loop it P → (r : Option (Bor (List ℕ))) (next : Walk) → LendsFirst it r next → r ≡ None → P []
loop_end {it} {P} l r next lends is = by (rw is at lends)
  where
    by : LendsFirst it None next → P []
    by t = subst P t.0 l.holds

-- behind the record the others are left
pub loop_on : {P Q : List (List ℕ) → Type 0} {whole : List ℕ} {next : Walk} → Turn P whole next → Q (records_left next) → Loop next Q
loop_on t h = record { good = t.others; holds = h }

-- behind word 1 and the records stands the checksum, the last of 8,000 words at most
pub start_within : (b : List ℕ) → Below 256 b → Accepted b → (1 + length (joined (records_of b)) < length (words_of b)) × (length (words_of b) ≤ most_words)
unfolding framed
start_within b bytes a =
    let good = (only_good b a.count bytes a.is).0 in
    (omega (arith, ap length (words_are b (records_of b) good), frame_of (joined (records_of b))), (frame_ok b a.count a.is).size.most)
