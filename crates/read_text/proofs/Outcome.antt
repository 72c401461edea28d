-- The outcome of both calls: a text that was read, and the block that is written of it.
use mathlib.Core.Path.{◌≡◌, refl, sym, ap, ◌∙◌}
use mathlib.Core.List.{List, ◌++◌}
use Prim.Native.Nat.{ℕ, ◌+◌, ◌≤◌, ◌<◌}
use native.Mathlib.Nat.{zero-add}
use native.Mathlib.Omega.{arith}
use lib.ListN.{length, drop}
use Rattle.units.specs.declared.Answer.{Answer}
use Rattle.units.specs.declared.Words.{Words}
use Rattle.units.specs.Answers.{answer, Verdict, passed, refused, onward}
use Rattle.units.proofs.Verdicts.{never_passed}
use Rattle.units.specs.Units.{bytes_of_words}
use Rattle.words.specs.Words.{words_of, words, most_record_words, block_from}
use Rattle.words.proofs.Writing.{too_short, all-written}
use Rattle.words.proofs.Sealing.{sealed_put, length-framed}
use Rattle.words.specs.Outcomes.{leaves, written}
use Rattle.read_columns.specs.declared.Flaw.{Flaw}
use Rattle.read_columns.specs.Cases.{flaw_of}
use Rattle.read_first_line.specs.State.{put}
use Rattle.std.specs.Prelude.{Result, Ok, Err}
use Rattle.read_records.specs.Content.{Stored, stored, stored_of}
use Rattle.read_records.specs.Reading.{read_text}
use Rattle.read_records.proofs.Known.{words_room}
use Rattle.read_text.specs.Block.{judge_lines, write_block}

-- an accepted text, and the count of its record words
pub record HasWords (t : List ℕ) (n : ℕ) : Type 0 where
  pub records : List ℕ
  pub is : read_text t ≡ passed records
  pub count : n ≡ length records

-- at most 7,998
pub words_most : (t : List ℕ) (n : ℕ) → HasWords t n → n ≤ most_record_words
words_most t n a = omega (arith, a.count, words_room t a.records a.is)

-- ---- judging goes by the reading

module _ (t : List ℕ) where
  pub read_judged : (ws : List ℕ) → read_text t ≡ passed ws → judge_lines t ≡ passed (length (block_from ws))
  unfolding judge_lines
  read_judged ws e = rw e

  -- and back
  pub judged_read : (size : ℕ) → judge_lines t ≡ passed size → (ws : List ℕ) × (read_text t ≡ passed ws) × (length (block_from ws) ≡ size)
  unfolding judge_lines
  judged_read size = by (read_text t) refl
    where
      by : (v : Verdict (List ℕ)) → read_text t ≡ v → onward (onward v (λ ws. passed (block_from ws))) (λ b. passed (length b)) ≡ passed size
          → (ws : List ℕ) × (read_text t ≡ passed ws) × (length (block_from ws) ≡ size)
      by (passed ws) is e = (ws, is, cc)
      by (refused r) is e = absurd (never_passed e)

  pub refused_read : (r : Answer) → judge_lines t ≡ refused r → read_text t ≡ refused r
  unfolding judge_lines
  refused_read r = by (read_text t)
    where
      by : (v : Verdict (List ℕ)) → onward (onward v (λ ws. passed (block_from ws))) (λ b. passed (length b)) ≡ refused r → v ≡ refused r
      by (passed ws) e = absurd (never_passed (sym e))
      by (refused s) e = let k : s ≡ r = cc in ap (λ x. refused x) k

-- its size is judged from that count, and tells it
pub size_judged : (t : List ℕ) (n : ℕ) {size : ℕ} → HasWords t n → size ≡ bytes_of_words (n + 2) → passed size ≡ judge_lines t
size_judged t n a e = ap (λ k. passed k) (omega (arith, length-framed a.records, a.count)) ∙ sym (read_judged t a.records a.is)

pub size_tells : (t : List ℕ) (n : ℕ) → judge_lines t ≡ passed (bytes_of_words (n + 2)) → HasWords t n
size_tells t n e = let j = judged_read t (bytes_of_words (n + 2)) e in record { records = j.0; is = j.1; count = omega (arith, j.2, length-framed j.0) }

-- a refusal is judged as it is
pub refusal_judged : (t : List ℕ) {r : Answer} → read_text t ≡ refused r → refused r ≡ judge_lines t
unfolding judge_lines
refusal_judged t e = rw e

-- ---- what was read, whatever was written on the way

module _ (t b b' : List ℕ) where
  pub words_read : {r : Result Words Flaw} {n : Words} → r ≡ Ok n → stored_of b' r ≡ stored 0 b (read_text t) → HasWords t n.0
  words_read {r} {n} found e = by (read_text t) refl (ap (stored_of b') (sym found) ∙ e)
    where
      by : (v : Verdict (List ℕ)) → read_text t ≡ v → stored_of b' (Ok n) ≡ stored 0 b v → HasWords t n.0
      by (passed ws) is same =
          let k : ◌≡◌ {A = Stored} (record { held = n.0; block = b' }) (record { held = 0 + length ws; block = put 0 b ws }) = cc in
          record { records = ws; is = is; count = ap (λ (x : Stored). x.held) k ∙ zero-add (length ws) }
      by (refused r) is same = absurd (never_passed (sym same))

  pub flaw_read : {r : Result Words Flaw} {f : Flaw} → r ≡ Err f → stored_of b' r ≡ stored 0 b (read_text t) → read_text t ≡ refused (flaw_of f)
  flaw_read {r} {f} found e = by (read_text t) (ap (stored_of b') (sym found) ∙ e)
    where
      by : (v : Verdict (List ℕ)) → stored_of b' (Err f) ≡ stored 0 b v → v ≡ refused (flaw_of f)
      by (passed ws) same = absurd (never_passed same)
      by (refused r) same = let k : flaw_of f ≡ r = cc in ap (λ x. refused x) (sym k)

  -- the words of an accepted text are put behind the length word
  records_put : (n : ℕ) (r : Result Words Flaw) (a : HasWords t n) → stored_of b' r ≡ stored 0 b (read_text t) → b' ≡ put 0 b a.records
  records_put n (Ok m) a e =
      let k : ◌≡◌ {A = Stored} (record { held = m.0; block = b' }) (record { held = 0 + length a.records; block = put 0 b a.records }) = let s : stored_of b' (Ok m) ≡ stored 0 b (passed a.records) = rw a.is at e in cc in
      ap (λ (x : Stored). x.block) k
  records_put n (Err f) a e = let s : stored_of b' (Err f) ≡ stored 0 b (passed a.records) = rw a.is at e in absurd (never_passed s)

-- ---- writing

-- the block that an accepted text gives
block_is : (t out : List ℕ) (n : ℕ) (a : HasWords t n) → write_block t out ≡ written 29 out (passed (block_from a.records))
unfolding write_block
block_is t out n a = rw a.is

-- writing the block of an accepted text, which takes `size` bytes
module _ (t b : List ℕ) (n : ℕ) (a : HasWords t n) {size : ℕ} (is : size ≡ bytes_of_words (n + 2)) where
  length_is : size ≡ length (block_from a.records)
  length_is = omega (arith, length-framed a.records, a.count)

  pub block_short : length b < size → leaves (answer 29 size 0 0) b ≡ write_block t b
  block_short h = too_short 29 b (block_from a.records) size length_is h ∙ sym (block_is t b n a)

  -- its words were put behind the length word, and sealed
  pub block_built : (b' : List ℕ) (r : Result Words Flaw) {after : List ℕ} → size ≤ length b → stored_of b' r ≡ stored 0 b (read_text t)
      → after ≡ block_from (words (words_of b') 2 (n + 1)) ++ drop (bytes_of_words (n + 2)) b' → leaves (answer 0 size 0 0) after ≡ write_block t b
  block_built b' r room read sealed =
      rw is (all-written 29 b (block_from a.records) (omega (arith, length_is)) (sealed_put b a.records n a.count (omega arith) (records_put t b b' n r a read) sealed))
      ∙ sym (block_is t b n a)

-- a refused text leaves the block as it is
pub refusal_told : (t out : List ℕ) {r : Answer} → read_text t ≡ refused r → leaves r out ≡ write_block t out
unfolding write_block written
refusal_told t out e = rw e
