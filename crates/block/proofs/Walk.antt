-- The walk over the records, a record at a time.
use mathlib.Core.Path.{◌≡◌, refl, sym, ◌∙◌}
use mathlib.Core.List.{List, [], ◌∷◌}
use Prim.Native.Nat.{ℕ, zero, suc, ◌+◌, ◌-◌, ◌≤◌, ◌<◌}
use native.Mathlib.Numerals.{sub-one}
use native.Mathlib.Omega.{arith}
use lib.ListN.{length, drop, length-drop}
use lib.Seq.{drop-nil}
use Rattle.units.specs.declared.Answer.{Answer}
use Rattle.units.specs.Answers.{Verdict, passed, refused}
use Rattle.record.specs.Judging.{judge_record}
use Rattle.record.proofs.Passed.{passed_size}
use Rattle.block.specs.Judging.{walk}

-- words that are skipped are as good as gone
walk-drop : (skip n : ℕ) (ws : List ℕ) → walk skip n ws ≡ walk 0 n (drop skip ws)
unfolding walk
walk-drop skip n [] = rw drop-nil
walk-drop zero n (w ∷ ws) = refl
walk-drop (suc skip) n (w ∷ ws) = walk-drop skip n ws

-- a record is refused: so is the block
walk_stop : (n : ℕ) (a : Answer) (rest : List ℕ) → 0 < length rest → judge_record n rest ≡ refused a → walk 0 n rest ≡ refused a
unfolding walk
walk_stop n a [] h e = absurd (omega arith)
walk_stop n a (w ∷ ws) h e = rw e

-- a record passed: the records after it are judged
pub walk_on : (n k : ℕ) (rest : List ℕ) → 0 < length rest → judge_record n rest ≡ passed k → walk 0 n rest ≡ walk 0 (n + 1) (drop k rest)
unfolding walk
walk_on n k [] h e = absurd (omega arith)
walk_on n zero (w ∷ ws) h e = absurd (omega (arith, (passed_size n (w ∷ ws) zero e).least))
walk_on n (suc k) (w ∷ ws) h e = rw (e, sub-one) (walk-drop k (n + 1) ws)

pub walk_end : (n : ℕ) → walk 0 n [] ≡ passed (n - 1)
unfolding walk
walk_end n = refl

walk_none : (n : ℕ) (rest : List ℕ) → length rest ≤ 0 → walk 0 n rest ≡ passed (n - 1)
walk_none n [] h = walk_end n
walk_none n (w ∷ ws) h = absurd (omega arith)

-- ---- a loop that judges record after record

-- it has come to a place: what is judged of the rest gives the whole
pub record Judging (ws rest : List ℕ) (number : ℕ) : Type 0 where
  pub some : 1 ≤ number
  pub few : number + length rest ≤ length ws + 1
  pub same : walk 0 1 ws ≡ walk 0 number rest

module _ {ws rest : List ℕ} {number : ℕ} (j : Judging ws rest number) where
  -- at the end all records passed
  pub all-judged : length rest ≤ 0 → passed (number - 1) ≡ walk 0 1 ws
  all-judged h = sym (j.same ∙ walk_none number rest h)

  -- the next record is refused
  pub judged-stop : {v : Verdict ℕ} {r : Answer} → 0 < length rest → v ≡ judge_record number rest → v ≡ refused r → refused r ≡ walk 0 1 ws
  judged-stop here e f = sym (j.same ∙ walk_stop number _ rest here (sym e ∙ f))

  -- or passes
  pub judged-on : {v : Verdict ℕ} {k : ℕ} → 0 < length rest → v ≡ judge_record number rest → v ≡ passed k → (16 ≤ k) × (k ≤ length rest) × Judging ws (drop k rest) (number + 1)
  judged-on {v} {k} here e f =
      let p = sym e ∙ f in
      let s = passed_size number rest k p in
      let l = length-drop k rest in (
        s.least,
        s.most,
        record { some = omega arith; few = omega (arith, j.few, s.least); same = j.same ∙ walk_on number k rest here p },
      )
