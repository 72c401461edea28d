-- The outcome of block to lines, by what the judge says.
use mathlib.Core.Logic.{◌⊎◌, inl, inr}
use mathlib.Core.Path.{◌≡◌, refl, sym, ap, ◌∙◌}
use mathlib.Core.List.{List}
use Prim.Native.Nat.{ℕ}
use native.Mathlib.Omega.{arith}
use Rattle.units.specs.declared.Answer.{Answer}
use Rattle.units.specs.Answers.{Verdict, passed, refused, Packs}
use Rattle.words.specs.Outcomes.{Written, written, leaves}
use Rattle.block.specs.Judging.{judged}
use Rattle.block.specs.Cases.{judged_of, refusal_of}
use Rattle.block.specs.declared.Refusal.{Refusal}
use Rattle.block.specs.Records.{records_of}
use Rattle.block.proofs.Known.{KnownBlock, judged_known}
use Rattle.words.specs.Words.{Below}
use Rattle.words.proofs.Writing.{written_told}
use Rattle.write_lines.proofs.Sizes.{text_bound}
use Rattle.units.specs.declared.Bytes.{Bytes}
use Rattle.units.specs.declared.Unwritten.{Unwritten}
use Rattle.std.specs.Prelude.{Result, Ok, Err}
use Rattle.write_lines.specs.Cases.{LinesRow, lined_of}
use Rattle.write_lines.specs.Promises.{WritesLines}
use Rattle.write_lines.specs.Text.{text_of, to_lines}

when_refused : (b out : List ℕ) (r : Answer) → judged b ≡ refused r → to_lines b out ≡ leaves r out
unfolding to_lines written
when_refused b out r e = rw e

pub when_accepted : (b out : List ℕ) (k : ℕ) → judged b ≡ passed k → to_lines b out ≡ written 29 out (passed (text_of (records_of b)))
unfolding to_lines
when_accepted b out k e = rw e

-- the same, by what the judge returned
module _ (b out : List ℕ) {j : Result ℕ Refusal} (e : judged_of j ≡ judged b) where
  pub lines_refused : {r : Refusal} → j ≡ Err r → leaves (refusal_of r) out ≡ to_lines b out
  lines_refused is = sym (when_refused b out _ (sym e ∙ ap judged_of is))

  pub lines_accepted : {k : ℕ} {w : Written} → j ≡ Ok k → w ≡ written 29 out (passed (text_of (records_of b))) → w ≡ to_lines b out
  lines_accepted is put = put ∙ sym (when_accepted b out _ (sym e ∙ ap judged_of is))

-- the answer's numbers: with 0 and 29 at most 55,971 bytes
pub outcome_told : (b out : List ℕ) → Below 256 b → (((to_lines b out).answer.n ≡ 0) ⊎ LinesRow (to_lines b out).answer.n) × Packs (to_lines b out).answer
outcome_told b out h = by (judged b) refl (judged_known b h)
  where
    listed : {n : ℕ} → (n ≡ 0) ⊎ (n ≡ 29) → (n ≡ 0) ⊎ LinesRow n
    listed (inl e) = inl e
    listed (inr e) = inr (inr e)

    by : (v : Verdict ℕ) → judged b ≡ v → KnownBlock v → (((to_lines b out).answer.n ≡ 0) ⊎ LinesRow (to_lines b out).answer.n) × Packs (to_lines b out).answer
    by (refused r) e t = rw (when_refused b out r e) (inr (inl t.listed), t.packs)
    by (passed k) e t =
        let w = written_told 29 out (text_of (records_of b)) (omega arith) (omega (arith, text_bound b h (record { count = k; is = e }))) in
        rw (when_accepted b out k e) (listed w.0, w.1)

-- so an outcome that is the definition's keeps the promise
pub promised : (b text : List ℕ) → Below 256 b → {r : Result Bytes (Unwritten Refusal)} {after : List ℕ} → leaves (lined_of r) after ≡ to_lines b text → WritesLines b text r after
promised b text h e = record { outcome = e; packs = rw (ap (λ w. w.answer) e) (outcome_told b text h).1 }
