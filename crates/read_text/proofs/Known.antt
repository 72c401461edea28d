-- The numbers of every answer of both calls: listed, and with room in the packing.
use mathlib.Core.Path.{◌≡◌, ap}
use mathlib.Core.Logic.{◌⊎◌, inl, inr}
use mathlib.Core.List.{List}
use Prim.Native.Nat.{ℕ, ◌≤◌}
use native.Mathlib.Omega.{arith}
use lib.ListN.{length}
use Rattle.units.specs.declared.Answer.{Answer}
use Rattle.units.specs.Answers.{Verdict, passed, refused, answered, Packs}
use Rattle.units.proofs.Told.{Known, then_known}
use Rattle.words.specs.Words.{block_from}
use Rattle.words.specs.Outcomes.{written, leaves}
use Rattle.words.proofs.Sealing.{length-framed}
use Rattle.words.proofs.Writing.{written_told}
use Rattle.read_records.specs.Cases.{TextRow}
use Rattle.read_records.specs.Reading.{read_text}
use Rattle.read_records.proofs.Known.{WordsFit, text_known}
use Rattle.std.specs.Prelude.{Result}
use Rattle.units.specs.declared.Bytes.{Bytes}
use Rattle.units.specs.declared.Unwritten.{Unwritten}
use Rattle.read_columns.specs.declared.Flaw.{Flaw}
use Rattle.read_text.specs.Cases.{WriteRow, judged_of, built_of}
use Rattle.read_text.specs.Block.{block_in, judge_lines, write_block}
use Rattle.read_text.specs.Promises.{JudgesLines, WritesBlock}

-- a text's block: its refusals are listed, and it is no longer than 8,000 words
pub block_known : (t : List ℕ) → Known TextRow (λ b. length b ≤ 16000) (block_in t)
block_known t = then_known TextRow (WordsFit 0) (λ b. length b ≤ 16000) (read_text t) (λ ws. passed (block_from ws)) (text_known t) (λ ws h. omega (arith, length-framed ws, h.most))

-- and so is its size
pub size_known : (t : List ℕ) → Known TextRow (λ size. size ≤ 16000) (judge_lines t)
unfolding judge_lines
size_known t = then_known TextRow (λ b. length b ≤ 16000) (λ size. size ≤ 16000) (block_in t) (λ b. passed (length b)) (block_known t) (λ b h. h)

-- "Success is n = 0"; else one of the rows 20 to 30
pub record Answered (r : Answer) : Type 0 where
  pub listed : (r.n ≡ 0) ⊎ WriteRow r.n
  pub packs : Packs r

pub answer_told : (t out : List ℕ) → Answered (write_block t out).answer
unfolding write_block written
answer_told t out = by (block_in t) (block_known t)
  where
    listed : {n : ℕ} → (n ≡ 0) ⊎ (n ≡ 29) → (n ≡ 0) ⊎ WriteRow n
    listed (inl e) = inl e
    listed (inr e) = inr (omega arith)

    by : (v : Verdict (List ℕ)) → Known TextRow (λ b. length b ≤ 16000) v → Answered (written 29 out v).answer
    by (refused r) h = record { listed = inr (h.listed.0, h.listed.1); packs = h.packs }
    by (passed b) h = let w = written_told 29 out b (omega arith) (omega (arith, h)) in record { listed = listed w.0; packs = w.1 }

judged_packs : (v : Verdict ℕ) → Known TextRow (λ size. size ≤ 16000) v → Packs (answered v)
judged_packs (refused r) h = h.packs
judged_packs (passed size) h = omega (arith, h)

-- so outcomes that are the definitions' keep the promises
pub lines_promised : (t : List ℕ) {r : Result Bytes Flaw} → judged_of r ≡ judge_lines t → JudgesLines t r
lines_promised t e = record { outcome = e; packs = rw e (judged_packs (judge_lines t) (size_known t)) }

pub block_promised : (t block : List ℕ) {r : Result Bytes (Unwritten Flaw)} {after : List ℕ} → leaves (built_of r) after ≡ write_block t block → WritesBlock t block r after
block_promised t block e = record { outcome = e; packs = rw (ap (λ w. w.answer) e) (answer_told t block).packs }
