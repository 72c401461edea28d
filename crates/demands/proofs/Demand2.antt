-- Demand 2 holds.
use mathlib.Core.Path.{◌≡◌, sym, ap, ◌∙◌, refl}
use mathlib.Core.List.{List, ◌++◌}
use Prim.Native.Nat.{ℕ, ◌≤◌}
use borrow.Author.Tests.{le-ltb}
use lib.ListN.{length, drop}
use lib.Seq.{take-append_seam}
use Rattle.units.specs.Answers.{passed, answer, Verdict, refused, onward}
use Rattle.words.specs.Words.{words_of, framed, joined, block_from}
use Rattle.words.specs.Outcomes.{written, Written, leaves}
use Rattle.words.proofs.Laws.{words_bytes}
use Rattle.block.specs.Judging.{inner, judged, Accepted}
use Rattle.block.specs.Records.{records_of}
use Rattle.block.proofs.Exact.{only_good, every_good, its_records, frame_of}
use Rattle.write_lines.specs.Text.{text_of, to_lines}
use Rattle.write_lines.proofs.Outcome.{when_accepted}
use Rattle.read_records.specs.Reading.{read_text}
use Rattle.read_text.specs.Block.{judge_lines, write_block}
use Rattle.read_text.proofs.Outcome.{read_judged}
use Rattle.demands.specs.Demand2.{AcceptedExactly, OneWay, bytes_in, wrote, standard, LinesRead, BlockLinesBlock, TextGivesBlock, WrittenAccepted, LinesBlockLines, StandardRead, StandardStays, OneStandard}
use Rattle.demands.proofs.Standard.{text_back}
use Rattle.demands.proofs.Sound.{its-text}
use mathlib.Core.Logic.{◌⊎◌, inl, inr}
use native.Mathlib.Omega.{arith}
use Rattle.words.proofs.Writing.{written_either}
use Rattle.block.specs.Rules.{IsBlock}
use Rattle.units.proofs.Told.{Known}
use Rattle.read_records.specs.Cases.{TextRow}
use Rattle.read_records.proofs.Known.{WordsFit, text_known}

pub accepted_exactly : AcceptedExactly
accepted_exactly b bytes = (λ k e. only_good b k bytes e, λ rs good. every_good b rs good)

pub one_way : OneWay
one_way b rs ss good also = sym (its_records b rs good) ∙ its_records b ss also

pub lines_read : LinesRead
lines_read = text_back

-- ---- what the calls write

pub bytes_in_lem : (bytes out : List ℕ) → bytes_in (wrote bytes out) ≡ bytes
bytes_in_lem bytes out = take-append_seam bytes (drop (length bytes) out)

pub with_room : (short : ℕ) (bytes out : List ℕ) → length bytes ≤ length out → written short out (passed bytes) ≡ wrote bytes out
unfolding written
with_room short bytes out h = simp (le-ltb (length out) (length bytes) h)

lines_written : (b text : List ℕ) (k : ℕ) → judged b ≡ passed k → length (text_of (records_of b)) ≤ length text → to_lines b text ≡ wrote (text_of (records_of b)) text
lines_written b text k e h = when_accepted b text k e ∙ with_room 29 (text_of (records_of b)) text h

block_written : (t out ws : List ℕ) → read_text t ≡ passed ws → length (block_from ws) ≤ length out → write_block t out ≡ wrote (block_from ws) out
unfolding write_block
block_written t out ws e h = rw e (with_room 29 (block_from ws) out h)

-- ---- the round trips

pub block_lines_block : BlockLinesBlock
block_lines_block b text out bytes a room-text room_out =
    let g = (only_good b a.count bytes a.is).0 in
    let rs = records_of b in
    let l = lines_written b text a.count a.is room-text in
    let read = text_back rs g.each g.some g.most in (
      l,
      ap (λ w. judge_lines (bytes_in w)) l ∙ ap judge_lines (bytes_in_lem (text_of rs) text) ∙ read_judged (text_of rs) (joined rs) read ∙ ap (λ c. passed (length c)) (sym g.bytes),
      ap (λ w. write_block (bytes_in w) out) l
          ∙ ap (λ s. write_block s out) (bytes_in_lem (text_of rs) text)
          ∙ block_written (text_of rs) out (joined rs) read (rw (← g.bytes) room_out)
          ∙ ap (λ c. wrote c out) (sym g.bytes),
    )

-- a block tells its words
words_told : (ws vs : List ℕ) → block_from ws ≡ block_from vs → ws ≡ vs
words_told ws vs e =
    sym (frame_of ws).between ∙ ap inner (sym (words_bytes (framed ws)) ∙ ap words_of e ∙ words_bytes (framed vs)) ∙ (frame_of vs).between

-- ---- what an accepted text becomes

pub text-gives_block : TextGivesBlock
text-gives_block t ws e =
    let i = its-text t ws e in
    let rs = i.0 in
    let good : IsBlock (block_from ws) rs =
    record { bytes = ap block_from i.2; each = i.1.each; some = i.1.some; most = i.1.most } in
    (rs, good, every_good (block_from ws) rs good)

pub written_accepted : WrittenAccepted
unfolding write_block written
written_accepted t out = by (read_text t) refl (text_known t)
  where
    taken : (ws : List ℕ) → read_text t ≡ passed ws → {w : Written} → let b = block_from ws in
        (w ≡ leaves (answer 29 (length b) 0 0) out) ⊎ (w ≡ leaves (answer 0 (length b) 0 0) (b ++ drop (length b) out)) → w.answer.n ≡ 0 → (length (bytes_in w) ≡ w.answer.a) × Accepted (bytes_in w)
    taken ws e (inl f) z = absurd (omega (arith, ap (λ x. x.answer.n) f))
    taken ws e (inr f) z =
        let g = text-gives_block t ws e in
        rw (f, take-append_seam (block_from ws) (drop (length (block_from ws)) out)) (refl, record { count = length g.0; is = g.2 })

    by : (v : Verdict (List ℕ)) → read_text t ≡ v → Known TextRow (WordsFit 0) v → let w = written 29 out (onward v (λ ws. passed (block_from ws))) in w.answer.n ≡ 0 → (length (bytes_in w) ≡ w.answer.a) × Accepted (bytes_in w)
    by (refused r) e h z = absurd (omega (arith, h.listed.0))
    by (passed ws) e h z = taken ws e (written_either 29 out (block_from ws)) z

-- the standard lines
pub standard_read : StandardRead
standard_read t ws e =
    let rs = (text-gives_block t ws e).0 in
    let g = (text-gives_block t ws e).1 in
    ap (λ l. read_text (text_of l)) (its_records (block_from ws) rs g)
    ∙ text_back rs g.each g.some g.most
    ∙ ap (λ l. passed l) (words_told (joined rs) ws (sym g.bytes))

pub lines_block_lines : LinesBlockLines
lines_block_lines t ws out text e room_out room-text =
    let rs = (text-gives_block t ws e).0 in
    let b = block_from ws in
    let block = block_written t out ws e room_out in
    let lines =
    ap (λ w. to_lines (bytes_in w) text) block
    ∙ ap (λ c. to_lines c text) (bytes_in_lem b out)
    ∙ lines_written b text (length rs) (every_good b rs (text-gives_block t ws e).1) room-text in
    let again = standard_read t ws e in (
      read_judged t ws e,
      block,
      lines,
      ap (λ w. judge_lines (bytes_in w)) lines ∙ ap judge_lines (bytes_in_lem (standard ws) text) ∙ read_judged (standard ws) ws again ∙ sym (read_judged t ws e),
      ap (λ w. write_block (bytes_in w) out) lines
          ∙ ap (λ s. write_block s out) (bytes_in_lem (standard ws) text)
          ∙ block_written (standard ws) out ws again room_out
          ∙ sym block,
    )

pub standard_stays : StandardStays
standard_stays t ws e vs f =
    let same : vs ≡ ws = cc (standard_read t ws e) in
    ap standard same

pub one_standard : OneStandard
one_standard t u ws vs e f = (ap (λ c. text_of (records_of c)), λ s. ap block_from (same s))
  where
    same : standard ws ≡ standard vs → ws ≡ vs
    same s = cc (standard_read t ws e, standard_read u vs f, ap read_text s)
