-- The programs write what they print, and print what the calls give.
use mathlib.Core.Path.{◌≡◌, refl, sym, ap, ◌∙◌}
use mathlib.Core.List.{List, [], ◌∷◌}
use Prim.Native.Nat.{ℕ, ◌≤◌}
use native.Mathlib.Omega.{arith}
use borrow.Author.Tests.{ne_eqb}
use lib.ListN.{length, take}
use lib.Seq.{length-sets}
use Rattle.units.specs.declared.Answer.{Answer}
use Rattle.units.specs.Answers.{Verdict, passed, refused, onward}
use Rattle.words.specs.Words.{Below, block_from}
use Rattle.words.specs.Outcomes.{written}
use Rattle.words.proofs.Sealing.{slice-sets}
use Rattle.block.specs.Judging.{judged}
use Rattle.block.specs.Records.{records_of}
use Rattle.block.proofs.Known.{judged_known}
use Rattle.block_slice.specs.Blocks.{blocks_in, records_in}
use Rattle.packing.specs.Packing.{repacked}
use Rattle.write_lines.specs.Text.{text_of, to_lines}
use Rattle.read_records.specs.Reading.{read_text}
use Rattle.read_text.specs.Block.{judge_lines, write_block}
use Rattle.read_text.proofs.Outcome.{judged_read, refused_read}
use Rattle.repacking.specs.Repacking.{repack}
use Rattle.report.specs.Text.{line_of}
use Rattle.report.specs.Decimal.{decimal_of}
use Rattle.report.specs.Refusal.{refusal_line, or_refusal}
use Rattle.listed.specs.Listing.{listing_of}
use Rattle.printed.specs.Printed.{Printed, lines_printed, size_printed, block_printed, blocks_printed}
use Rattle.printed.proofs.Outcome.{lines_bound, block_bound, blocks_bound, text_row, slice_row}
use Rattle.demands.specs.Programs.{ListingWritten, LinesWritten, SizeWritten, BlockWritten, TestedFirst, BlocksWritten, printed_of, LinesAsCalled, BlockAsCalled, BlocksAsCalled}
use Rattle.demands.proofs.Demand2.{bytes_in_lem, with_room}

printed_written : (out text after : List ℕ) (end : ℕ) → Printed out text after end → take end after ≡ text
printed_written out text after end p =
    rw p.put.bytes (slice-sets out text 0 end (sym p.put.ends) (omega (arith, p.within, ap length p.put.bytes, length-sets out 0 text)))

pub listing_written : ListingWritten
listing_written block out = printed_written out (listing_of block)

pub lines_written : LinesWritten
lines_written block out = printed_written out (lines_printed block)

pub size_written : SizeWritten
size_written text out = printed_written out (size_printed text)

pub block_written : BlockWritten
block_written text out = printed_written out (block_printed text)

pub blocks_written : BlocksWritten
blocks_written blocks out = printed_written out (blocks_printed blocks)

pub tested_first : TestedFirst
tested_first text = (refusals, sizes)
  where
    refusals : (r : Answer) → judge_lines text ≡ refused r → (size_printed text ≡ refusal_line r) × (block_printed text ≡ refusal_line r)
    refusals r e = (ap (or_refusal (λ n. line_of (decimal_of n ∷ []))) e, ap (or_refusal block_from) (refused_read text r e))

    sizes : (size : ℕ) → judge_lines text ≡ passed size → (size_printed text ≡ line_of (decimal_of size ∷ [])) × (length (block_printed text) ≡ size)
    sizes size e = let j = judged_read text size e in (ap (or_refusal (λ n. line_of (decimal_of n ∷ []))) e, ap (λ v. length (or_refusal block_from v)) j.1 ∙ j.2)

-- ---- what the calls give

-- of anything that passed or was refused: what is made of it has room, and no refusal is 0
as_called : {A : Type 0} (short : ℕ) (f : A → List ℕ) (out : List ℕ) (v : Verdict A) → length (or_refusal f v) ≤ length out → ((r : Answer) → v ≡ refused r → r.n ≡ 0 → ⊥)
    → or_refusal f v ≡ printed_of (written short out (onward v (λ x. passed (f x))))
unfolding written
as_called short f out (passed x) room row = sym (ap printed_of (with_room short (f x) out room) ∙ bytes_in_lem (f x) out)
as_called short f out (refused r) room row = simp (ne_eqb r.n 0 (row r refl))

judge_row : (b : List ℕ) → Below 256 b → (r : Answer) → judged b ≡ refused r → r.n ≡ 0 → ⊥
judge_row b h r e z = omega (arith, (rw e at (judged_known b h)).listed)

pub lines_as_called : LinesAsCalled
unfolding to_lines
lines_as_called block out h room = as_called 29 (λ _. text_of (records_of block)) out (judged block) (omega (arith, lines_bound block h)) (judge_row block h)

pub block_as_called : BlockAsCalled
unfolding write_block
block_as_called text out room = as_called 29 block_from out (read_text text) (omega (arith, block_bound text)) (text_row text)

pub blocks_as_called : BlocksAsCalled
unfolding repack
blocks_as_called slice out h room = as_called 50 (λ blocks. repacked (records_in blocks)) out (blocks_in slice) (omega (arith, blocks_bound slice h)) (slice_row slice h)
