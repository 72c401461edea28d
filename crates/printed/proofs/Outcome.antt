-- What is printed, by what is found of the input, and that it fits.
use mathlib.Core.Path.{◌≡◌, refl, sym, ap, ◌∙◌}
use mathlib.Core.List.{List, [], ◌∷◌}
use Prim.Native.Nat.{ℕ, ◌+◌, ◌≤◌}
use native.Mathlib.Omega.{arith}
use lib.ListN.{length, length-append}
use lib.Seq.{sets, length-sets, length-take-le}
use Rattle.units.specs.declared.Answer.{Answer}
use Rattle.units.specs.Answers.{answer, Verdict, passed, refused, onward, written_of}
use Rattle.words.specs.Words.{Below, block_from}
use Rattle.words.specs.Outcomes.{written, leaves}
use Rattle.words.specs.Writing.{Room, Put}
use Rattle.words.proofs.Writing.{all-written}
use Rattle.words.proofs.Sealing.{length-framed}
use Rattle.block.specs.Judging.{judged}
use Rattle.block.specs.Cases.{refusal_of}
use Rattle.block.specs.declared.Refusal.{Refusal}
use Rattle.block.specs.declared.Refusal.TheVariants.{Size, WordCount, Checksum, Record}
use Rattle.record.specs.Cases.{fault_of}
use Rattle.record.specs.declared.Fault.{Fault}
use Rattle.record.specs.declared.Fault.TheVariants.{Short as RecordShort, Kind as RecordKind, Total as RecordTotal, NotZero, Card, Counts as RecordCounts}
use Rattle.read_columns.specs.Cases.{flaw_of}
use Rattle.read_columns.specs.declared.Flaw.{Flaw}
use Rattle.read_columns.specs.declared.Flaw.TheVariants.{Byte, NoRecord, Field, Kind as FlawKind, Count, Ends, NotBlank, Range, Much, Long as FlawLong}
use Rattle.block_slice.specs.Cases.{slice_refusal_of}
use Rattle.block_slice.specs.declared.SliceRefusal.{SliceRefusal}
use Rattle.block_slice.specs.declared.SliceRefusal.TheVariants.{Long, Cut, Block}
use Rattle.units.specs.declared.Bytes.{Bytes}
use Rattle.units.specs.declared.Unwritten.{Unwritten}
use Rattle.units.specs.declared.Unwritten.TheVariants.{Refused, Short}
use Rattle.std.specs.Prelude.{Result, Ok, Err}
use Rattle.block.proofs.Known.{judged_known}
use Rattle.block.specs.Records.{records_of}
use Rattle.write_lines.specs.Text.{text_of}
use Rattle.write_lines.proofs.Sizes.{text_bound}
use Rattle.read_records.specs.Reading.{read_text}
use Rattle.read_records.proofs.Known.{text_known, words_room}
use Rattle.read_text.specs.Block.{judge_lines}
use Rattle.report.specs.Text.{behind, line_of}
use Rattle.report.specs.Decimal.{decimal_of}
use Rattle.report.specs.Refusal.{refusal_line, or_refusal}
use Rattle.report.proofs.Digits.{most_digits}
use Rattle.report.proofs.Lines.{printed_most}
use Rattle.block_slice.specs.Blocks.{blocks_in, records_in}
use Rattle.packing.specs.Packing.{repacked}
use Rattle.block_slice.proofs.Slices.{only_slices}
use Rattle.block_slice.proofs.Known.{slice_known, row_not_0}
use Rattle.repacking.proofs.Known.{repacked_bound}
use Rattle.printed.specs.Printed.{Printed, EndOrRefusal, lines_printed, size_printed, block_printed, blocks_printed}

-- what is to be printed is this text: it has room, and is printed once it is put in
pub record Prints (out whole text : List ℕ) : Type 0 where
  pub room : Room out 0 text
  pub printed : {after : List ℕ} {end : ℕ} → Put out 0 text after end → Printed out whole after end

pub prints : {out whole text : List ℕ} → Room out 0 whole → whole ≡ text → Prints out whole text
prints {out} {whole} {text} h is =
    record {
      room = rw is at h;
      printed = λ {after} {end} put.
          let within : end ≤ length after = omega (arith, put.ends, ap length put.bytes, length-sets out 0 text, ap length is) in
          record { put = rw is put; within = within; counted = sym (length-take-le end after within) };
    }

-- what is made of what passed, or the line of a refusal
module _ {A : Type 0} (f : A → List ℕ) {v : Verdict A} {out : List ℕ} (h : Room out 0 (or_refusal f v)) where
  pub prints_passed : {x : A} → v ≡ passed x → Prints out (or_refusal f v) (f x)
  prints_passed e = prints h (ap (or_refusal f) e)

  pub prints_refused : {r s : Answer} → v ≡ refused r → s ≡ r → Prints out (or_refusal f v) (refusal_line s)
  prints_refused e is = prints h (ap (or_refusal f) e ∙ ap refusal_line (sym is))

pub lines_bound : (b : List ℕ) → Below 256 b → length (lines_printed b) ≤ 55971
lines_bound b h = printed_most (λ _. text_of (records_of b)) 55971 (omega arith) (judged b) (λ k e. text_bound b h (record { count = k; is = e }))

pub size_bound : (t : List ℕ) → length (size_printed t) ≤ 52
unfolding line_of behind
size_bound t = printed_most (λ size. line_of (decimal_of size ∷ [])) 52 (omega arith) (judge_lines t) (λ size _. omega (arith, length-append (decimal_of size) (10 ∷ []), most_digits size))

pub block_bound : (t : List ℕ) → length (block_printed t) ≤ 16000
block_bound t = printed_most block_from 16000 (omega arith) (read_text t) (λ ws e. omega (arith, length-framed ws, words_room t ws e))

pub blocks_bound : (slice : List ℕ) → Below 256 slice → length (blocks_printed slice) ≤ 64000
blocks_bound slice h =
    printed_most (λ bs. repacked (records_in bs)) 64000 (omega arith) (blocks_in slice)
    (λ bs e. let s = only_slices slice bs e in omega (arith, s.size, repacked_bound slice bs h s))

-- a conversion that writes what is made of what passed, into a buffer that has room: its end, or the line that tells why it wrote nothing
module _ {A : Type 0} (f : A → List ℕ) (short : ℕ) (out : List ℕ) {mid after : List ℕ} {end : ℕ} where
  -- all was written, and its end is returned
  all_printed : (x : A) (size : Bytes) → Room out 0 (f x) → leaves (answer 0 size.0 0 0) mid ≡ written short out (passed (f x)) → (after ≡ mid) × (end ≡ size.0) → Put out 0 (f x) after end
  all_printed x size room e w =
      let all = e ∙ sym (all-written short out (f x) (omega arith) (record { ends = refl; bytes = refl })) in
      record { ends = w.1 ∙ ap (λ o. o.answer.a) all; bytes = w.0 ∙ ap (λ o. o.out) all }

  pub ended : {R : Type 0} (numbers : R → Answer) {told : Answer} → ((u : Unwritten R) → (written_of short numbers (Err u)).n ≡ 0 → ⊥) → (v : Verdict A) (found : Result Bytes (Unwritten R)) → Room out 0 (or_refusal f v) → ((r : Answer) → v ≡ refused r → r.n ≡ 0 → ⊥)
      → told ≡ written_of short numbers found → EndOrRefusal told found mid after end
      → leaves (written_of short numbers found) mid ≡ written short out (onward v (λ x. passed (f x))) → Printed out (or_refusal f v) after end
  unfolding written
  ended numbers {told} never (passed x) (Ok size) room some is ends e = (prints room refl).printed (all_printed x size room e ends)
  ended numbers {told} never (refused r) (Ok size) room some is ends e = absurd (some r refl (ap (λ o. o.answer.n) (sym e)))
  ended numbers {told} never (passed x) (Err u) room some is ends e =
      absurd (never u (ap (λ o. o.answer.n) (e ∙ sym (all-written short out (f x) (omega arith) (record { ends = refl; bytes = refl })))))
  ended numbers {told} never (refused r) (Err u) room some is ends e =
      let t = is ∙ ap (λ o. o.answer) e in
      (prints room refl).printed (record { ends = ends.ends ∙ ap (λ a. 0 + length (refusal_line a)) t; bytes = ends.bytes ∙ ap (λ o. sets o 0 (refusal_line told)) (ap (λ o. o.out) e) ∙ ap (λ a. sets out 0 (refusal_line a)) t })

-- no row is 0
fault_row : (f : Fault) → (fault_of f).n ≡ 0 → ⊥
fault_row (RecordShort k) z = omega arith
fault_row (RecordKind k) z = omega arith
fault_row (RecordTotal k) z = omega arith
fault_row (NotZero k w) z = omega arith
fault_row (Card k w) z = omega arith
fault_row (RecordCounts k w) z = omega arith

pub refusal_row : (r : Refusal) → (refusal_of r).n ≡ 0 → ⊥
refusal_row Size z = omega arith
refusal_row WordCount z = omega arith
refusal_row (Checksum bits) z = omega arith
refusal_row (Record f) z = fault_row f z

flaw_row : (f : Flaw) → (flaw_of f).n ≡ 0 → ⊥
flaw_row (Byte l c) z = omega arith
flaw_row NoRecord z = omega arith
flaw_row (Field l c) z = omega arith
flaw_row (FlawKind l) z = omega arith
flaw_row (Count l) z = omega arith
flaw_row (Ends l) z = omega arith
flaw_row (NotBlank l c) z = omega arith
flaw_row (Range l c) z = omega arith
flaw_row (Much l) z = omega arith
flaw_row FlawLong z = omega arith

slice_refusal_row : (r : SliceRefusal) → (slice_refusal_of r).n ≡ 0 → ⊥
slice_refusal_row Long z = omega arith
slice_refusal_row (Cut n) z = omega arith
slice_refusal_row (Block r) z = refusal_row r z

-- nor is that of a conversion that wrote nothing
pub unwritten_row : {R : Type 0} (short : ℕ) (numbers : R → Answer) → (short ≡ 0 → ⊥) → ((r : R) → (numbers r).n ≡ 0 → ⊥) → (u : Unwritten R) → (written_of short numbers (Err u)).n ≡ 0 → ⊥
unwritten_row short numbers s r (Refused x) z = r x z
unwritten_row short numbers s r (Short size) z = s z

pub never_lined : (u : Unwritten Refusal) → (written_of 29 refusal_of (Err u)).n ≡ 0 → ⊥
never_lined = unwritten_row 29 refusal_of (λ z. omega arith) refusal_row

pub never_built : (u : Unwritten Flaw) → (written_of 29 flaw_of (Err u)).n ≡ 0 → ⊥
never_built = unwritten_row 29 flaw_of (λ z. omega arith) flaw_row

pub never_repacked : (u : Unwritten SliceRefusal) → (written_of 50 slice_refusal_of (Err u)).n ≡ 0 → ⊥
never_repacked = unwritten_row 50 slice_refusal_of (λ z. omega arith) slice_refusal_row

pub block_row : (b : List ℕ) → Below 256 b → (r : Answer) → judged b ≡ refused r → r.n ≡ 0 → ⊥
block_row b h r e z = omega (arith, (rw e at (judged_known b h)).listed)

pub text_row : (t : List ℕ) (r : Answer) → read_text t ≡ refused r → r.n ≡ 0 → ⊥
text_row t r e z = omega (arith, (rw e at (text_known t)).listed)

pub slice_row : (slice : List ℕ) → Below 256 slice → (r : Answer) → blocks_in slice ≡ refused r → r.n ≡ 0 → ⊥
slice_row slice h r e z = row_not_0 (rw e at (slice_known slice h)).listed z
