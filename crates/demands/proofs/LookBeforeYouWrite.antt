-- What was judged is what is written.
use mathlib.Core.Logic.{◌⊎◌, inl, inr}
use mathlib.Core.Path.{◌≡◌, refl, sym, ap, subst, ◌∙◌}
use mathlib.Core.List.{List, ◌++◌}
use Prim.Native.Nat.{ℕ, ◌≤◌, ◌<◌}
use native.Mathlib.Omega.{arith}
use lib.ListN.{length, take, drop}
use lib.Seq.{drop_at}
use Rattle.units.specs.declared.Answer.{Answer}
use Rattle.units.specs.Answers.{answer, Verdict, passed, refused, onward, answered, packed_of}
use Rattle.units.proofs.Verdicts.{never_passed, else_passed}
use Rattle.words.specs.Words.{joined, block_from}
use Rattle.words.specs.Outcomes.{Written, written, leaves}
use Rattle.words.proofs.Writing.{too_short, written_either}
use Rattle.words.proofs.Laws.{length_words_of}
use Rattle.block.specs.Judging.{wrong_size, judged, Accepted}
use Rattle.block.specs.Rules.{block_of}
use Rattle.block.proofs.Size.{size_right}
use Rattle.read_records.specs.Cases.{TextRow}
use Rattle.read_text.proofs.Known.{block_known}
use Rattle.read_text.specs.Block.{block_in, judge_lines, write_block}
use Rattle.cedar.specs.Calls.{judge_lines_answer}
use Rattle.cedar.specs.Promises.{CedarJudgesLines, CedarWritesBlock}
use Rattle.demands.specs.Demand1.{Tells}
use Rattle.demands.specs.Demand2.{bytes_in, wrote}
use Rattle.demands.specs.LookBeforeYouWrite.{JudgedExactly, JudgedThenWritten, SizeOfABlock, CedarJudgedThenWritten}
use Rattle.read_text.proofs.Outcome.{read_judged, judged_read, refused_read, refusal_judged}
use Rattle.demands.specs.Texts.{IsText}
use Rattle.demands.proofs.Texts.{texts_exactly}
use Rattle.demands.proofs.Demand1.{judge_lines_answers, cedar_judge_lines_tells, cedar_block_tells}
use Rattle.demands.proofs.Demand2.{with_room, text-gives_block, written_accepted}

-- the size of what passed
abbrev size_in : Verdict (List ℕ) → Verdict ℕ
size_in v = onward v (λ b. passed (length b))

-- of anything that is written where it passed: its size holds
size_holds : (v : Verdict (List ℕ)) (out : List ℕ) (size : ℕ) → size_in v ≡ passed size → size ≤ length out → (block : List ℕ) × (length block ≡ size) × (written 29 out v ≡ wrote block out)
size_holds (passed b) out size e room = let k : length b ≡ size = cc in (b, k, with_room 29 b out (omega arith))
size_holds (refused r) out size e room = absurd (never_passed e)

size_needed : (v : Verdict (List ℕ)) (out : List ℕ) (size : ℕ) → size_in v ≡ passed size → length out < size → written 29 out v ≡ leaves (answer 29 size 0 0) out
size_needed (passed b) out size e short = let k : length b ≡ size = cc in sym (too_short 29 out b size (sym k) short)
size_needed (refused r) out size e short = absurd (never_passed e)

refusal_holds : (v : Verdict (List ℕ)) (out : List ℕ) (r : Answer) → size_in v ≡ refused r → written 29 out v ≡ leaves r out
unfolding written
refusal_holds (passed b) out r e = absurd (never_passed (sym e))
refusal_holds (refused s) out r e = let k : s ≡ r = cc in ap (λ x. leaves x out) k

-- and back
written_holds : (v : Verdict (List ℕ)) (out : List ℕ) → ((r : Answer) → v ≡ refused r → TextRow r.n) → let r = (written 29 out v).answer in
    ((r.n ≡ 0) ⊎ (r.n ≡ 29) → size_in v ≡ passed r.a) × ((r.n ≡ 0 → ⊥) → (r.n ≡ 29 → ⊥) → size_in v ≡ refused r)
unfolding written
written_holds (refused r) out row = (λ n. absurd (by n), λ _ _. refl)
  where
    by : (r.n ≡ 0) ⊎ (r.n ≡ 29) → ⊥
    by (inl z) = omega (arith, (row r refl).0)
    by (inr k) = (row r refl).2 k
written_holds (passed b) out row = by (written_either 29 out b)
  where
    by : {w : Written} → (w ≡ leaves (answer 29 (length b) 0 0) out) ⊎ (w ≡ leaves (answer 0 (length b) 0 0) (b ++ drop (length b) out)) → let r = w.answer in
        ((r.n ≡ 0) ⊎ (r.n ≡ 29) → passed (length b) ≡ passed r.a) × ((r.n ≡ 0 → ⊥) → (r.n ≡ 29 → ⊥) → passed (length b) ≡ refused r)
    by (inl e) = (λ _. ap (λ w. passed w.answer.a) (sym e), λ _ k. absurd (k (ap (λ w. w.answer.n) e)))
    by (inr e) = (λ _. ap (λ w. passed w.answer.a) (sym e), λ z _. absurd (z (ap (λ w. w.answer.n) e)))

-- the rows of a text that is refused
blocks_row : (t : List ℕ) (r : Answer) → block_in t ≡ refused r → TextRow r.n
blocks_row t r e = (rw e at (block_known t)).listed

pub judged_then_written : JudgedThenWritten
unfolding judge_lines write_block
judged_then_written t out = let v = block_in t in ((size_holds v out, size_needed v out, refusal_holds v out), written_holds v out (blocks_row t))

-- ---- which texts, and which size

pub judged_exactly : JudgedExactly
judged_exactly t = (λ size. (given size, taken size), λ r. (refused_read t r, λ e. sym (refusal_judged t e)))
  where
    given : (size : ℕ) → judge_lines t ≡ passed size → (rs : List (List ℕ)) × IsText t rs × (size ≡ length (block_of rs))
    given size e = let j = judged_read t size e in let i = (texts_exactly t j.0).0 j.1 in (i.0, i.1, sym j.2 ∙ ap (λ ws. length (block_from ws)) i.2)

    taken : (size : ℕ) → (rs : List (List ℕ)) × IsText t rs × (size ≡ length (block_of rs)) → judge_lines t ≡ passed size
    taken size i = read_judged t (joined i.0) ((texts_exactly t (joined i.0)).1 (i.0, i.1, refl)) ∙ ap (λ k. passed k) (sym i.2)

-- ---- the size

pub size_of_a_block : SizeOfABlock
unfolding judged
size_of_a_block t size e =
    let w = judged_read t size e in
    let g = text-gives_block t w.0 w.1 in
    let s = size_right (block_from w.0) (else_passed (wrong_size (length (block_from w.0))) (answer 1 0 0 0) _ (length g.0) g.2).0 in
    omega (arith, w.2, s, length_words_of (block_from w.0))

-- ---- for C

-- both numbers that are returned, from what was judged
module _ (text block after : List ℕ) (looked made : ℕ) (j : CedarJudgesLines text looked) (w : CedarWritesBlock text block made after) where
  -- what is said of the answer that was judged
  abbrev Said : Answer → Type 0
  Said a =
      (a.n ≡ 0 → a.a ≤ length block → (made ≡ looked) × Accepted (take a.a after) × (drop a.a after ≡ drop a.a block))
      × (a.n ≡ 0 → length block < a.a → Tells made (answer 29 a.a 0 0) × (after ≡ block))
      × ((a.n ≡ 0 → ⊥) → (made ≡ looked) × (after ≡ block))

  -- where writing answers the same, the same number is returned
  same_number : {r : Answer} {out : List ℕ} → judge_lines_answer text ≡ r → write_block text block ≡ leaves r out → (made ≡ looked) × (after ≡ out)
  same_number e f = (ap (λ x. x.number) w ∙ ap (λ x. packed_of x.answer) f ∙ ap packed_of (sym e) ∙ sym j, ap (λ x. x.out) w ∙ ap (λ x. x.out) f)

  -- what is written is a good block, and the bytes past it stay
  good : (size : ℕ) → after ≡ (write_block text block).out → (b : List ℕ) × (length b ≡ size) × (write_block text block ≡ wrote b block) → Accepted (take size after) × (drop size after ≡ drop size block)
  good size out b =
      let w = write_block text block in
      let taken : take size after ≡ bytes_in w = ap (take size) out ∙ ap (λ k. take k w.out) (sym b.1 ∙ ap (λ x. x.answer.a) (sym b.2)) in
      (subst Accepted (sym taken) (written_accepted text block (ap (λ x. x.answer.n) b.2)).1, ap (drop size) (out ∙ ap (λ x. x.out) b.2) ∙ drop_at b.0 (drop (length b.0) block) size b.1 ∙ ap (λ k. drop k block) b.1)

  by_verdict : (v : Verdict ℕ) → judge_lines text ≡ v → Said (answered v)
  by_verdict (passed size) e =
      let holds = (judged_then_written text block).0 in
      let told = cedar_block_tells text block after made w in (
        λ _ room. let b = holds.0 size e room in let g = good size told.1 b in ((same_number (ap answered e) (b.2 ∙ ap (λ k. leaves (answer 0 k 0 0) (b.0 ++ drop (length b.0) block)) b.1)).0, g.0, g.1),
        λ _ short. let f = holds.1 size e short in (told.0 ∙ ap (λ x. x.answer) f, told.1 ∙ ap (λ x. x.out) f),
        λ n. absurd (n refl),
      )
  by_verdict (refused r) e =
      let listed : TextRow r.n = (rw e at (judge_lines_answers text)).0 in
      (λ z. absurd (omega (arith, listed.0)), λ z. absurd (omega (arith, listed.0)), λ _. same_number (ap answered e) ((judged_then_written text block).0.2 r e))

pub cedar_judged_then_written : CedarJudgedThenWritten
cedar_judged_then_written text block after looked made j w =
    subst (Said text block after looked made j w) (sym (cedar_judge_lines_tells text looked j)) (by_verdict text block after looked made j w (judge_lines text) refl)
