-- A file is taken for what it is, if it is good.
use mathlib.Core.Logic.{◌⊎◌, inl, inr}
use mathlib.Core.Path.{◌≡◌, refl}
use mathlib.Core.Bool.{Bool, true, false, ◌&&◌}
use mathlib.Core.List.{List, [], ◌∷◌}
use Prim.Native.Nat.{ℕ, ◌/◌, ◌≤◌}
use native.Mathlib.Omega.{arith}
use borrow.Author.Tests.{eqb-true, eqb-false}
use lib.Dec.{eqb}
use lib.ListN.{length, get_or}
use Rattle.std.specs.Prelude.{if◌then◌else◌}
use Rattle.units.specs.Units.{Line}
use Rattle.units.specs.Answers.{passed}
use Rattle.units.proofs.Choosing.{by_test, both_ways}
use Rattle.words.specs.Words.{All, Below, word, bytes_of, joined, framed, block_from}
use Rattle.words.proofs.Lists.{all_map}
use Rattle.record.specs.Rules.{RecordOk, KindOk, catalogue, header, data_record}
use Rattle.block.specs.Judging.{Accepted}
use Rattle.block.specs.Records.{records_of}
use Rattle.block.proofs.Exact.{only_good, ok_long}
use Rattle.read_cut.specs.Lines.{onto, end_length, lines_in}
use Rattle.read_records.specs.Spelled.{PlainByte, Readable}
use Rattle.read_text.specs.Block.{judge_lines}
use Rattle.read_text.proofs.Outcome.{judged_read}
use Rattle.demands.specs.LookBeforeYouWrite.{NotOfText, before_tab, after_lf, after_cr, TakenFor}
use Rattle.demands.proofs.Sound.{its-text}

-- ---- a block

-- the high byte of a kind
kind_byte : (r : List ℕ) → KindOk r → NotOfText (word r 2 / 256)
kind_byte r (catalogue k _) = before_tab (omega arith)
kind_byte r (header k _) = after_lf (omega arith) (omega arith)
kind_byte r (data_record k _) = before_tab (omega arith)

-- is the fifth byte of its block
fifth_byte : (rs : List (List ℕ)) → All RecordOk rs → 1 ≤ length rs → (5 ≤ length (block_from (joined rs))) × NotOfText (get_or (block_from (joined rs)) 4 0)
unfolding bytes_of framed joined
fifth_byte [] h some = absurd (omega arith)
fifth_byte ([] ∷ rs) h some = absurd (omega (arith, ok_long [] h.0))
fifth_byte ((a ∷ []) ∷ rs) h some = absurd (omega (arith, ok_long (a ∷ []) h.0))
fifth_byte ((a ∷ (k ∷ r)) ∷ rs) h some = (omega arith, kind_byte (a ∷ (k ∷ r)) h.0.kind)

block_byte : (b : List ℕ) → Below 256 b → Accepted b → (5 ≤ length b) × NotOfText (get_or b 4 0)
block_byte b bytes a = let g = (only_good b a.count bytes a.is).0 in rw g.bytes (fifth_byte (records_of b) g.each g.some)

-- ---- a text

-- where a line ends there stands LF or CR
end_byte : (b : ℕ) (t : List ℕ) → (end_length (b ∷ t) ≡ 0 → ⊥) → (b ≡ 10) ⊎ (b ≡ 13)
unfolding end_length
end_byte b t = by (eqb b 10) (eqb-true b 10) (eqb b 13) (eqb-true b 13) (eqb (get_or t 0 0) 10)
  where
    by : (s : Bool) → (s ≡ true → b ≡ 10) → (u : Bool) → (u ≡ true → b ≡ 13) → (v : Bool) → (◌≡◌ {A = ℕ} (if s then 1 else if u && v then 2 else 0) 0 → ⊥) → (b ≡ 10) ⊎ (b ≡ 13)
    by true p u q v n = inl (p refl)
    by false p true q v n = inr (q refl)
    by false p false q v n = absurd (n refl)

-- what holds of the bytes of each line, and of the line ends, holds of all bytes
module _ (P : ℕ → Type 0) where
  onto-all : (b : ℕ) (ls : List Line) → All (All P) (onto b ls) → P b × All (All P) ls
  unfolding onto
  onto-all b [] h = (h.0.0, tt)
  onto-all b (l ∷ ls) h = (h.0.0, (h.0.1, h.1))

  all_bytes : ((b : ℕ) → (b ≡ 10) ⊎ (b ≡ 13) → P b) → (t : List ℕ) → All (All P) (lines_in t) → All P t
  unfolding lines_in
  all_bytes ends [] h = tt
  all_bytes ends (b ∷ t) h =
      by_test (λ ls. All (All P) ls → P b × All P t) (eqb (end_length (b ∷ t)) 0) (onto b (lines_in t)) _
      (λ _ g. let o = onto-all b (lines_in t) g in (o.0, all_bytes ends t o.1))
      (λ e g. (ends b (end_byte b t (eqb-false (end_length (b ∷ t)) 0 e)), all_bytes ends t (both_ways (λ ls. All (All P) ls → All (All P) (lines_in t)) (eqb (end_length (b ∷ t)) 1) ([] ∷ lines_in t) (lines_in t) (λ x. x.1) (λ x. x) g)))
      h

-- a plain byte is of a text, and so is a line end
plain_of_text : (x : ℕ) → PlainByte x → NotOfText x → ⊥
plain_of_text x p (before_tab h) = omega (arith, p.least)
plain_of_text x p (after_lf h k) = omega (arith, p.least)
plain_of_text x p (after_cr h k) = omega (arith, p.least)

end_of_text : (x : ℕ) → (x ≡ 10) ⊎ (x ≡ 13) → NotOfText x → ⊥
end_of_text x e n = by e n
  where
    by : (x ≡ 10) ⊎ (x ≡ 13) → NotOfText x → ⊥
    by (inl e) (before_tab h) = omega arith
    by (inl e) (after_lf h k) = omega arith
    by (inl e) (after_cr h k) = omega arith
    by (inr e) (before_tab h) = omega arith
    by (inr e) (after_lf h k) = omega arith
    by (inr e) (after_cr h k) = omega arith

text_bytes : (t : List ℕ) (size : ℕ) → judge_lines t ≡ passed size → All (λ x. NotOfText x → ⊥) t
text_bytes t size e =
    let w = judged_read t size e in
    let i = (its-text t w.0 w.1).1 in
    all_bytes (λ x. NotOfText x → ⊥) end_of_text t (all_map Readable (All (λ x. NotOfText x → ⊥)) (λ l r. all_map PlainByte (λ x. NotOfText x → ⊥) plain_of_text l r.bytes) (lines_in t) i.lines)

pub taken_for : TakenFor
taken_for = (block_byte, text_bytes)
