use Rattle.write_parts.proofs.Turns.{head_turn, field_put, words_among}
use Rattle.write_parts.specs.Laid.{fields_of}
use Rattle.words.specs.Words.{pair_words}
use Rattle.field.proofs.Written.{length_field_of}
use Rattle.field.specs.Writing.{field_of}
use Rattle.words.proofs.Writing.{Going, start, fits, on, done}
use Rattle.words.specs.Words.{words_of}
use lib.ListN.{take, drop}
use lib.Seq.{sets}
use native.Mathlib.Omega.{arith}
use mathlib.Core.List.{List, [], ◌∷◌, ◌++◌, append-nil}
use mathlib.Core.Path.{◌≡◌, refl, sym, ap, ◌∙◌}
use Prim.Native.Nat.{ℕ, ◌+◌, ◌-◌, ◌≤◌}
use Rattle.write_parts.proofs.write_head.Goals as goal

-- the words behind the first two, and the whole line
abbrev words-behind : List ℕ → ℕ → List ℕ
words-behind ws n = fields_of (take (n - 2) (drop 2 ws)) ++ (10 ∷ [])

abbrev Line-left : List ℕ → ℕ → ℕ → ℕ → ℕ → List ℕ → List ℕ → ℕ → List ℕ → Type 0
Line-left o at lines kind n ws out to left = Going o at (fields_of (take n (lines ∷ (kind ∷ drop 2 ws))) ++ (10 ∷ [])) out to left

-- its three pieces are left at the start, then two, then one
module _ (o : List ℕ) (at lines kind n : ℕ) (ws : List ℕ) (least : 2 ≤ n) where
  left-1 : Line-left o at lines kind n ws o at (field_of lines ++ (field_of kind ++ words-behind ws n))
  left-1 = rw (← head_turn lines kind n (drop 2 ws) least) start

  module _ {out : List ℕ} (e : out ≡ sets o at (field_of lines)) where
    left-2 : Line-left o at lines kind n ws out (at + 6) (field_of kind ++ words-behind ws n)
    left-2 = on left-1 (field_of lines) _ refl (field_put _ _ _ e)

    module _ {out' : List ℕ} (f : out' ≡ sets out (at + 6) (field_of kind)) where
      left-3 : Line-left o at lines kind n ws out' (at + 6 + 6) (words-behind ws n)
      left-3 = on left-2 (field_of kind) _ refl (field_put _ _ _ f)

-- they are those of the pairs that are passed on
behind : (ps : List (List ℕ)) (n : ℕ) {ws : List ℕ} → pair_words ps ≡ ws → words-behind ws n ≡ (fields_of (pair_words (take (n - 2) (drop 2 ps))) ++ (10 ∷ [])) ++ []
behind ps n e = ap (λ l. fields_of l ++ (10 ∷ [])) (sym (words_among ps 2 (n - 2) e)) ∙ sym (append-nil _)

pub write_field-requires : goal.write_field-requires
write_field-requires c = let a = c.args in let ws = words_of a.whole.now in let p = c.requires in
    omega (arith, fits (left-1 a.out.now a.at.0 a.lines a.kind a.fields.0 ws p.0) (field_of a.lines) _ refl p.2, length_field_of a.lines)

pub write_field-requires-2 : goal.write_field-requires-2
write_field-requires-2 c = let a = c.args in let ws = words_of a.whole.now in let p = c.requires in
    omega (arith, fits (left-2 a.out.now a.at.0 a.lines a.kind a.fields.0 ws p.0 c.write_field.ensures) (field_of a.kind) _ refl p.2, length_field_of a.kind)

pub write_line-requires : goal.write_line-requires
write_line-requires c = let a = c.args in let ws = words_of a.whole.now in let p = c.requires in
    let l = left-3 a.out.now a.at.0 a.lines a.kind a.fields.0 ws p.0 c.write_field.ensures c.write_field-2.ensures in
    fits l _ [] (behind c.pairs.result.now a.fields.0 c.pairs.ensures.words) p.2

pub returns : goal.returns
returns c = let a = c.args in let ws = words_of a.whole.now in let p = c.requires in
    let l = left-3 a.out.now a.at.0 a.lines a.kind a.fields.0 ws p.0 c.write_field.ensures c.write_field-2.ensures in
    done (on l _ [] (behind c.pairs.result.now a.fields.0 c.pairs.ensures.words) c.write_line.ensures) refl
