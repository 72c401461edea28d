use Rattle.write_parts.proofs.Turns.{prologue_text, words_among}
use Rattle.write_parts.specs.Laid.{fields_of, laid, ended, part_text}
use Rattle.words.specs.Words.{pair_words}
use Rattle.line_plan.specs.Plan.{part}
use Rattle.words.proofs.Writing.{first_fits, second_fits, both-put}
use Rattle.words.specs.Words.{words_of}
use lib.ListN.{length, take, drop}
use native.Mathlib.Omega.{arith}
use mathlib.Core.List.{List, [], ◌∷◌, ◌++◌}
use mathlib.Core.Path.{◌≡◌, sym, ap, ◌∙◌}
use Prim.Native.Nat.{ℕ, ◌-◌, ◌≤◌, min}
use Rattle.write_parts.proofs.write_prologue.Goals as goal

-- the first line of n fields, and what is behind it, as words and as the pairs that are passed on
first : (lines n : ℕ) (ws : List ℕ) (lprol : ℕ) {kind : ℕ} → kind ≡ 1101 → 16 ≤ lprol → lprol ≤ length ws → n ≡ min lprol 20
    → ended (laid (part lprol) (lines ∷ (1101 ∷ drop 2 ws))) ≡ (fields_of (take n (lines ∷ (kind ∷ drop 2 ws))) ++ (10 ∷ [])) ++ part_text (take (lprol - n) (drop n ws))
first lines n ws lprol shown least most e = rw shown (prologue_text lines n ws lprol least most e)

pieces : (lines n : ℕ) (ws : List ℕ) (lprol : ℕ) (ps : List (List ℕ)) {kind : ℕ} → kind ≡ 1101 → 16 ≤ lprol → lprol ≤ length ws → n ≡ min lprol 20 → pair_words ps ≡ ws
    → ended (laid (part lprol) (lines ∷ (1101 ∷ drop 2 ws))) ≡ (fields_of (take n (lines ∷ (kind ∷ drop 2 ws))) ++ (10 ∷ [])) ++ part_text (pair_words (take (lprol - n) (drop n ps)))
pieces lines n ws lprol ps {kind} shown least most e is =
    first lines n ws lprol shown least most e ∙ ap (λ l. (fields_of (take n (lines ∷ (kind ∷ drop 2 ws))) ++ (10 ∷ [])) ++ part_text l) (sym (words_among ps n (lprol - n) is))

pub write_head-to-requires : goal.write_head-to-requires
write_head-to-requires c = let a = c.args in
    let e = c.on_line-first.ensures in
    let p = c.requires in
    (omega arith, omega arith, first_fits a.out.now _ _ _ (first a.lines _ (words_of a.whole.now) a.lprol.0 c.shown-kind.ensures p.0 p.1 e) p.2)

pub write_part-requires : goal.write_part-requires
write_part-requires c = let a = c.args in
    let p = c.requires in
    second_fits _ _ _ _ (pieces a.lines c.on_line-first.result.0 (words_of a.whole.now) a.lprol.0 c.pairs.result.now c.shown-kind.ensures p.0 p.1 c.on_line-first.ensures c.pairs.ensures.words) p.2 c.write_head-to.ensures

pub returns : goal.returns
returns c = let a = c.args in
    let p = c.requires in
    both-put _ _ _ _ (pieces a.lines c.on_line-first.result.0 (words_of a.whole.now) a.lprol.0 c.pairs.result.now c.shown-kind.ensures p.0 p.1 c.on_line-first.ensures c.pairs.ensures.words) p.2 c.write_head-to.ensures
    c.write_part.ensures
