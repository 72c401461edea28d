use Rattle.write_parts.proofs.Turns.{tables-text, words_among, rows_sized, rows_text}
use Rattle.write_parts.specs.Laid.{laid, ended}
use Rattle.words.specs.Words.{pair_words}
use Rattle.line_plan.specs.Plan.{part, times, tables}
use Rattle.words.proofs.Writing.{first_fits, second_fits, both-put}
use Rattle.words.specs.Words.{words_of}
use Rattle.counts.specs.declared.Counts.{Counts}
use Rattle.counts.specs.Counts.{words_needed}
use Rattle.std.proofs.lemmas.List.{length-map}
use Rattle.std.specs.Int.{w16, from_be_bytes}
use lib.ListN.{length, take, drop, length-drop}
use lib.Seq.{length-take-le}
use native.Mathlib.Nat.{mul_comm}
use native.Mathlib.Omega.{arith}
use mathlib.Core.List.{List, ◌++◌}
use mathlib.Core.Path.{◌≡◌, refl, sym, ap, ap₂, ◌∙◌}
use Prim.Native.Nat.{ℕ, ◌+◌, ◌-◌, ◌*◌, ◌/◌, ◌≤◌}
use Rattle.write_parts.proofs.write_tables.Goals as goal

-- where the 1-D tables end and the 2-D tables begin, and where those end
abbrev middle : Counts → ℕ
middle c = c.lprol + 2 * c.jpar

abbrev end : Counts → ℕ
end c = middle c + (c.nrow + 1) * c.mpar

module _ (ws : List ℕ) (c : Counts) (h : words_needed c ≤ length ws) (ps : List (List ℕ)) (is : pair_words ps ≡ ws) where
  -- the pairs of the 1-D tables, and of the 2-D tables
  abbrev singles : List (List ℕ)
  singles = take (middle c - c.lprol) (drop c.lprol ps)

  abbrev rows : List (List ℕ)
  rows = take (end c - middle c) (drop (middle c) ps)

  fit : end c ≤ length ps
  fit = omega (arith, mul_comm c.mpar (c.nrow + 1), length-map ps (from_be_bytes w16), ap length is)

  singles-sized : length singles ≡ 2 * c.jpar
  singles-sized = omega (arith, length-take-le (middle c - c.lprol) (drop c.lprol ps) (omega (arith, fit, length-drop c.lprol ps)))

  rows-sized : length rows ≡ (c.nrow + 1) * c.mpar
  rows-sized = omega (arith, length-take-le (end c - middle c) (drop (middle c) ps) (omega (arith, fit, length-drop (middle c) ps)))

  singles-told : length singles ≡ length singles / c.jpar * c.jpar
  singles-told = rows_sized 2 _ c.jpar singles-sized

  rows-told : length rows ≡ length rows / c.mpar * c.mpar
  rows-told = rows_sized (c.nrow + 1) _ c.mpar rows-sized

  pieces : ended (laid (tables c) (drop c.lprol ws))
      ≡ ended (laid (times (length singles / c.jpar) (part c.jpar)) (pair_words singles)) ++ ended (laid (times (length rows / c.mpar) (part c.mpar)) (pair_words rows))
  pieces =
      tables-text ws c (middle c) (end c) refl refl (omega (arith, fit, length-map ps (from_be_bytes w16), ap length is))
      ∙ ap₂ (λ xs ys. ended (laid (times 2 (part c.jpar)) xs) ++ ended (laid (times (c.nrow + 1) (part c.mpar)) ys)) (sym (words_among ps c.lprol (middle c - c.lprol) is)) (sym (words_among ps (middle c) (end c - middle c) is))
      ∙ ap₂ ◌++◌ (sym (rows_text 2 _ c.jpar (pair_words singles) singles-sized)) (sym (rows_text (c.nrow + 1) _ c.mpar (pair_words rows) rows-sized))

-- the 1-D parts, and the 2-D rows
pub write_rows-to-requires : goal.write_rows-to-requires
write_rows-to-requires c = let a = c.args in
    let ps = c.pairs-pairs.result.now in
    let ws = words_of a.whole.now in
    (singles-told ws a.c c.requires.0 ps c.pairs-pairs.ensures.words, first_fits a.out.now _ _ _ (pieces ws a.c c.requires.0 ps c.pairs-pairs.ensures.words) c.requires.1)

pub write_rows-requires : goal.write_rows-requires
write_rows-requires c = let a = c.args in
    let ps = c.pairs-pairs.result.now in
    let ws = words_of a.whole.now in
    (rows-told ws a.c c.requires.0 ps c.pairs-pairs.ensures.words, second_fits _ _ _ _ (pieces ws a.c c.requires.0 ps c.pairs-pairs.ensures.words) c.requires.1 c.write_rows-to.ensures)

pub returns : goal.returns
returns c = let a = c.args in
    both-put _ _ _ _ (pieces (words_of a.whole.now) a.c c.requires.0 c.pairs-pairs.result.now c.pairs-pairs.ensures.words) c.requires.1 c.write_rows-to.ensures c.write_rows.ensures
