use mathlib.Core.Path.{◌≡◌, refl, ap, ◌∙◌}
use mathlib.Core.Logic.{⊎_elim}
use Rattle.std.specs.Prelude.{Some, None}
use Rattle.std.specs.Iterator.Adapters.{zip_first, zip_second}
use native.Mathlib.Omega.{arith}
use lib.ListN.{length, length-append}
use Prim.Native.Nat.{◌+◌, ◌<◌}
use Rattle.std.proofs.Common.{List, ℕ, ◌∷◌}
use Rattle.words.specs.Words.{words_of, joined, most_words}
use Rattle.words.proofs.Laws.{all_below}
use Rattle.words.proofs.Writing.{start, fits, on, done}
use Rattle.block_steps.proofs.Turns.{loop_start, turn, loop_on, loop_end, start_within}
use Rattle.listed.specs.Listing.{row_of, rows_of}
use Rattle.listed.proofs.Rows.{rows_on}
use Rattle.listed.proofs.write_listing.Goals as goal

-- the words of the next record, and of those behind it
split : (at : ℕ) (r : List ℕ) (rs : List (List ℕ)) → at + length (joined (r ∷ rs)) < most_words → at + length r + length (joined rs) < most_words
unfolding joined
split at r rs h = omega (arith, length-append r (joined rs))

-- the numbers begin at 1
pub loop-number-init : goal.loop-number-init
loop-number-init c = let b = c.args.block.now in
    let below = all_below 256 b (λ i. omega (arith, c.type_inv.block i)) in
    let is = c.into_iter-number-iterator.ensures.into_iter_gives in
    let one : (zip_first c.into_iter-number-iterator.result).start ≡ 1 = rw (ap zip_first is ∙ c.zip-number-items.ensures.first) refl in
    loop_start b below c.requires.0 c.records.ensures.left (ap zip_second is ∙ c.zip-number-items.ensures.second)
    (record { few = omega (arith, one); within = omega (arith, start_within b below c.requires.0); going = rw one start })

-- the first record that is left
pub write_row-to-requires : goal.write_row-to-requires
write_row-to-requires c = let s = c.in-Some.ensures.steps in
    let t = turn c.loop-number.invariant (Some c.in-Some.whole) _ s.1.0 refl in
    let l = c.loop-number in
    (omega (arith, t.holds.within), t.good, fits t.holds.going (row_of c.in-Some.number l.at (words_of c.in-Some.whole.now)) _ (rows_on _ _ _ _ _ refl s.0.0 s.0.1) c.requires.1)

pub overflow_add-at : goal.overflow_add-at
overflow_add-at c = let t = turn c.loop-number.invariant (Some c.in-Some.whole) _ c.in-Some.ensures.steps.1.0 refl in
    omega (arith, c.count-at.ensures, split _ _ _ t.holds.within)

pub loop-number-preserved : goal.loop-number-preserved
loop-number-preserved c = let s = c.in-Some.ensures.steps in
    let t = turn c.loop-number.invariant (Some c.in-Some.whole) _ s.1.0 refl in
    loop_on t (record {
      few = omega (arith, c.count-at.ensures, t.long, t.holds.few, s.0.1);
      within = omega (arith, c.count-at.ensures, split _ _ _ t.holds.within);
      going = on t.holds.going _ _ (rows_on _ _ _ _ _ c.count-at.ensures s.0.0 s.0.1) c.write_row-to.ensures;
    })

-- the numbers do not end before the records
pub returns : goal.returns
unfolding rows_of
returns c =
    let holds = c.loop-number.invariant.holds in
    ⊎_elim (λ s. absurd (omega (arith, s.1.0, holds.few, holds.within))) (λ s. done (loop_end c.loop-number.invariant None _ s.1.0 refl).going refl) c.in-None.ensures.steps
