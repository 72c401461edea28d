-- What a walk over a block's records lends, by the steps that it takes.
use mathlib.Core.Path.{◌≡◌, refl, sym, ap, ◌∙◌}
use mathlib.Core.Bool.{Bool, true, false, ◌||◌}
use mathlib.Core.List.{List, [], ◌∷◌}
use Prim.Native.Nat.{ℕ, zero, suc, ◌+◌, ◌-◌}
use native.Mathlib.Nat.{add-zero}
use native.Mathlib.Numerals.{sub-one}
use native.Mathlib.Omega.{arith}
use lib.Dec.{ltb, eqb}
use lib.ListN.{length, get_or, take, drop, length-drop}
use lib.Seq.{slice, drop-drop, get_or-drop}
use Rattle.std.specs.Prelude.{Option, Some, None, if◌then◌else◌}
use Rattle.words.specs.Words.{words_of, Below}
use Rattle.words.proofs.Lists.{part_slice}
use Rattle.block.specs.Judging.{Accepted}
use Rattle.block.specs.Records.{records_of}
use Rattle.block_steps.specs.declared.Place.{Place}
use Rattle.block_steps.specs.Steps.{place_of, step_of, words_at, record_at}
use Rattle.block_steps.specs.Standing.{records_from}
use Rattle.block_steps.proofs.Steps.{step_beyond}
use Rattle.block_steps.proofs.Placed.{LeftFrom, first_left, none_left, all_left}

-- the words that are skipped may as well be left out
skipped : (n : ℕ) (ws : List ℕ) → records_from n ws ≡ records_from 0 (drop n ws)
unfolding records_from
skipped zero ws = refl
skipped (suc n) [] = refl
skipped (suc n) (w ∷ ws) = skipped n ws

-- the record that a step finds is the first of those that stand there, and the others stand behind it
abbrev pub by_step : List ℕ → Option Place → List (List ℕ)
by_step ws None = []
by_step ws (Some p) = slice p.at.0 (p.at.0 + p.size.0) ws ∷ records_from 0 (drop (p.at.0 + p.size.0) ws)

stands : (ws : List ℕ) (at : ℕ) (l : List ℕ) → drop at ws ≡ l → records_from 0 l ≡ by_step ws (step_of ws at)
unfolding records_from step_of
stands ws at [] e = rw (step_beyond ws at (omega (arith, length-drop at ws, ap length e))) refl
stands ws at (k ∷ rest) e = first k e
  where
    said : (k : ℕ) → drop at ws ≡ k ∷ rest → get_or ws at 0 ≡ k
    said k e = sym (rw add-zero at (get_or-drop at ws 0 0)) ∙ ap (λ l. get_or l 0 0) e

    behind : (k : ℕ) → drop at ws ≡ k ∷ rest → length ws - 1 - at ≡ length rest
    behind k e = omega (arith, length-drop at ws, ap length e)

    tested : (k : ℕ) → drop at ws ≡ k ∷ rest → (t : Bool) → (k ≡ 0 → t ≡ true)
        → (if t then [] else take k (k ∷ rest) ∷ records_from (k - 1) rest) ≡ by_step ws (if t then None else place_of at k)
    tested k e true z = refl
    tested zero e false z = let p : false ≡ true = z refl in cc
    tested (suc j) e false z =
        let n : at + suc j - at ≡ suc j = omega arith in
        let front : take (suc j) (suc j ∷ rest) ≡ slice at (at + suc j) ws = ap (take (suc j)) (sym e) ∙ ap (λ m. take m (drop at ws)) (sym n) ∙ part_slice at (at + suc j) ws (omega arith) in
        let back : drop j rest ≡ drop (at + suc j) ws = ap (drop (suc j)) (sym e) ∙ drop-drop (suc j) at ws in
        rw (sub-one, skipped j rest, front, back) refl

    first : (k : ℕ) → drop at ws ≡ k ∷ rest → records_from 0 (k ∷ rest) ≡ by_step ws (step_of ws at)
    first k e = rw (said k e, behind k e) (tested k e (eqb k 0 || ltb (length rest) k) (λ z. rw z refl))

pub by_steps : (ws : List ℕ) (at : ℕ) → records_from 0 (drop at ws) ≡ by_step ws (step_of ws at)
by_steps ws at = stands ws at (drop at ws) refl

-- good records that are left from a place on are those that stand there
left_stand : (ws : List ℕ) (rs : List (List ℕ)) (at : ℕ) → LeftFrom ws at rs → records_from 0 (drop at ws) ≡ rs
left_stand ws [] at l = by_steps ws at ∙ ap (by_step ws) (none_left l)
left_stand ws (r ∷ rs) at l =
    let f = first_left l in
    by_steps ws at ∙ ap (by_step ws) f.found ∙ ap (λ q. q ∷ records_from 0 (drop (at + length r) ws)) f.words ∙ ap (λ qs. r ∷ qs) (left_stand ws rs (at + length r) f.left)

-- in an accepted block they are its records
pub stand_in_block : (b : List ℕ) → Below 256 b → Accepted b → records_from 0 (drop 1 (words_of b)) ≡ records_of b
stand_in_block b bytes a = left_stand (words_of b) (records_of b) 1 (all_left b a.count bytes a.is)

-- the words at a place are those of the first record that stands there, or none
pub first_words : (ws : List ℕ) (at : ℕ) {r : List ℕ} {rs : List (List ℕ)} → records_from 0 (drop at ws) ≡ r ∷ rs → r ≡ record_at ws at
first_words ws at {r} {rs} e = by (step_of ws at) (sym (by_steps ws at) ∙ e)
  where
    by : (p : Option Place) → by_step ws p ≡ r ∷ rs → r ≡ words_at ws p
    by None f = cc
    by (Some p) f = cc

pub no_words : (ws : List ℕ) (at : ℕ) → records_from 0 (drop at ws) ≡ [] → record_at ws at ≡ []
no_words ws at e = by (step_of ws at) (sym (by_steps ws at) ∙ e)
  where
    by : (p : Option Place) → by_step ws p ≡ [] → words_at ws p ≡ []
    by None f = refl
    by (Some p) f = cc
