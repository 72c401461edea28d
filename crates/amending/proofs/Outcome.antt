-- What amend and undo leave of a block and its sheet, from what the code has found and stored.
use mathlib.Core.Path.{◌≡◌, refl, sym, ap, subst, ◌∙◌}
use mathlib.Core.List.{List, [], ◌∷◌, ◌++◌}
use Prim.Native.Nat.{ℕ, ◌+◌, ◌-◌, ◌≤◌, ◌<◌}
use native.Mathlib.Omega.{arith}
use borrow.Author.Tests.{le-leb}
use lib.ListN.{length, get_or, take, length-append}
use lib.Seq.{length-take-le}
use Rattle.std.specs.Prelude.{Result, Ok, Err}
use Rattle.std.specs.Result.{MatchResult, IsErrAnd}
use Rattle.std.proofs.lemmas.Result.{err_from_is_err_and}
use Rattle.units.specs.declared.Answer.{Answer}
use Rattle.units.specs.declared.Words.{Words}
use Rattle.units.specs.Answers.{answer, Verdict, passed, refused, onward}
use mir.Syntax.{w8}
use mir.Val.{Fits}
use Rattle.units.proofs.Verdicts.{never_passed}
use Rattle.words.proofs.Laws.{all_below}
use Rattle.block.specs.Judging.{judged}
use Rattle.block.specs.Records.{records_of}
use Rattle.block.specs.Rules.{block_of}
use Rattle.sheet.specs.Sheets.{Layout, Entry, sheet_of, entries_of, opened}
use Rattle.sheet.proofs.Sheets.{opened_sheet, sheet_opened}
use Rattle.amending.specs.declared.Objection.{Objection}
use Rattle.amending.specs.Cases.{objection_of, amended_of}
use Rattle.block_value.specs.declared.Obstacle.{Obstacle}
use Rattle.block_value.specs.Cases.{obstacle_of, spot_of}
use Rattle.block_value.specs.Places.{old_value, new_value, with_value}
use Rattle.amending.specs.Amending.{Both, buffers, both, amendable, undoable, last_of, leaving, on_both, amend, undo}
use Rattle.amending.specs.Between.{Ready}
use Rattle.block_value.specs.Exchange.{Exchanged}
use Rattle.block_value.proofs.Patched.{names_value}
use Rattle.amending.proofs.Steps.{amend_places, it-stands, undo_empty, undo-standing, undo-no-place}

-- what the look at block and sheet has found
pub look_refused : (y : Layout) (b s : List ℕ) (a : Result ℕ Objection) → amended_of a ≡ onward (judged b) (λ _. opened y s) → (r : Objection) → a ≡ Err r → (does : Both → Verdict Both) → buffers (objection_of r) b s ≡ on_both y does b s
unfolding on_both
look_refused y b s a e r f does = by (judged b) (opened y s) (sym e ∙ ap amended_of f)
  where
    by : (j o : Verdict ℕ) → onward j (λ _. o) ≡ refused (objection_of r) → buffers (objection_of r) b s ≡ leaving y b s (onward j (λ _. onward o (λ _. does (both (records_of b) (entries_of y s)))))
    by (refused x) o q = let z : objection_of r ≡ x = cc in rw z
    by (passed k) (refused x) q = let z : objection_of r ≡ x = cc in rw z
    by (passed k) (passed n) q = absurd (never_passed (sym q))

-- a block that is judged good, and a sheet that is opened
pub look_ready : (y : Layout) {b s : List ℕ} {k count : ℕ} → judged b ≡ passed k → opened y s ≡ passed count → ((i : ℕ) → Fits w8 (get_or b i 0)) → ((i : ℕ) → Fits w8 (get_or s i 0)) → Ready y b s count
look_ready y {b} {s} {k} {count} g q bytes entries =
    let p = sheet_opened y s count (all_below 256 s (λ i. (entries i).fits)) q in
    record { bytes = all_below 256 b (λ i. (bytes i).fits); accepted = record { count = k; is = g }; holds = record { layout = p.0; count_is = sym p.1 } }

-- a result that keeps its value, with another error for its own
module _ {T E D : Type 0} (Q : E → D → Type 0) where
  pub mapped_error : (r : Result T E) (m : Result T D) {d : D} → MatchResult r (λ x. m ≡ Ok x) (λ e. IsErrAnd m (Q e)) → m ≡ Err d → (e : E) × (r ≡ Err e) × Q e d
  mapped_error (Ok x) m h f = absurd (cc)
  mapped_error (Err e) m {d = d} h f = let p = err_from_is_err_and m h in let same : p.0 ≡ d = cc (p.1) in (e, refl, subst (Q e) same p.2)

  pub mapped_value : (r : Result T E) (m : Result T D) {x : T} → MatchResult r (λ x. m ≡ Ok x) (λ e. IsErrAnd m (Q e)) → m ≡ Ok x → r ≡ Ok x
  mapped_value (Ok x) m h f = cc
  mapped_value (Err e) m h f = let p = err_from_is_err_and m h in absurd (cc (p.1))

-- all is ready: what the call does decides
module _ {y : Layout} {b s : List ℕ} {count : ℕ} (h : Ready y b s count) where
  goes_on : (does : Both → Verdict Both) → leaving y b s (does (both (records_of b) (entries_of y s))) ≡ on_both y does b s
  unfolding on_both
  goes_on does = rw (h.accepted.is, (opened_sheet y s (entries_of y s) h.holds.layout).0)

  refuses : (does : Both → Verdict Both) {r : Answer} → does (both (records_of b) (entries_of y s)) ≡ refused r → buffers r b s ≡ on_both y does b s
  refuses does q = rw q at (goes_on does)

  passes : (does : Both → Verdict Both) (rs : List (List ℕ)) (es : List Entry) → does (both (records_of b) (entries_of y s)) ≡ passed (both rs es)
      → buffers (answer 0 (length es) 0 0) (block_of rs) (sheet_of y es) ≡ on_both y does b s
  passes does rs es q = rw q at (goes_on does)

  -- ---- amend

  module _ (e : Entry) where
    pub amend-full : y.limit ≤ count → buffers (answer 44 0 0 0) b s ≡ amend y e b s
    unfolding amendable
    amend-full full = refuses (amendable y e) (simp (le-leb y.limit (length (entries_of y s)) (omega (arith, h.holds.count_is))))

    -- once the values are exchanged or not
    module _ (room : count < y.limit) {new : ℕ} {b' : List ℕ} (spot : Result Words Obstacle) (x : Exchanged b e (old_value e) new (spot_of spot) b') where
      amend-is : amendable y e (both (records_of b) (entries_of y s)) ≡ onward (spot_of spot) (λ _. passed (both (with_value (records_of b) e (new_value e)) (entries_of y s ++ e ∷ [])))
      amend-is = rw x.place (amend_places y e (records_of b) (entries_of y s) (omega (arith, h.holds.count_is)))

      pub amend-refused : (r : Obstacle) → spot ≡ Err r → buffers (obstacle_of r) b' s ≡ amend y e b s
      amend-refused r q = rw (x.left, q) (refuses (amendable y e) (rw q at amend-is))

      pub amend-done : new ≡ new_value e → (at : Words) {s' : List ℕ} → spot ≡ Ok at → s' ≡ sheet_of y (entries_of y s ++ e ∷ []) → buffers (answer 0 (count + 1) 0 0) b' s' ≡ amend y e b s
      amend-done v at q f =
          let n : count + 1 ≡ length (entries_of y s ++ e ∷ []) = omega (arith, h.holds.count_is, length-append (entries_of y s) (e ∷ [])) in
          rw (x.left, q, v, f, n) (passes (amendable y e) _ _ (rw q at amend-is))

  -- ---- undo

  pub undo-none : count ≡ 0 → buffers (answer 45 0 0 0) b s ≡ undo y b s
  undo-none z = refuses undoable (undo_empty (records_of b) (entries_of y s) (omega (arith, h.holds.count_is)))

  -- once the values are exchanged back or not
  module _ (n : count ≡ 0 → ⊥) (e : Entry) (is_last : e ≡ get_or (entries_of y s) (count - 1) []) (spot : Result Words Obstacle) {back : ℕ} {b' : List ℕ} (x : Exchanged b e (new_value e) back (spot_of spot) b') where
    some : 1 ≤ length (entries_of y s)
    some = omega (arith, h.holds.count_is)

    last : last_of (entries_of y s) ≡ e
    last = rw (← h.holds.count_is) (sym is_last)

    pub undo-refused : (r : Obstacle) → spot ≡ Err r → buffers (answer 46 0 0 0) b' s ≡ undo y b s
    undo-refused r q = rw (x.left, q) (refuses undoable (undo-no-place (records_of b) (entries_of y s) some e last (sym x.place ∙ ap spot_of q)))

    pub undo-done : back ≡ old_value e → (at : Words) {s' : List ℕ} → spot ≡ Ok at → s' ≡ sheet_of y (take (count - 1) (entries_of y s)) → buffers (answer 0 (count - 1) 0 0) b' s' ≡ undo y b s
    undo-done v at q f =
        let es = entries_of y s in
        let its = names_value (records_of b) e (new_value e) at.0 (sym x.place ∙ ap spot_of q) in
        let l : length es - 1 ≡ count - 1 = omega (arith, h.holds.count_is) in
        let k : count - 1 ≡ length (take (count - 1) es) = sym (length-take-le (count - 1) es (omega (arith, h.holds.count_is))) in
        rw (k, x.left, q, v, f) (passes undoable _ _ (rw (last, l) at (undo-standing (records_of b) es some (rw last (it-stands (records_of b) e its.named its.stands)))))
