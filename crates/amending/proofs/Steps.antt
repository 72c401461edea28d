-- What amend and undo come to, by what stands at the place that their entry names.
use mathlib.Core.Path.{◌≡◌, refl, sym}
use mathlib.Core.Bool.{Bool, true, false, not, ◌&&◌}
use mathlib.Core.List.{List, [], ◌∷◌, ◌++◌}
use Prim.Native.Nat.{ℕ, ◌≤◌, ◌<◌}
use native.Mathlib.Omega.{arith}
use borrow.Author.Tests.{eq-eqb, ne_eqb, lt-leb}
use lib.ListN.{length}
use lib.Dec.{eqb}
use Rattle.std.specs.Prelude.{if◌then◌else◌}
use Rattle.units.specs.declared.Answer.{Answer}
use Rattle.units.specs.Answers.{answer, Verdict, passed, refused, onward}
use Rattle.units.proofs.Verdicts.{never_passed}
use Rattle.sheet.specs.Sheets.{Layout, Entry}
use Rattle.block_value.specs.Places.{record_number, old_value, new_value, no_record, no_value, found, with_value, stands, NamesValuePlace}
use Rattle.block_value.specs.Exchange.{value_place}
use Rattle.amending.specs.Amending.{Both, both, amendable, undoable, last_of, others_of}
use Rattle.block_value.proofs.Named.{named_there}

-- a refusal that a test gives goes through
onward_else : {A B : Type 0} (t : Bool) (r : Answer) (v : Verdict A) (f : A → Verdict B) → onward (if t then refused r else v) f ≡ (if t then refused r else onward v f)
onward_else true r v f = refl
onward_else false r v f = refl

-- ---- amend

module _ (y : Layout) (e : Entry) (rs : List (List ℕ)) (es : List Entry) (room : length es < y.limit) where
  -- rows 41 to 43 are those of the place where the old value stands
  pub amend_places : amendable y e (both rs es) ≡ onward (value_place rs e (old_value e)) (λ _. passed (both (with_value rs e (new_value e)) (es ++ e ∷ [])))
  unfolding amendable value_place
  amend_places = simp (lt-leb y.limit (length es) room, onward_else)

  pub amend_passes : NamesValuePlace rs e → old_value e ≡ found rs e → amendable y e (both rs es) ≡ passed (both (with_value rs e (new_value e)) (es ++ e ∷ []))
  unfolding amendable
  amend_passes p q = simp (lt-leb y.limit (length es) room, named_there rs e p, p.value, eq-eqb (old_value e) (found rs e) q)

-- ---- undo

-- an entry stands where it names a value and its new value is found there
pub it-stands : (rs : List (List ℕ)) (e : Entry) → NamesValuePlace rs e → new_value e ≡ found rs e → stands rs e ≡ true
unfolding stands
it-stands rs e p q = simp (named_there rs e p, p.value, eq-eqb (new_value e) (found rs e) q)

module _ (rs : List (List ℕ)) (es : List Entry) where
  pub undo_empty : length es ≡ 0 → undoable (both rs es) ≡ refused (answer 45 0 0 0)
  unfolding undoable
  undo_empty z = simp (eq-eqb (length es) 0 z)

  -- the last entry stands, or row 46
  module _ (some : 1 ≤ length es) where
    pub undo-standing : stands rs (last_of es) ≡ true → undoable (both rs es) ≡ passed (both (with_value rs (last_of es) (old_value (last_of es))) (others_of es))
    unfolding undoable
    undo-standing q = simp (ne_eqb (length es) 0 (λ z. omega arith), q)

    pub undo-no-place : {r : Answer} (e : Entry) → last_of es ≡ e → value_place rs e (new_value e) ≡ refused r → undoable (both rs es) ≡ refused (answer 46 0 0 0)
    unfolding undoable stands value_place
    undo-no-place {r} e last q = rw (ne_eqb (length es) 0 (λ z. omega arith), last) (by (no_record rs (record_number e)) (no_value rs e) (eqb (new_value e) (found rs e)) _ _ q)
      where
        by : (s t u : Bool) (at : ℕ) (v : Verdict Both) → (if s then refused (answer 41 0 0 0) else if t then refused (answer 42 0 0 0) else if not u then refused (answer 43 (found rs e) 0 0) else passed at) ≡ refused r
            → (if not (not s && (not t && u)) then refused (answer 46 0 0 0) else v) ≡ refused (answer 46 0 0 0)
        by true t u at v q = refl
        by false true u at v q = refl
        by false false false at v q = refl
        by false false true at v q = absurd (never_passed (sym q))
