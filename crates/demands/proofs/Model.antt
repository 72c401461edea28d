-- Amend and undo on a stack of standing amendments: which are refused, and what stands after the others.
use mathlib.Core.Path.{◌≡◌, sym, ap, ◌∙◌}
use mathlib.Core.Bool.{true, false, not}
use mathlib.Core.List.{List, [], ◌∷◌, ◌++◌, append-nil}
use Prim.Native.Nat.{ℕ, ◌+◌, ◌-◌, ◌≤◌, ◌<◌}
use native.Mathlib.Omega.{arith}
use borrow.Author.Tests.{leb-false, eqb-true, not-false}
use lib.Dec.{eqb, leb}
use lib.ListN.{length, length-append}
use lib.Seq.{append_snoc, take_at, get_or_at}
use Rattle.units.specs.Answers.{answer, Verdict, passed, refused}
use Rattle.units.proofs.Choosing.{by_test}
use Rattle.words.specs.Words.{All}
use Rattle.words.proofs.Laws.{get_or_below}
use Rattle.words.proofs.Lists.{all_append, all_parts}
use Rattle.record.specs.Rules.{RecordOk}
use Rattle.record.specs.Values.{is_value}
use Rattle.sheet.specs.Sheets.{Layout, Entry}
use Rattle.sheet.specs.Rules.{IsEntry}
use Rattle.block_value.specs.Places.{record_number, word_number, old_value, new_value, record_in, no_record, no_value, found, with_value, stands, NamesValuePlace}
use Rattle.amending.specs.Amending.{Both, both, amendable, last_of, others_of, undoable}
use Rattle.block_value.proofs.Named.{is_record}
use Rattle.amending.proofs.Steps.{amend_passes, undo-standing, it-stands}
use Rattle.demands.specs.Demand3.{put_in, MayAmend}
use Rattle.demands.proofs.Values.{Alike, amended-alike, amended-found, put_back, alike_count, alike_value, alike_named}
use Rattle.demands.proofs.Stack.{Stack, put_in_append, stack_append, stack_parts, put_in_good, put_in_alike}

-- a stack that calls can reach: entries of the layout, no more than it has room for, each one put in
pub record Reached (y : Layout) (rs : List (List ℕ)) (es : List Entry) : Type 0 where
  pub each : All (IsEntry y) es
  pub most : length es ≤ y.limit
  pub stack : Stack rs es

-- none need stand
pub none_reached : (y : Layout) (rs : List (List ℕ)) → Reached y rs []
none_reached y rs = record { each = tt; most = omega arith; stack = tt }

-- ---- amend

module _ (y : Layout) (rs : List (List ℕ)) (es : List Entry) (good : All RecordOk rs) (h : Reached y rs es) where
  abbrev ps : List (List ℕ)
  ps = put_in rs es

  alike : Alike rs ps
  alike = put_in_alike rs es good h.stack

  module _ (e : Entry) where
    told : leb y.limit (length es) ≡ false → (1 ≤ record_number e) × (record_number e ≤ length ps) → is_value (record_in ps (record_number e)) (word_number e) ≡ true
        → old_value e ≡ found ps e → MayAmend y rs es e
    told room has value old =
        record {
          room = leb-false y.limit (length es) room;
          place = record {
            least = has.0;
            most = omega (arith, has.1, alike_count rs ps alike);
            value = sym (alike_value rs ps alike (record_number e) (word_number e)) ∙ value;
          };
          old = sym old;
        }

    -- it names a value of the records as they are
    named : MayAmend y rs es e → NamesValuePlace ps e
    named a = alike_named rs ps alike e a.place

    -- it is refused, or it is an amendment and stands last
    pub amend-either : (P : Verdict Both → Type 0) → ((n a : ℕ) → 0 < n → P (refused (answer n a 0 0)))
        → (MayAmend y rs es e → P (passed (both (with_value ps e (new_value e)) (es ++ e ∷ [])))) → P (amendable y e (both ps es))
    unfolding amendable
    amend-either P refuses accepts =
        by_test P (leb y.limit (length es)) _ _ (λ _. refuses 44 0 (omega arith)) λ room.
        by_test P (no_record ps (record_number e)) _ _ (λ _. refuses 41 0 (omega arith)) λ has.
        by_test P (no_value ps e) _ _ (λ _. refuses 42 0 (omega arith)) λ value.
        by_test P (not (eqb (old_value e) (found ps e))) _ _ (λ _. refuses 43 (found ps e) (omega arith)) λ old.
        accepts (told room (is_record ps (record_number e) has) (not-false _ value) (eqb-true (old_value e) (found ps e) (not-false _ old)))

    -- an amendment is not refused
    pub amend-accepted : MayAmend y rs es e → amendable y e (both ps es) ≡ passed (both (put_in rs (es ++ e ∷ [])) (es ++ e ∷ []))
    amend-accepted a = amend_passes y e ps es a.room (named a) (sym a.old) ∙ ap (λ qs. passed (both qs (es ++ e ∷ []))) (sym (put_in_append rs es (e ∷ [])))

    -- and the stack can be reached with it
    pub reached-on : IsEntry y e → MayAmend y rs es e → Reached y rs (es ++ e ∷ [])
    reached-on is a =
        record {
          each = all_append (IsEntry y) es (e ∷ []) h.each (is, tt);
          most = omega (arith, a.room, length-append es (e ∷ []));
          stack = stack_append rs es (e ∷ []) h.stack (record { named = named a; old = a.old; new = get_or_below 65536 e 3 (omega arith) is.numbers }, tt);
        }

-- ---- undo

-- row 46 is not given right after an amendment
new_stands : (rs : List (List ℕ)) (e : Entry) → All RecordOk rs → NamesValuePlace rs e → stands (with_value rs e (new_value e)) e ≡ true
new_stands rs e good p =
    let v = new_value e in
    let n = alike_named rs (with_value rs e v) (amended-alike rs e good p v) e p in
    it-stands (with_value rs e v) e n (sym (amended-found rs e good p v))

-- where an entry stands last, the others are those before it
module _ (before : List Entry) (e : Entry) where
  abbrev all : List Entry
  all = before ++ e ∷ []

  length-all : length all ≡ length before + 1
  length-all = length-append before (e ∷ [])

  last_is : last_of all ≡ e
  last_is = get_or_at before e [] [] (length all - 1) (omega (arith, length-all))

  others_are : others_of all ≡ before
  others_are = take_at before (e ∷ []) (length all - 1) (omega (arith, length-all))

  -- and where its new value stands, its old value is put back
  last_undone : (rs : List (List ℕ)) → stands rs e ≡ true → undoable (both rs all) ≡ passed (both (with_value rs e (old_value e)) before)
  last_undone rs s = rw (last_is, others_are) at (undo-standing rs all (omega (arith, length-all)) (rw last_is s))

  -- of a stack that can be reached, the last one goes
  module _ (y : Layout) (rs : List (List ℕ)) (good : All RecordOk rs) (h : Reached y rs all) where
    pub reached-before : Reached y rs before
    reached-before =
        record {
          each = (all_parts (IsEntry y) before (e ∷ []) h.each).0;
          most = omega (arith, h.most, length-all);
          stack = (stack_parts rs before (e ∷ []) h.stack).0;
        }

    pub undo-last : undoable (both (put_in rs all) all) ≡ passed (both (put_in rs before) before)
    undo-last =
        let qs = put_in rs before in
        let g = put_in_good rs before good reached-before.stack in
        let fit = (stack_parts rs before (e ∷ []) h.stack).1.0 in
        let v = new_value e in
        ap (λ ss. undoable (both ss all)) (put_in_append rs before (e ∷ []))
        ∙ last_undone (with_value qs e v) (new_stands qs e g fit.named)
        ∙ ap (λ ss. passed (both ss before)) (ap (with_value (with_value qs e v) e) (sym fit.old) ∙ put_back qs e g fit.named v)

-- what holds of no entry, and goes from some to one more behind them, holds of all
pub from_end : (P : List Entry → Type 0) → P [] → ((before : List Entry) (e : Entry) → P before → P (before ++ e ∷ [])) → (es : List Entry) → P es
from_end P none more es = go [] none es
  where
    go : (before : List Entry) → P before → (es : List Entry) → P (before ++ es)
    go before p [] = rw append-nil p
    go before p (e ∷ es) = rw append_snoc at (go (before ++ e ∷ []) (more before e p) es)
