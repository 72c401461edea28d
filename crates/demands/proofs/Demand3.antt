-- Demand 3 holds.
use mathlib.Core.Path.{◌≡◌, refl, sym, ap, subst, ◌∙◌}
use mathlib.Core.Logic.{◌↔◌}
use mathlib.Core.List.{List, [], ◌∷◌, ◌++◌, map}
use Prim.Native.Nat.{ℕ, suc, ◌≤◌}
use native.Mathlib.Omega.{arith}
use lib.ListN.{length, replicate, length-append}
use Rattle.units.specs.declared.Answer.{Answer}
use Rattle.units.specs.Answers.{answer, Verdict, passed, refused, packed_of, taken_apart}
use Rattle.units.proofs.Packing.{taken_apart_lem}
use Rattle.words.specs.Words.{All, Below}
use Rattle.words.specs.Outcomes.{written}
use Rattle.words.proofs.Lists.{all_parts, all_replicate, all_mapped}
use Rattle.block.specs.Judging.{judged}
use Rattle.block.specs.Records.{records_of}
use Rattle.block.specs.Rules.{block_of, IsBlock}
use Rattle.block.proofs.Exact.{only_good, every_good, its_records}
use Rattle.write_lines.specs.Text.{text_of}
use Rattle.write_lines.proofs.Outcome.{when_accepted}
use Rattle.sheet.specs.Sheets.{Layout, Entry, version1, sheet_of}
use Rattle.sheet.specs.Rules.{IsEntry}
use Rattle.sheet.proofs.Sheets.{opened_sheet}
use Rattle.amending.specs.Amending.{buffers, Both, both, amendable, undoable, leaving, on_both, amend, undo}
use Rattle.amending.proofs.Steps.{undo_empty}
use Rattle.demands.specs.Demand3.{Call, amends, undoes, prints, of_both, done, done_all, Buffers, left_by, fresh, Takes, put_in, stacked, modelled, modelled_all, stack_after, MayAmend, success, AcceptanceRule, CedarAcceptance, as_buffers, StandingPutIn, LastStands, LinesDiffer, UndoneGivesBack}
use Rattle.demands.proofs.Values.{alike_count}
use Rattle.demands.proofs.Stack.{Stack, stack_named, put_in_append, put_in_alike, put_in_block, last_stands}
use Rattle.demands.proofs.AmendedText.{stack_apart, stack_shows}
use Rattle.demands.proofs.Model.{Reached, none_reached, amend-either, amend-accepted, reached-on, reached-before, undo-last, from_end}
use Rattle.block_value.specs.Places.{NamesValuePlace}

-- ---- one call

-- both buffers while these amendments stand
abbrev holding : Layout → List (List ℕ) → List Entry → Buffers
holding y rs es = record { block = block_of (put_in rs es); sheet = sheet_of y es }

-- what passes is a stack that can be reached, and the records that it leaves of the first ones
abbrev Tracks : Layout → List (List ℕ) → Verdict Both → Type 0
Tracks y rs (passed t) = (t.records ≡ put_in rs t.entries) × Reached y rs t.entries
Tracks y rs (refused r) = Unit {0}

-- over the records of an accepted block
module _ (y : Layout) (rs : List (List ℕ)) (good : IsBlock (block_of rs) rs) where
  module _ (es : List Entry) (h : Reached y rs es) where
    abbrev ps : List (List ℕ)
    ps = put_in rs es

    still-block : IsBlock (block_of ps) ps
    still-block = put_in_block rs es good h.stack

    still-judged : judged (block_of ps) ≡ passed (length rs)
    still-judged = every_good (block_of ps) ps still-block ∙ ap (λ k. passed k) (alike_count rs ps (put_in_alike rs es good.each h.stack))

    on_both_lem : (does : Both → Verdict Both) → on_both y does (block_of ps) (sheet_of y es) ≡ leaving y (block_of ps) (sheet_of y es) (does (both ps es))
    unfolding on_both
    on_both_lem does =
        let o = opened_sheet y (sheet_of y es) es (record { bytes = refl; each = h.each; most = h.most }) in
        rw (still-judged, o.0, o.1, its_records (block_of ps) ps still-block)

    both-shown : (v : Verdict Both) → Tracks y rs v → (of_both (leaving y (block_of ps) (sheet_of y es) v) ≡ as_buffers y rs (stacked es v)) × Reached y rs (stacked es v).stack
    both-shown (refused r) s = (refl, h)
    both-shown (passed t) s = (rw s.0 refl, s.1)

    amend-tracks : (e : Entry) → IsEntry y e → Tracks y rs (amendable y e (both ps es))
    amend-tracks e is =
        amend-either y rs es good.each h e (Tracks y rs) (λ n a _. tt)
        (λ a. (sym (put_in_append rs es (e ∷ [])), reached-on y rs es good.each h e is a))

    -- an amendment is accepted, and nothing else is
    amended : (e : Entry) → MayAmend y rs es e → amend y e (block_of ps) (sheet_of y es) ≡ success y rs (es ++ e ∷ [])
    amended e a = on_both_lem (amendable y e) ∙ ap (leaving y (block_of ps) (sheet_of y es)) (amend-accepted y rs es good.each h e a)

    amend-rule : (e : Entry) → ((amend y e (block_of ps) (sheet_of y es)).answer.n ≡ 0) ↔ MayAmend y rs es e
    amend-rule e = (
      λ z. amend-either y rs es good.each h e (λ v. (leaving y (block_of ps) (sheet_of y es) v).answer.n ≡ 0 → MayAmend y rs es e)
          (λ n a l q. absurd (omega arith)) (λ a q. a) (sym (ap (λ o. o.answer.n) (on_both_lem (amendable y e))) ∙ z),
      λ a. ap (λ o. o.answer.n) (amended e a),
    )

  undo_tracks : (es : List Entry) → Reached y rs es → Tracks y rs (undoable (both (put_in rs es) es))
  undo_tracks =
      from_end (λ es. Reached y rs es → Tracks y rs (undoable (both (put_in rs es) es))) (λ h. rw (undo_empty rs [] refl) tt)
      (λ before e _ h. rw (undo-last before e y rs good.each h) (refl, reached-before before e y rs good.each h))

  -- the last amendment is undone, and nothing else is
  undone : (before : List Entry) (e : Entry) → Reached y rs (before ++ e ∷ [])
      → undo y (block_of (put_in rs (before ++ e ∷ []))) (sheet_of y (before ++ e ∷ [])) ≡ success y rs before
  undone before e h =
      let es = before ++ e ∷ [] in
      on_both_lem es h undoable ∙ ap (leaving y (block_of (put_in rs es)) (sheet_of y es)) (undo-last before e y rs good.each h)

  none_undone : undo y (block_of rs) (sheet_of y []) ≡ buffers (answer 45 0 0 0) (block_of rs) (sheet_of y [])
  none_undone = on_both_lem [] (none_reached y rs) undoable ∙ ap (leaving y (block_of rs) (sheet_of y [])) (undo_empty rs [] refl)

  undo_rule : (es : List Entry) → Reached y rs es → ((undo y (block_of (put_in rs es)) (sheet_of y es)).answer.n ≡ 0) ↔ (1 ≤ length es)
  undo_rule =
      from_end (λ es. Reached y rs es → ((undo y (block_of (put_in rs es)) (sheet_of y es)).answer.n ≡ 0) ↔ (1 ≤ length es))
      (λ h. (λ z. absurd (omega (arith, z, ap (λ o. o.answer.n) none_undone)), λ some. absurd (omega arith)))
      (λ before e _ h. (λ z. omega (arith, length-append before (e ∷ [])), λ some. ap (λ o. o.answer.n) (undone before e h)))

  -- a call leaves what the model leaves, and that can be reached
  step : (es : List Entry) → Reached y rs es → (c : Call) → Takes y c
      → (done y (block_of (put_in rs es)) (sheet_of y es) c ≡ as_buffers y rs (modelled y rs es c)) × Reached y rs (modelled y rs es c).stack
  step es h (amends e) is =
      let p = both-shown es h (amendable y e (both (put_in rs es) es)) (amend-tracks es h e is) in (ap of_both (on_both_lem es h (amendable y e)) ∙ p.0, p.1)
  step es h undoes is = let p = both-shown es h (undoable (both (put_in rs es) es)) (undo_tracks es h) in (ap of_both (on_both_lem es h undoable) ∙ p.0, p.1)
  step es h (prints text) is =
      let b = block_of (put_in rs es) in (
        ap (λ w. record { answer = w.answer; block = b; sheet = sheet_of y es; out = w.out })
            (when_accepted b text (length rs) (still-judged es h) ∙ ap (λ qs. written 29 text (passed (text_of qs))) (its_records b (put_in rs es) (still-block es h))),
        h,
      )

  -- ---- all calls

  -- every call leaves what the model leaves, and an accepted block
  all_shown : (es : List Entry) → Reached y rs es → (cs : List Call) → All (Takes y) cs
      → (done_all y (block_of (put_in rs es)) (sheet_of y es) cs ≡ map (as_buffers y rs) (modelled_all y rs es cs))
      × All (λ d. judged d.block ≡ passed (length rs)) (done_all y (block_of (put_in rs es)) (sheet_of y es) cs)
  all_shown es h [] a = (refl, tt)
  all_shown es h (c ∷ cs) a =
      let s = step es h c a.0 in
      let m = modelled y rs es c in
      let rest = all_shown m.stack s.1 cs a.1 in
      rw s.0 (ap (λ l. as_buffers y rs m ∷ l) rest.0, (still-judged m.stack s.1, rest.1))

  -- what all calls leave
  left_shown : (es : List Entry) → Reached y rs es → (cs : List Call) → All (Takes y) cs
      → (left_by y (holding y rs es) cs ≡ holding y rs (stack_after y rs es cs)) × Reached y rs (stack_after y rs es cs)
  left_shown es h [] a = (refl, h)
  left_shown es h (c ∷ cs) a = let s = step es h c a.0 in rw s.0 (left_shown (modelled y rs es c).stack s.1 cs a.1)

  -- ---- undone

  -- the model's undo takes the last one
  model_last : (before : List Entry) (e : Entry) → Reached y rs (before ++ e ∷ [])
      → modelled y rs (before ++ e ∷ []) undoes ≡ record { answer = answer 0 (length before) 0 0; stack = before; out = [] }
  model_last before e h = ap (stacked (before ++ e ∷ [])) (undo-last before e y rs good.each h)

  -- calls that take all amendments from the stack, none of them refused
  abbrev Undone : List Entry → List Call → Type 0
  Undone es cs = (stack_after y rs es cs ≡ []) × All (λ m. m.answer.n ≡ 0) (modelled_all y rs es cs)

  undone_on : (before : List Entry) (e : Entry) (cs : List Call) → Reached y rs (before ++ e ∷ []) → Undone before cs → Undone (before ++ e ∷ []) (undoes ∷ cs)
  undone_on before e cs h rest =
      subst (λ m. (stack_after y rs m.stack cs ≡ []) × ((m.answer.n ≡ 0) × All (λ o. o.answer.n ≡ 0) (modelled_all y rs m.stack cs)))
      (sym (model_last before e h)) (rest.0, (refl, rest.1))

  all_undone : (es : List Entry) → Reached y rs es → Undone es (replicate (length es) undoes)
  all_undone =
      from_end (λ es. Reached y rs es → Undone es (replicate (length es) undoes)) (λ h. (refl, tt))
      (λ before e ih h.
      let n : length (before ++ e ∷ []) ≡ suc (length before) = omega (arith, length-append before (e ∷ [])) in
      rw n (undone_on before e (replicate (length before) undoes) h (ih (reached-before before e y rs good.each h))))

-- ---- from an accepted block and an empty sheet

module _ (b : List ℕ) (k : ℕ) (bytes : Below 256 b) (accepted : judged b ≡ passed k) where
  abbrev first : List (List ℕ)
  first = records_of b

  is_block : b ≡ block_of first
  is_block = (only_good b k bytes accepted).0.bytes

  first_good : IsBlock (block_of first) first
  first_good = let g = (only_good b k bytes accepted).0 in record { bytes = refl; each = g.each; some = g.some; most = g.most }

  left : (y : Layout) (cs : List Call) → All (Takes y) cs → (left_by y (fresh y b) cs ≡ holding y first (stack_after y first [] cs)) × Reached y first (stack_after y first [] cs)
  left y cs a = let l = left_shown y first first_good [] (none_reached y first) cs a in (ap (λ c. left_by y (fresh y c) cs) is_block ∙ l.0, l.1)

pub standing-put_in : StandingPutIn
standing-put_in y b k cs bytes accepted takes =
    let rs = records_of b in
    let all = all_shown y rs (first_good b k bytes accepted) [] (none_reached y rs) cs takes in
    let each =
    subst (λ c. (done_all y c (sheet_of y []) cs ≡ map (as_buffers y rs) (modelled_all y rs [] cs)) × All (λ d. judged d.block ≡ passed k) (done_all y c (sheet_of y []) cs))
    (sym (is_block b k bytes accepted)) (rw (only_good b k bytes accepted).1 at all) in
    ((left b k bytes accepted y cs takes).0, each.0, each.1)

pub last_standing : LastStands
last_standing y b k cs bytes accepted takes before after e q others =
    let rs = records_of b in
    let good = (first_good b k bytes accepted).each in
    let s : Stack rs (before ++ e ∷ after) = rw q at (left b k bytes accepted y cs takes).1.stack in
    let n = (all_parts (NamesValuePlace rs) before (e ∷ after) (stack_named rs (before ++ e ∷ after) good s)).1.0 in
    (n, rw q (last_stands rs before after e good s others))

pub acceptance_rule : AcceptanceRule
acceptance_rule y b k cs bytes accepted takes =
    let rs = records_of b in
    let es = stack_after y rs [] cs in
    let good = first_good b k bytes accepted in
    let l = left b k bytes accepted y cs takes in
    let h = l.1 in
    rw l.0 (
      amend-rule y rs good es h,
      undo_rule y rs good es h,
      amended y rs good es h,
      λ before e q. rw q (undone y rs good before e (rw q at h)),
      λ q. rw q (none_undone y rs good),
    )

-- where the number returned tells n = 0 the answer has it, and a count of amendments leaves it so
zero_told : (r : Answer) → (taken_apart (packed_of r)).n ≡ 0 → r.n ≡ 0
zero_told r z = omega (arith, z)

zero_kept : (a : ℕ) → a ≤ 64 → (taken_apart (packed_of (answer 0 a 0 0))).n ≡ 0
zero_kept a h = ap (λ r. r.n) (taken_apart_lem (answer 0 a 0 0) (omega arith))

-- some entries, apart from the last
last_of : (es : List Entry) → 1 ≤ length es → (before : List Entry) × ((e : Entry) × (es ≡ before ++ e ∷ []))
last_of = from_end (λ es. 1 ≤ length es → (before : List Entry) × ((e : Entry) × (es ≡ before ++ e ∷ []))) (λ h. absurd (omega arith)) (λ before e ih h. (before, (e, refl)))

pub cedar_acceptance : CedarAcceptance
cedar_acceptance b k cs bytes accepted takes r block sheet =
    let es = stack_after version1 (records_of b) [] cs in
    let p = left_by version1 (fresh version1 b) cs in
    let most : length es ≤ 64 = (left b k bytes accepted version1 cs takes).1.most in
    let rule = acceptance_rule version1 b k cs bytes accepted takes in (
      λ e q.
          let is : r ≡ packed_of (amend version1 e p.block p.sheet).answer = ap (λ x. x.number) q in (
            λ z. (rule.0 e).0 (zero_told _ (rw is at z)),
            λ may. rw (is, rule.2 e may) (zero_kept (length (es ++ e ∷ [])) (omega (arith, length-append es (e ∷ []), may.room))),
          ),
      λ q.
          let is : r ≡ packed_of (undo version1 p.block p.sheet).answer = ap (λ x. x.number) q in (
            λ z. rule.1.0 (zero_told _ (rw is at z)),
            λ some.
                let l = last_of es some in
                rw (is, rule.3 l.0 l.1.0 l.1.1) (zero_kept (length l.0) (omega (arith, ap length l.1.1, length-append l.0 (l.1.0 ∷ [])))),
          ),
    )

pub undone_gives_back : UndoneGivesBack
undone_gives_back y b k cs bytes accepted takes =
    let rs = records_of b in
    let good = first_good b k bytes accepted in
    let l = left b k bytes accepted y cs takes in
    let es = stack_after y rs [] cs in
    let all = replicate (length es) undoes in
    let undone = all_undone y rs good es l.1 in
    let t = all_replicate (Takes y) (length es) undoes tt in (
      ap (λ p. left_by y p all) l.0 ∙ (left_shown y rs good es l.1 all t).0 ∙ ap (holding y rs) undone.0 ∙ ap (fresh y) (sym (is_block b k bytes accepted)),
      subst (λ p. All (λ d. d.answer.n ≡ 0) (done_all y p.block p.sheet all)) (sym l.0)
          (rw (all_shown y rs good es l.1 all t).0 (all_mapped (λ d. d.answer.n ≡ 0) (as_buffers y rs) (modelled_all y rs es all) undone.1)),
    )

pub lines_differ : LinesDiffer
lines_differ y b k cs bytes accepted takes =
    let rs = records_of b in
    let good = first_good b k bytes accepted in
    let es = stack_after y rs [] cs in
    let ps = put_in rs es in
    let l = left b k bytes accepted y cs takes in
    let s = l.1.stack in
    let text : text_of (records_of (left_by y (fresh y b) cs).block) ≡ text_of ps =
    ap text_of (ap (λ q. records_of q.block) l.0 ∙ its_records (block_of ps) ps (still-block y rs good es l.1)) in
    rw text (stack_apart rs es good.each s, stack_shows rs es good.each s)
