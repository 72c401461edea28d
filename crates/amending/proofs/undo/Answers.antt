use mathlib.Core.Path.{◌≡◌, refl}
use Rattle.std.proofs.Common.{rules}
use Rattle.units.specs.declared.Words.{Words}
use Rattle.block_value.specs.declared.Obstacle.{Obstacle}
use Rattle.amending.specs.declared.Objection.{Objection}
use Rattle.amending.specs.declared.Objection.TheVariants.{NotStanding}
use Prim.Native.Nat.{◌+◌, ◌-◌}
use native.Mathlib.Omega.{arith}
use Rattle.std.proofs.lemmas.Result.{err_from_is_err_and}
use Rattle.sheet.specs.Cases.{entry_of}
use Rattle.amending.proofs.Outcome.{look_refused, undo-none, undo-refused, undo-done, mapped_error, mapped_value}
use Rattle.amending.proofs.undo.Goals as goal

pub returns-in_err-count : goal.returns-in_err-count
returns-in_err-count c =
    let p = err_from_is_err_and c.from_residual.result c.from_residual.ensures.1 in
    rw (p.1, p.2) (look_refused _ _ _ _ c.look.ensures.told _ c.in_err-count.was _)

pub returns-then-count-eq0 : goal.returns-then-count-eq0
returns-then-count-eq0 c = undo-none c.in_ok-count.ensures.ready (omega arith)

pub entry_at-e-requires : goal.entry_at-e-requires
entry_at-e-requires c = let h = c.in_ok-count.ensures.ready in (h.holds.layout, omega (arith, h.holds.count_is))

pub exchange-requires : goal.exchange-requires
exchange-requires c = let h = c.in_ok-count.ensures.ready in (h.bytes, h.accepted)

pub returns-in_err-map_err : goal.returns-in_err-map_err
returns-in_err-map_err c =
    let h = c.in_ok-count.ensures.ready in
    let p = err_from_is_err_and c.from_residual-in_err-map_err.result c.from_residual-in_err-map_err.ensures.1 in
    let q = mapped_error {T = Words} {E = Obstacle} {D = Objection} _ _ _ c.map_err.ensures.cases c.in_err-map_err.was in
    let same : c.in_err-map_err.field-0.0 ≡ NotStanding = search (rules, q.2) in
    rw (p.1, p.2, same) (undo-refused h (λ z. omega arith) (entry_of c.entry_at-e.result) c.entry_at-e.ensures c.exchange.result c.exchange.ensures q.0 q.1)

pub clear_last-requires : goal.clear_last-requires
clear_last-requires c =
    let h = c.in_ok-count.ensures.ready in
    let n : c.in_ok-count.count - 1 + 1 ≡ c.in_ok-count.count = omega arith in
    rw n h.holds

pub returns : goal.returns
returns c =
    let h = c.in_ok-count.ensures.ready in
    undo-done h (λ z. omega arith) (entry_of c.entry_at-e.result) c.entry_at-e.ensures c.exchange.result c.exchange.ensures refl _ (mapped_value _ _ _ c.map_err.ensures.cases c.in_ok-map_err.was) c.clear_last.ensures
