use mathlib.Core.Path.{refl}
use native.Mathlib.Omega.{arith}
use Rattle.std.proofs.lemmas.Result.{err_from_is_err_and}
use Rattle.sheet.specs.Cases.{entry_of}
use Rattle.amending.proofs.Outcome.{look_refused, amend-full, amend-refused, amend-done}
use Rattle.amending.proofs.amend.Goals as goal

pub returns-in_err-count : goal.returns-in_err-count
returns-in_err-count c =
    let p = err_from_is_err_and c.from_residual.result c.from_residual.ensures.1 in
    rw (p.1, p.2) (look_refused _ _ _ _ c.look.ensures.told _ c.in_err-count.was _)

pub returns-then-count-ge-LIMIT : goal.returns-then-count-ge-LIMIT
returns-then-count-ge-LIMIT c = amend-full c.in_ok-count.ensures.ready (entry_of c.args.e) (omega arith)

pub exchange-requires : goal.exchange-requires
exchange-requires c = let h = c.in_ok-count.ensures.ready in (h.bytes, h.accepted)

pub returns-in_err-exchange : goal.returns-in_err-exchange
returns-in_err-exchange c =
    let h = c.in_ok-count.ensures.ready in
    let p = err_from_is_err_and c.from_residual-in_err-exchange.result c.from_residual-in_err-exchange.ensures.1 in
    rw (p.1, p.2) (amend-refused h (entry_of c.args.e) (omega arith) c.exchange.result c.exchange.ensures _ c.in_err-exchange.was)

pub add_entry-requires : goal.add_entry-requires
add_entry-requires c = let h = c.in_ok-count.ensures.ready in (h.holds, omega arith)

pub returns : goal.returns
returns c =
    let h = c.in_ok-count.ensures.ready in
    amend-done h (entry_of c.args.e) (omega arith) c.exchange.result c.exchange.ensures refl _ c.in_ok-exchange.was c.add_entry.ensures
