use Rattle.std.proofs.lemmas.Result.{err_from_is_err_and}
use Rattle.block_value.proofs.Patched.{exchange_refused, spot-within, exchange-done}
use Rattle.block_value.proofs.exchange.Goals as goal

pub put_value-requires : goal.put_value-requires
put_value-requires c = search (spot-within, c.in_ok-at.was)

pub returns-in_err-at : goal.returns-in_err-at
returns-in_err-at c =
    let p = err_from_is_err_and c.from_residual.result c.from_residual.ensures.1 in
    rw (p.1, p.2) (exchange_refused _ _ _ _ c.find_value.ensures _ _ c.in_err-at.was)

pub returns : goal.returns
returns c = search (exchange-done, c.in_ok-at.was)
