use mathlib.Core.Path.{refl, sym, ◌∙◌}
use native.Mathlib.Omega.{arith}
use Rattle.std.proofs.lemmas.Result.{err_from_is_err_and}
use Rattle.block_value.proofs.Located.{located, none_found, part_ok, part_value}
use Rattle.block_value.proofs.find_value.Goals as goal

pub returns-in_err-place : goal.returns-in_err-place
returns-in_err-place c =
    let p = err_from_is_err_and c.from_residual.result c.from_residual.ensures.1 in
    rw (p.1, p.2) (none_found _ _ _ _ c.requires.0 c.requires.1 c.find.ensures (sym c.ok_or.ensures.value ∙ c.in_err-place.was))

pub value_in-requires : goal.value_in-requires
value_in-requires c =
    let it = located _ c.requires.0 c.requires.1 _ _ c.find.ensures (sym c.ok_or.ensures.value ∙ c.in_ok-place.was) in (part_ok _ _ it c.record_at-whole.ensures, omega (arith, it))

pub returns : goal.returns
returns c =
    let it = located _ c.requires.0 c.requires.1 _ _ c.find.ensures (sym c.ok_or.ensures.value ∙ c.in_ok-place.was) in
    c.value_in.ensures ∙ part_value _ _ it c.record_at-whole.ensures _ refl _
