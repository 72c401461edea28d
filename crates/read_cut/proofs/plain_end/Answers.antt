use mathlib.Core.Bool.{Bool, true, false}
use mathlib.Core.Path.{◌≡◌, refl, sym, ap, ◌∙◌}
use mathlib.Core.List.{List}
use Prim.Native.Nat.{ℕ, ◌+◌, ◌-◌, ◌<◌}
use native.Mathlib.Omega.{arith}
use borrow.Author.Tests.{ltb-true, ltb-false}
use lib.Dec.{ltb}
use lib.ListN.{length, length-drop, take, drop}
use Rattle.std.proofs.lemmas.List.{take_rest, drop-drop}
use Rattle.words.specs.Scans.{within, plain_in}
use Rattle.words.proofs.Scans.{scan_end, scan_le, scan_stop}
use Rattle.read_cut.specs.Lines.{PlainOn}
use Rattle.read_cut.proofs.plain_end.Goals as goal

-- the bytes end where none is plain, or the text does
ends : (t : List ℕ) (at i : ℕ) → PlainOn t at i → (i < length t → plain_in (drop i t) ≡ 0) → i ≡ at + plain_in (drop at t)
ends t at i on stop = by (ltb i (length t)) refl
  where
    by : (s : Bool) → ltb i (length t) ≡ s → i ≡ at + plain_in (drop at t)
    by true e = omega (arith, on, stop (ltb-true i (length t) e))
    by false e = omega (arith, on, scan_end (within 32 126) t i (ltb-false i (length t) e))

-- the sixteens from place n on
onward : (t : List ℕ) (n k : ℕ) → PlainOn (take (length t - n) (drop n t)) 0 k → PlainOn t n (n + k)
onward t n k p = let e = take_rest t n in omega (arith, p, ap plain_in e, ap (λ l. plain_in (drop k l)) e, ap plain_in (drop-drop k n t))

pub returns-then-not-is_plain : goal.returns-then-not-is_plain
returns-then-not-is_plain c =
    omega (arith, scan_stop (within 32 126) c.args.text.now c.args.at _ (omega arith) refl (sym c.is_plain.ensures ∙ c.if-not-is_plain.true))

pub overflow_add-result : goal.overflow_add-result
overflow_add-result c =
    let t = c.args.text.now in let at = c.args.at in let here = take (length t - at) (drop at t) in
    omega (arith, c.in-Some.ensures, scan_le (within 32 126) here, ap length (take_rest t at), length-drop at t)

pub returns-in-None : goal.returns-in-None
returns-in-None c =
    let u = c.plain_upto.ensures in
    ends _ _ _ (omega (arith, u.0, onward c.args.text.now c.args.at _ c.in-None.ensures)) u.2
