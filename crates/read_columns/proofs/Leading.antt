-- The bytes that the rest of a line begins with, as the library counts them.
use mathlib.Core.Path.{◌≡◌, refl, sym, ap, ◌∙◌}
use mathlib.Core.Bool.{Bool, true, false, cond}
use mathlib.Core.List.{List, [], ◌∷◌}
use Prim.Native.Nat.{ℕ, suc, ◌+◌, ◌-◌, ◌≤◌, min}
use native.Mathlib.Omega.{arith}
use borrow.Author.Tests.{ltb-true, ltb-false}
use lib.Dec.{ltb}
use lib.ListN.{length, take, drop, length-drop, drop_of_length-le}
use lib.Seq.{take_all}
use Rattle.std.specs.List.{prefix_len}
use Rattle.std.specs.Prelude.{if◌then◌else◌, take_while}
use Rattle.words.specs.Scans.{passing}
use Rattle.words.proofs.Scans.{scan_le}

passing_counted : (p : ℕ → Bool) (l : List ℕ) → length (take_while p l) ≡ passing p l
unfolding passing
passing_counted p [] = refl
passing_counted p (b ∷ l) = by (p b) (passing_counted p l)
  where
    by : (t : Bool) → length (take_while p l) ≡ passing p l → length (take (cond t (1 + prefix_len p l) 0) (b ∷ l)) ≡ (if t then suc (passing p l) else 0)
    by true e = let n : 1 + prefix_len p l ≡ suc (prefix_len p l) = omega arith in rw n (ap suc e)
    by false e = refl

-- the rest behind the first `from` bytes, and behind all of them where there are not so many
module _ (p : ℕ → Bool) (from first n : ℕ) (l : List ℕ) (e : first ≡ min from (length l)) (counted : n ≡ length (take_while p (take (length l - first) (drop first l)))) where
  pub leading : n ≡ passing p (drop from l)
  leading = counted ∙ passing_counted p (take (length l - first) (drop first l)) ∙ ap (passing p) (take_all (length l - first) (drop first l) (omega (arith, length-drop first l)) ∙ by (ltb from (length l)) refl)
    where
      by : (t : Bool) → ltb from (length l) ≡ t → drop first l ≡ drop from l
      by true t = let h = ltb-true from (length l) t in let s : first ≡ from = omega arith in ap (λ k. drop k l) s
      by false t = let h = ltb-false from (length l) t in drop_of_length-le l {i = first} (omega arith) ∙ sym (drop_of_length-le l {i = from} h)

  pub leading-le : from + n ≤ from + (length l - from)
  leading-le = omega (arith, leading, scan_le p (drop from l), length-drop from l)
