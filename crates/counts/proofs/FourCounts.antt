-- The four counts: which words they are, and that they are in range exactly where they keep the rules.
use mathlib.Core.Path.{◌≡◌, refl}
use mathlib.Core.Bool.{Bool, true, false}
use mathlib.Core.List.{List, ◌++◌}
use Prim.Native.Nat.{ℕ, ◌+◌, ◌*◌, ◌≤◌, ◌<◌}
use native.Mathlib.Nat.{mul-le-mul}
use native.Mathlib.Omega.{arith}
use borrow.Author.Tests.{ltb-false, leb-false, le-ltb, lt-leb}
use lib.Dec.{ltb}
use lib.ListN.{length, get_or, take, set}
use lib.Seq.{get_or-take, get_or-set_other, take-take, take-append-le}
use Rattle.std.specs.Prelude.{if◌then◌else◌}
use Rattle.units.proofs.Verdicts.{or_off}
use Rattle.counts.specs.declared.Counts.{Counts}
use Rattle.counts.specs.Counts.{counts_of, under_least, in_range}
use Rattle.counts.specs.Rules.{Least, CountsOk}

-- words with the same ones at the places of the counts have the same counts
pub counts_same : (r s : List ℕ) → ((i : ℕ) → 12 ≤ i → i < 16 → get_or r i 0 ≡ get_or s i 0) → counts_of r ≡ counts_of s
counts_same r s e = rw (e 12 (omega arith) (omega arith), e 13 (omega arith) (omega arith), e 14 (omega arith) (omega arith), e 15 (omega arith) (omega arith))

-- a record's counts are those of its first 16 words
pub counts_first : (r : List ℕ) → counts_of (take 16 r) ≡ counts_of r
counts_first r = counts_same (take 16 r) r (λ i low high. get_or-take 16 r i 0 high)

pub counts_take : (k : ℕ) (r : List ℕ) → 16 ≤ k → counts_of (take k r) ≡ counts_of r
counts_take k r h = rw (← counts_first (take k r), take-take 16 k r h) (counts_first r)

pub counts_append : (r tail : List ℕ) → 16 ≤ length r → counts_of (r ++ tail) ≡ counts_of r
counts_append r tail h = rw (← counts_first (r ++ tail), take-append-le 16 r tail h) (counts_first r)

pub counts_set : (r : List ℕ) (j v : ℕ) → 16 ≤ j → counts_of (set r j v) ≡ counts_of r
counts_set r j v h = counts_same (set r j v) r (λ i low high. get_or-set_other r j i v 0 (λ e. omega arith))

at_least : (least w : ℕ) → under_least least w ≡ false → Least least w
unfolding under_least
at_least least w e =
    let o = or_off (ltb w least) _ e in
    record { least_is = ltb-false w least o.0; sign = leb-false 32768 w o.1 }

least_at : (least w : ℕ) → Least least w → under_least least w ≡ false
unfolding under_least
least_at least w h = simp (le-ltb w least h.least_is, lt-leb 32768 w h.sign)

pub range_ok : (c : Counts) → 4 ≤ in_range c → CountsOk c
unfolding in_range
range_ok c h = by (under_least 16 c.lprol) refl (under_least 0 c.jpar) refl (under_least 0 c.mpar) refl (under_least 0 c.nrow) refl h
  where
    by : (l : Bool) → under_least 16 c.lprol ≡ l → (j : Bool) → under_least 0 c.jpar ≡ j → (m : Bool) → under_least 0 c.mpar ≡ m → (n : Bool) → under_least 0 c.nrow ≡ n
        → 4 ≤ (if l then 0 else if j then 1 else if m then 2 else if n then 3 else 4) → CountsOk c
    by true el j ej m em n en h = absurd (omega arith)
    by false el true ej m em n en h = absurd (omega arith)
    by false el false ej true em n en h = absurd (omega arith)
    by false el false ej false em true en h = absurd (omega arith)
    by false el false ej false em false en h = record { lprol = at_least 16 _ el; jpar = at_least 0 _ ej; mpar = at_least 0 _ em; nrow = at_least 0 _ en }

pub ok_range : (c : Counts) → CountsOk c → in_range c ≡ 4
unfolding in_range
ok_range c h = simp (least_at 16 _ h.lprol, least_at 0 _ h.jpar, least_at 0 _ h.mpar, least_at 0 _ h.nrow)

-- rows and their codes, each of a word's size, fit into 64 bits
pub rows_fit : (m n : ℕ) → m ≤ 65536 → n + 1 ≤ 65536 → m * (n + 1) ≤ 65536 * 65536
rows_fit m n h k = mul-le-mul {n₂ = 65536} {m₂ = 65536} h k
