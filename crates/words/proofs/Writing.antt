-- Writing a text piece by piece into a lent slice: what is still to be put in, from here, gives the whole.
use mathlib.Core.Path.{◌≡◌, refl, sym, ap, ap₂, ◌∙◌}
use mathlib.Core.Bool.{Bool, true, false}
use mathlib.Core.Logic.{◌⊎◌, inl, inr}
use mathlib.Core.List.{List, [], ◌∷◌, ◌++◌, append-nil}
use Prim.Native.Nat.{ℕ, suc, ◌+◌, ◌^◌, ◌≤◌, ◌<◌}
use native.Mathlib.Nat.{add-zero, suc-add, add-suc}
use native.Mathlib.Numerals.{add-one}
use native.Mathlib.Omega.{arith}
use borrow.Author.Tests.{lt-ltb, le-ltb}
use lib.Dec.{ltb}
use Rattle.std.specs.Prelude.{if◌then◌else◌}
use lib.ListN.{length, get_or, take, drop, set, length-append}
use lib.Seq.{sets, length-sets, sets-eq, length-take-le, take-suc}
use Rattle.units.specs.Answers.{answer, passed, Packs}
use Rattle.words.specs.Outcomes.{Written, written, leaves}
use Rattle.words.specs.Writing.{Room, Put}

-- a run of stores in two parts
pub sets-append : {A : Type 0} (l : List A) (i : ℕ) (xs ys : List A) → sets l i (xs ++ ys) ≡ sets (sets l i xs) (i + length xs) ys
sets-append l i [] ys = rw add-zero
sets-append l i (x ∷ xs) ys = rw (add-suc, ← suc-add) (sets-append (set l i x) (suc i) xs ys)

-- of the whole, which goes into o at a place, the rest is still to be put into out at another
pub record Going (o : List ℕ) (at : ℕ) (whole out : List ℕ) (to : ℕ) (rest : List ℕ) : Type 0 where
  pub same : sets out to rest ≡ sets o at whole
  pub total : to + length rest ≡ at + length whole
  pub kept : length out ≡ length o

module _ {o : List ℕ} {at : ℕ} {whole : List ℕ} where
  pub start : Going o at whole o at whole
  start = record { same = refl; total = refl; kept = refl }

  module _ {out : List ℕ} {to : ℕ} {rest : List ℕ} (g : Going o at whole out to rest) where
    -- the rest begins with a piece s
    module _ (s r : List ℕ) (e : rest ≡ s ++ r) where
      -- which has room
      pub fits : Room o at whole → Room out to s
      fits h = omega (arith, g.total, g.kept, ap length e, length-append s r)

      -- and is put in
      pub on : {out' : List ℕ} {to' : ℕ} → Put out to s out' to' → Going o at whole out' to' r
      on {out'} {to'} p =
          record {
            same = rw (p.bytes, p.ends) (sym (sets-append out to s r) ∙ ap (sets out to) (sym e) ∙ g.same);
            total = omega (arith, p.ends, g.total, ap length e, length-append s r);
            kept = ap length p.bytes ∙ length-sets out to s ∙ g.kept;
          }

    -- nothing is left
    pub done : rest ≡ [] → Put o at whole out to
    done e = record { ends = omega (arith, g.total, ap length e); bytes = sym (ap (sets out to) e) ∙ g.same }

-- a text of two pieces, put in one after the other
module _ (o : List ℕ) (at : ℕ) {whole : List ℕ} (s r : List ℕ) (e : whole ≡ s ++ r) (room : Room o at whole) where
  pub first_fits : Room o at s
  first_fits = fits {o = o} start s r e room

  module _ {out : List ℕ} {to : ℕ} (p : Put o at s out to) where
    pub second_fits : Room out to r
    second_fits = fits (on start s r e p) r [] (sym (append-nil r)) room

    pub both-put : {out' : List ℕ} {to' : ℕ} → Put out to r out' to' → Put o at whole out' to'
    both-put q = done (on (on start s r e p) r [] (sym (append-nil r)) q) refl

-- the bytes up to k of a text are stored, and one more
pub stored_on : (o text : List ℕ) (at k b : ℕ) {out : List ℕ} → k < length text → b ≡ get_or text k 0 → out ≡ sets o at (take k text) → set out (at + k) b ≡ sets o at (take (k + 1) text)
stored_on o text at k b h e s =
    let l : length (take k text) ≡ k = length-take-le k text (omega arith) in
    rw (s, e, add-one, take-suc text k 0 h, sets-append o at (take k text) (get_or text k 0 ∷ []), l) refl

-- one byte is stored
pub byte_put : (out : List ℕ) (to b : ℕ) → Put out to (b ∷ []) (set out to b) (to + 1)
byte_put out to b = record { ends = refl; bytes = refl }

-- the outcome of a conversion: too short an output, or all of it written
pub too_short : (n : ℕ) (out bytes : List ℕ) (k : ℕ) → k ≡ length bytes → length out < k → leaves (answer n k 0 0) out ≡ written n out (passed bytes)
unfolding written
too_short n out bytes k e h = rw e (simp (lt-ltb (length out) (length bytes) (omega arith)))

pub all-written : (n : ℕ) (out bytes : List ℕ) {after : List ℕ} {k : ℕ} → length bytes ≤ length out → Put out 0 bytes after k → leaves (answer 0 k 0 0) after ≡ written n out (passed bytes)
unfolding written
all-written n out bytes h p =
    let e : 0 + length bytes ≡ length bytes = omega arith in
    simp (le-ltb (length out) (length bytes) h)
    (ap₂ (λ (k : ℕ) (l : List ℕ). leaves (answer 0 k 0 0) l) (p.ends ∙ e) (p.bytes ∙ sets-eq bytes out 0 (omega arith) ∙ ap (λ n. bytes ++ drop n out) e))

-- of some bytes there are two outcomes: too short an output, or all of it written
pub written_either : (n : ℕ) (out bytes : List ℕ) → let k = length bytes in
    (written n out (passed bytes) ≡ leaves (answer n k 0 0) out) ⊎ (written n out (passed bytes) ≡ leaves (answer 0 k 0 0) (bytes ++ drop k out))
unfolding written
written_either n out bytes = by (ltb (length out) (length bytes))
  where
    by : (t : Bool) → let short = leaves (answer n (length bytes) 0 0) out in let all = leaves (answer 0 (length bytes) 0 0) (bytes ++ drop (length bytes) out) in
        ((if t then short else all) ≡ short) ⊎ ((if t then short else all) ≡ all)
    by true = inl refl
    by false = inr refl

-- the answer then is success or that row, and has room in the packing
pub written_told : (n : ℕ) (out bytes : List ℕ) → n < 2 ^ 8 → length bytes < 2 ^ 24 → let r = (written n out (passed bytes)).answer in ((r.n ≡ 0) ⊎ (r.n ≡ n)) × Packs r
written_told n out bytes m h = by (written_either n out bytes)
  where
    sized : (k : ℕ) → k < 2 ^ 8 → Packs (answer k (length bytes) 0 0)
    sized k m = omega arith

    by : {w : Written} {o : List ℕ} → (w ≡ leaves (answer n (length bytes) 0 0) out) ⊎ (w ≡ leaves (answer 0 (length bytes) 0 0) o) → ((w.answer.n ≡ 0) ⊎ (w.answer.n ≡ n)) × Packs w.answer
    by (inl e) = rw e (inr refl, sized n m)
    by (inr e) = rw e (inl refl, sized 0 (omega arith))
