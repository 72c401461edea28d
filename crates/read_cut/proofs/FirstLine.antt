-- The first line of a text: its bytes stand before the first place at which a line end stands.
use mathlib.Core.Path.{◌≡◌, refl, ap, ◌∙◌, sym}
use mathlib.Core.Bool.{Bool, true, false, ◌&&◌}
use mathlib.Core.List.{List, [], ◌∷◌}
use Prim.Native.Nat.{ℕ, zero, suc, ◌+◌, ◌-◌, ◌≤◌, ◌<◌}
use native.Mathlib.Nat.{add-zero}
use native.Mathlib.Omega.{arith}
use borrow.Author.Tests.{ne_eqb, eqb-true, leb-true}
use lib.Dec.{leb, eqb}
use lib.ListN.{length, get_or, take, drop, length-drop}
use lib.Seq.{take-nil, drop-nil, drop-drop, get_or-drop}
use Rattle.std.specs.Prelude.{if◌then◌else◌}
use Rattle.units.proofs.Verdicts.{and_on}
use Rattle.words.specs.Scans.{within, plain_in}
use Rattle.words.proofs.Scans.{passes, scan_le, scan_take}
use Rattle.read_cut.specs.Lines.{onto, lines_in, end_length, CutAt}
use Rattle.read_cut.specs.declared.Cut.{Cut}

-- the line end at place i
pub end_at : (t : List ℕ) (i : ℕ) → end_length (drop i t) ≡ (if eqb (get_or t i 0) 10 then 1 else if eqb (get_or t i 0) 13 && eqb (get_or t (i + 1) 0) 10 then 2 else 0)
unfolding end_length
end_at t i = simp (get_or-drop, add-zero)

-- an LF there takes a byte
pub lf_at : (t : List ℕ) (i : ℕ) {r : Bool} → r ≡ eqb (get_or t i 0) 10 → r ≡ true → end_length (drop i t) ≡ 1
lf_at t i e is = rw (end_at t i, sym e, is)

-- a line end: the line has no more bytes
at_end_lem : (b : ℕ) (t : List ℕ) → 0 < end_length (b ∷ t) → lines_in (b ∷ t) ≡ [] ∷ lines_in (drop (end_length (b ∷ t)) (b ∷ t))
unfolding lines_in end_length
at_end_lem b t h = by t (eqb b 10) refl (eqb b 13 && eqb (get_or t 0 0) 10) refl h
  where
    by : (t : List ℕ) (p : Bool) → eqb b 10 ≡ p → (q : Bool) → (eqb b 13 && eqb (get_or t 0 0) 10) ≡ q → 0 < (if p then 1 else if q then 2 else 0) →
        lines_in (b ∷ t) ≡ [] ∷ lines_in (drop (if p then 1 else if q then 2 else 0) (b ∷ t))
    by t true e q f h = simp e
    by [] false e true f h = let z : ◌≡◌ {A = ℕ} 0 10 = eqb-true 0 10 (and_on (eqb b 13) (eqb 0 10) f).1 in absurd (omega arith)
    by (x ∷ t) false e true f h = let a = and_on (eqb b 13) (eqb x 10) f in simp (e, a.0, a.1)
    by t false e false f h = absurd (omega arith)

-- the first n bytes are free of ends, and the text or the line ends behind them
first-line : (n : ℕ) (s : List ℕ) → 0 < length s → n ≤ length s → ((j : ℕ) → j < n → end_length (drop j s) ≡ 0) → (n < length s → 0 < end_length (drop n s)) →
    lines_in s ≡ take n s ∷ lines_in (drop (end_length (drop n s)) (drop n s))
unfolding lines_in onto
first-line n [] some room free here = absurd (omega arith)
first-line zero (b ∷ t) some room free here = at_end_lem b t (here (omega arith))
first-line (suc n) (b ∷ []) some room free here = rw (free 0 (omega arith), take-nil n, drop-nil n, drop-nil)
first-line (suc n) (b ∷ x ∷ t) some room free here =
    simp (free 0 (omega arith)) (ap (onto b) (first-line n (x ∷ t) (omega arith) (omega arith) (λ j h. free (suc j) (omega arith)) (λ h. here (omega arith))))

-- a plain byte ends no line
plain_free : (t : List ℕ) (at j : ℕ) → j < at + plain_in (drop at t) → at ≤ j → end_length (drop j t) ≡ 0
plain_free t at j k h =
    let e : at + (j - at) ≡ j = omega arith in
    let p : within 32 126 (get_or t j 0) ≡ true = rw (get_or-drop, e) at (passes (within 32 126) (drop at t) (j - at) 0 (omega arith)) in
    let low = leb-true 32 (get_or t j 0) (and_on (leb 32 (get_or t j 0)) (leb (get_or t j 0) 126) p).0 in
    end_at t j ∙ simp (ne_eqb (get_or t j 0) 10 (λ x. omega arith), ne_eqb (get_or t j 0) 13 (λ x. omega arith))

-- from place `at` on no line end stands before place i, which is behind the plain bytes
pub record Sought (t : List ℕ) (at i : ℕ) : Type 0 where
  pub behind : at + plain_in (drop at t) ≤ i
  pub room : i ≤ length t
  pub free : (j : ℕ) → j < i → at ≤ j → end_length (drop j t) ≡ 0

module _ (t : List ℕ) (at : ℕ) where
  pub sought_plain : at ≤ length t → Sought t at (at + plain_in (drop at t))
  sought_plain h =
      record { behind = omega arith; room = omega (arith, scan_le (within 32 126) (drop at t), length-drop at t); free = plain_free t at }

  -- there the line ends, or the text
  pub cut_here : (c : Cut) → Sought t at c.end.0 → c.plain.0 ≡ plain_in (drop at t) → c.next.0 ≡ c.end.0 + end_length (drop c.end.0 t) →
      (c.end.0 < length t → 0 < end_length (drop c.end.0 t)) → at < c.next.0 → c.next.0 ≤ length t → CutAt t at c
  cut_here c s plain ends here onward inside =
      let end = c.end.0 in
      let e : at + (end - at) ≡ end = omega arith in
      let d : drop (end - at) (drop at t) ≡ drop end t = rw (drop-drop, e) in
      record {
        cut = first-line (end - at) (drop at t) (omega (arith, length-drop at t)) (omega (arith, length-drop at t)) (λ j h. rw drop-drop (s.free (at + j) (omega arith) (omega arith)))
            (λ h. rw d (here (omega (arith, length-drop at t))))
            ∙ rw (d, drop-drop, ends);
        plain = omega (arith, scan_take (within 32 126) (end - at) (drop at t));
        ends = ends;
        within = omega arith;
        onward = onward;
        inside = inside;
      }
