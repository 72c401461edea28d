-- The lines to come of a record, as they get fewer.
use mathlib.Core.Path.{◌≡◌, refl, sym, ap, ap₂}
use mathlib.Core.List.{List, [], ◌∷◌, ◌++◌, map, append_assoc}
use mathlib.Core.Logic.{◌⊎◌, inl, inr}
use Prim.Native.Nat.{ℕ, zero, suc, ◌-◌, ◌≤◌, ◌<◌, min}
use native.Mathlib.Omega.{arith}
use lib.ListN.{replicate}
use Rattle.line_plan.specs.Plan.{part, times}
use Rattle.read_first_line.specs.declared.Rest.{Rest}
use Rattle.read_first_line.specs.FirstLine.{card, fields}
use Rattle.read_first_line.specs.State.{lines_of, lines_left, to_come}
use Rattle.read_first_line.proofs.Coming.{line_less}

-- parts without fields take no lines
times_none : (n w : ℕ) → w ≡ 0 → times n (part w) ≡ []
unfolding times part
times_none zero w e = refl
times_none (suc n) w e = rw e (times_none n 0 refl)

times_zero : (n w : ℕ) → n ≡ 0 → times n (part w) ≡ []
unfolding times
times_zero n w e = rw e

-- no parts, or parts without fields
pub no_lines : (n w : ℕ) → (0 < n × w ≤ 0) ⊎ n ≤ 0 → times n (part w) ≡ []
no_lines n w (inl h) = times_none n w (omega arith)
no_lines n w (inr h) = times_zero n w (omega arith)

-- where the present part is used up, the next one is a 1-D part,
pub next_single : (left w : ℕ) (singles more rows : List ℕ) → left ≡ 0 → singles ≡ part w ++ more → part w ++ (more ++ rows) ≡ part left ++ (singles ++ rows)
unfolding part
next_single left w singles more rows e b = rw (e, b) (sym (append_assoc (part w) more rows))

-- or a 2-D part, where no 1-D part has fields
pub next_row : (left w : ℕ) (singles rows more : List ℕ) → left ≡ 0 → singles ≡ [] → rows ≡ part w ++ more → part w ++ (singles ++ more) ≡ part left ++ (singles ++ rows)
unfolding part
next_row left w singles rows more e none b = rw (e, none, b)

-- no part has fields
pub no_parts : (left : ℕ) {singles rows : List ℕ} → left ≡ 0 → singles ≡ [] → rows ≡ [] → part left ++ (singles ++ rows) ≡ []
unfolding part
no_parts left e s r = rw (e, s, r)

pub none_to_come : (p : Rest) → p.cards.0 ≡ 0 → lines_left p ≡ [] → to_come p ≡ []
unfolding to_come
none_to_come p e f = ap₂ (λ n ls. replicate n card ++ map fields ls) e f

-- a card to come, and the rest
pub card_less : (p : Rest) → 0 < p.cards.0 → to_come p ≡ card ∷ (replicate (p.cards.0 - 1) card ++ map fields (lines_left p))
unfolding to_come
card_less p h = let e : p.cards.0 ≡ suc (p.cards.0 - 1) = omega arith in ap (λ n. replicate n card ++ map fields (lines_left p)) e

-- a line of fields to come, and the rest
pub fields_less : (p : Rest) → p.cards.0 ≡ 0 → 0 < p.left.0 →
    let n = min p.left.0 20 in
    to_come p ≡ fields n ∷ map fields (part (p.left.0 - n) ++ (lines_of p.singles ++ lines_of p.rows))
unfolding to_come lines_left
fields_less p e h = ap₂ (λ n ls. replicate n card ++ map fields ls) e (line_less p.left.0 (lines_of p.singles ++ lines_of p.rows) h)
