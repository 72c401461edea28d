-- A turn of the reading: what is still to be read, from here, gives the whole.
use mathlib.Core.Path.{◌≡◌, refl, sym, ap, ◌∙◌}
use mathlib.Core.List.{List, [], ◌∷◌, ◌++◌}
use Prim.Native.Nat.{ℕ, suc, ◌+◌, ◌^◌, ◌≤◌, ◌<◌}
use native.Mathlib.Omega.{arith}
use native.Mathlib.Numerals.{unary_clauses}
use lib.ListN.{length, take, drop, length-append, length-drop}
use Rattle.units.specs.Answers.{Verdict, passed, refused, onward}
use Rattle.units.proofs.Verdicts.{never_passed}
use Rattle.read_columns.specs.declared.Flaw.{Flaw}
use Rattle.read_columns.specs.Cases.{flaw_of}
use Rattle.read_first_line.specs.FirstLine.{Shape, Read}
use Rattle.read_line.specs.Lines.{read_line, read_lines}
use Rattle.read_first_line.specs.State.{Stand, to_come, put, after, stand_of}
use Rattle.read_records.specs.Content.{stored}
use Rattle.read_first_line.specs.declared.Next.{Next}
use Rattle.std.specs.Prelude.{Result, Ok, Err}
use Rattle.read_cut.specs.declared.Cut.{Cut}
use Rattle.read_cut.specs.Lines.{lines_in, CutAt}
use Rattle.read_first_line.proofs.Heads.{put-append}
use Rattle.units.proofs.Told.{Known}
use Rattle.read_records.specs.Cases.{TextRow}
use Rattle.read_records.proofs.Opened.{Taken, line_known, RoomToCome}
use Rattle.read_records.proofs.Known.{room_on}

-- words that are read in two parts
kept_both : (held : ℕ) (b ws : List ℕ) (v : Verdict (List ℕ)) → stored held b (onward v (λ vs. passed (ws ++ vs))) ≡ stored (held + length ws) (put held b ws) v
kept_both held b ws (passed vs) =
    let e : held + length (ws ++ vs) ≡ held + length ws + length vs = omega (arith, length-append ws vs) in
    rw (e, put-append held b ws vs)
kept_both held b ws (refused r) = refl

module _ (num held : ℕ) (rest : List Shape) (l : List ℕ) (ls : List (List ℕ)) (b b' : List ℕ) where
  -- an accepted line
  turn : (n : Next) → stand_of b' (Ok n) ≡ after held b (read_line num held rest l) →
      stored held b (read_lines num held rest (l ∷ ls)) ≡ stored n.held.0 b' (read_lines (num + 1) n.held.0 (to_come n.rest) ls)
  unfolding read_lines
  turn n e = let s : suc num ≡ num + 1 = omega arith in by (read_line num held rest l) e ∙ ap (λ k. stored n.held.0 b' (read_lines k n.held.0 (to_come n.rest) ls)) s
    where
      by : (v : Verdict Read) → stand_of b' (Ok n) ≡ after held b v →
          stored held b (onward v (λ s. onward (read_lines (suc num) (held + length s.words) s.rest ls) (λ ws. passed (s.words ++ ws))))
          ≡ stored n.held.0 b' (read_lines (suc num) n.held.0 (to_come n.rest) ls)
      by (passed s) e =
          let same : ◌≡◌ {A = Stand} (record { rest = to_come n.rest; held = n.held.0; block = b' }) (record { rest = s.rest; held = held + length s.words; block = put held b s.words }) = cc in
          rw (ap (λ (x : Stand). x.held) same, ap (λ (x : Stand). x.block) same, ap (λ (x : Stand). x.rest) same)
          (kept_both held b s.words (read_lines (suc num) (held + length s.words) s.rest ls))
      by (refused r) e = absurd (never_passed (sym e))

  -- a refused one
  end : (f : Flaw) → stand_of b' (Err f) ≡ after held b (read_line num held rest l) → stored held b (read_lines num held rest (l ∷ ls)) ≡ refused (flaw_of f)
  unfolding read_lines
  end f e = by (read_line num held rest l) e
    where
      by : (v : Verdict Read) → stand_of b' (Err f) ≡ after held b v →
          stored held b (onward v (λ s. onward (read_lines (suc num) (held + length s.words) s.rest ls) (λ ws. passed (s.words ++ ws)))) ≡ refused (flaw_of f)
      by (passed s) e = absurd (never_passed e)
      by (refused r) e = cc

-- and there is room for the lines to come, as before it
room_next : (num held : ℕ) (rest : List Shape) (l b b' : List ℕ) (n : Next) → num < 2 ^ 24 → RoomToCome held rest
    → stand_of b' (Ok n) ≡ after held b (read_line num held rest l) → RoomToCome n.held.0 (to_come n.rest)
room_next num held rest l b b' n hn h e = by (read_line num held rest l) (line_known num hn held l rest h) e
  where
    by : (v : Verdict Read) → Known TextRow (Taken held rest l) v → stand_of b' (Ok n) ≡ after held b v → RoomToCome n.held.0 (to_come n.rest)
    by (passed s) t e =
        let same : ◌≡◌ {A = Stand} (record { rest = to_come n.rest; held = n.held.0; block = b' }) (record { rest = s.rest; held = held + length s.words; block = put held b s.words }) = cc in
        rw (ap (λ (x : Stand). x.held) same, ap (λ (x : Stand). x.rest) same) (room_on held rest l s h t.given)
    by (refused r) t e = absurd (never_passed (sym e))

-- where the loop stands with some of the text left: its lines, and bounds on what is counted
pub record Reading (text b₀ b left : List ℕ) (rest : List Shape) (held num : ℕ) : Type 0 where
  pub same : stored held b (read_lines num held rest (lines_in left)) ≡ stored 0 b₀ (read_lines 1 0 [] (lines_in text))
  pub length_kept : length b ≡ length b₀
  pub lines_most : num + length left ≤ length text + 1
  pub room : RoomToCome held rest

-- a turn of the loop, on the line that is cut from what is left
module _ {text b₀ b left : List ℕ} {rest : List Shape} {held num : ℕ} (g : Reading text b₀ b left rest held num) {c : Cut} (cut : CutAt left 0 c) where
  abbrev line : List ℕ
  line = take c.end.0 left

  -- with its lines cut the text is read as before
  same_cut : stored held b (read_lines num held rest (line ∷ lines_in (drop c.next.0 left))) ≡ stored 0 b₀ (read_lines 1 0 [] (lines_in text))
  same_cut = ap (λ x. stored held b (read_lines num held rest x)) (sym (simp unary_clauses at cut.cut)) ∙ g.same

  module _ (b' : List ℕ) (s : Result Next Flaw) (read : stand_of b' s ≡ after held b (read_line num held rest line)) where
    pub reading-refused : {f : Flaw} → s ≡ Err f → refused (flaw_of f) ≡ stored 0 b₀ (read_lines 1 0 [] (lines_in text))
    reading-refused {f} is = sym (end num held rest line (lines_in (drop c.next.0 left)) b b' f (ap (stand_of b') (sym is) ∙ read)) ∙ same_cut

    pub reading-on : {n : Next} → s ≡ Ok n → length text ≤ 65536 → length b' ≡ length b → Reading text b₀ b' (drop c.next.0 left) (to_come n.rest) n.held.0 (num + 1)
    reading-on {n} is small kept =
        let e : stand_of b' (Ok n) ≡ after held b (read_line num held rest line) = ap (stand_of b') (sym is) ∙ read in
        record {
          same = sym (turn num held rest line (lines_in (drop c.next.0 left)) b b' n e) ∙ same_cut;
          length_kept = kept ∙ g.length_kept;
          lines_most = omega (arith, g.lines_most, cut.onward, cut.inside, length-drop c.next.0 left);
          room = room_next num held rest line b b' n (omega (arith, g.lines_most, cut.onward, cut.inside)) g.room e;
        }
