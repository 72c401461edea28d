-- A record's first line, over the row that its fields were read into.
use mathlib.Core.Path.{◌≡◌, sym, ap, ◌∙◌}
use mathlib.Core.List.{List, [], ◌∷◌, ◌++◌}
use Prim.Native.Nat.{ℕ, suc, ◌+◌, ◌-◌, ◌*◌}
use native.Mathlib.Omega.{arith}
use lib.ListN.{length, drop, replicate, length-drop}
use lib.Seq.{sets, slice, take_all}
use Rattle.words.specs.Words.{bytes_of}
use Rattle.words.proofs.Laws.{bytes_append, length_bytes_of, zero_bytes}
use Rattle.words.proofs.Writing.{sets-append}
use Rattle.read_first_line.specs.State.{put, LentCards}

-- words that are put one after the other
pub put-append : (held : ℕ) (block ws vs : List ℕ) → put held block (ws ++ vs) ≡ put (held + length ws) (put held block ws) vs
put-append held block ws vs =
    let e : (held + 1) * 2 + length (bytes_of ws) ≡ (held + length ws + 1) * 2 = omega (arith, length_bytes_of ws) in
    ap (sets block ((held + 1) * 2)) (bytes_append ws vs) ∙ sets-append block ((held + 1) * 2) (bytes_of ws) (bytes_of vs)
    ∙ ap (λ at. sets (put held block ws) at (bytes_of vs)) e

-- a head is put in three pieces
pub head-put : (held total kind : ℕ) (row : List ℕ) {w k : ℕ} (b b₁ b₂ b₃ : List ℕ) → w ≡ total → k ≡ kind → b₁ ≡ sets b ((held + 1) * 2) (bytes_of (w ∷ [])) → b₂ ≡ sets b₁ ((held + 1 + 1) * 2) (bytes_of (k ∷ []))
    → b₃ ≡ sets b₂ ((held + 1 + 1 + 1) * 2) (bytes_of (slice 2 (length row) row)) → b₃ ≡ put held b (total ∷ (kind ∷ drop 2 row))
unfolding bytes_of
head-put held total kind row b b₁ b₂ b₃ is named first second third =
    let e : (held + 1 + 1) * 2 ≡ suc (suc ((held + 1) * 2)) = omega arith in
    let f : (held + 1 + 1 + 1) * 2 ≡ suc (suc (suc (suc ((held + 1) * 2)))) = omega arith in
    let whole : slice 2 (length row) row ≡ drop 2 row = ap (drop 2) (take_all (length row) row (omega arith)) in
    rw (third, second, first, is, named, whole, f, e)

-- zeros fill up a Catalogue's or a Header's
pub head-filled : (row : List ℕ) (held total kind at size : ℕ) (b b₁ b₂ : List ℕ) → LentCards row held → b₁ ≡ put held b (total ∷ (kind ∷ drop 2 row)) → at ≡ (held + 1 + length row) * 2
    → size ≡ (40 - length row) * 2 → b₂ ≡ sets b₁ at (replicate size 0) → b₂ ≡ put held b (total ∷ (kind ∷ drop 2 row) ++ replicate (40 - length row) 0)
head-filled row held total kind at size b b₁ b₂ l first is all last =
    let head = total ∷ (kind ∷ drop 2 row) in
    let to : at ≡ (held + length head + 1) * 2 = omega (arith, length-drop 2 row, l.two) in
    last ∙ rw (to, all, sym (zero_bytes (40 - length row)), first) (sym (put-append held b head (replicate (40 - length row) 0)))
