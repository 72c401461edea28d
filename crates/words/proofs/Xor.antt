-- What the laws of the exclusive or say of the fold over words.
use mathlib.Core.Path.{◌≡◌, refl, sym, ap, ap₂, ◌∙◌}
use Prim.Native.Nat.{ℕ, zero, suc, ◌+◌, ◌/◌, ◌%◌, ◌^◌, ◌<◌}
use mathlib.Core.List.{List, [], ◌∷◌, ◌++◌, map, map-append}
use native.Mathlib.Numerals.{add-one}
use native.Mathlib.Omega.{arith}
use lib.Bits.{bit_xor, xor_assoc, xor_comm, xor_self, xor_zero_r, xor_lt, xor_shr, xor_mod, xor_block}
use lib.ListN.{length, get_or, take, set}
use lib.Seq.{take-suc}
use Rattle.std.specs.Int.{w16, from_be_bytes, from_le_bytes}
use Rattle.words.specs.Words.{xor_all, swapped, All, Below}
use Rattle.words.proofs.Laws.{get_or_below}
use Rattle.words.proofs.Lists.{all_parts}

-- what is put in once more goes out again
pub xor_twice : (a b : ℕ) → bit_xor (bit_xor a b) b ≡ a
xor_twice a b = xor_assoc a b b ∙ ap (bit_xor a) (xor_self b) ∙ xor_zero_r a

-- swapping the bytes before or after is the same
swap_xor : (a b : ℕ) → a < 65536 → b < 65536 → swapped (bit_xor a b) ≡ bit_xor (swapped a) (swapped b)
unfolding swapped
swap_xor a b ha hb =
    rw (xor_mod a b 8, xor_shr a b 8)
    (sym (xor_block 8 (a % 256) (b % 256) (a / 256) (b / 256) (omega arith) (omega arith)))

xor_all-snoc : (ws : List ℕ) (w : ℕ) → xor_all (ws ++ (w ∷ [])) ≡ bit_xor (xor_all ws) w
unfolding xor_all
xor_all-snoc [] w = xor_zero_r w
xor_all-snoc (x ∷ ws) w = ap (bit_xor x) (xor_all-snoc ws w) ∙ sym (xor_assoc x (xor_all ws) w)

-- one word more under the fold, where both are held with their bytes swapped
pub fold_on : (ws : List ℕ) (i x w : ℕ) → x < 65536 → w < 65536 → i < length ws → swapped w ≡ get_or ws i 0 → swapped x ≡ xor_all (take i ws)
    → swapped (bit_xor x w) ≡ xor_all (take (i + 1) ws)
fold_on ws i x w hx hw h e f =
    swap_xor x w hx hw ∙ rw (add-one, take-suc ws i 0 h, xor_all-snoc) (ap₂ bit_xor f e)

-- the fold over pairs of bytes holds their words' exclusive or with its bytes swapped
abbrev pub Folded : List (List ℕ) → ℕ → Type 0
Folded ps x = All (Below 256) ps → (x < 2 ^ 16) × (swapped x ≡ xor_all (map (from_be_bytes w16) ps))

pub folded_none : Folded [] 0
unfolding swapped xor_all
folded_none _ = (omega arith, refl)

-- and one pair more, that is read low byte first
pub folded_on : (ps : List (List ℕ)) (x : ℕ) (p : List ℕ) {y : ℕ} → Folded ps x → y ≡ bit_xor x (from_le_bytes w16 p) → Folded (ps ++ (p ∷ [])) y
unfolding swapped
folded_on ps x p j e h =
    let parts = all_parts (Below 256) ps (p ∷ []) h in
    let i = j parts.0 in
    let w = from_le_bytes w16 p in
    let p0 : get_or p 0 0 < 256 = get_or_below 256 p 0 (omega arith) parts.1.0 in
    let p1 : get_or p 1 0 < 256 = get_or_below 256 p 1 (omega arith) parts.1.0 in
    let hw : w < 2 ^ 16 = omega arith in
    let s : swapped w ≡ from_be_bytes w16 p = omega arith in
    rw e (xor_lt 16 x w i.0 hw, swap_xor x w i.0 hw ∙ rw (map-append (from_be_bytes w16) ps (p ∷ []), xor_all-snoc) (ap₂ bit_xor i.1 s))

-- a word changed in its place: the old one goes out, the new one goes in
pub fold_patched : (ws : List ℕ) (i w : ℕ) → i < length ws → xor_all (set ws i w) ≡ bit_xor (bit_xor (xor_all ws) (get_or ws i 0)) w
unfolding xor_all
fold_patched [] i w h = absurd (omega arith)
fold_patched (x ∷ ws) zero w h =
    xor_comm w (xor_all ws) ∙ ap (λ y. bit_xor y w) (sym (ap (λ y. bit_xor y x) (xor_comm x (xor_all ws)) ∙ xor_twice (xor_all ws) x))
fold_patched (x ∷ ws) (suc i) w h =
    ap (bit_xor x) (fold_patched ws i w (omega arith))
    ∙ sym (xor_assoc x (bit_xor (xor_all ws) (get_or ws i 0)) w)
    ∙ ap (λ y. bit_xor y w) (sym (xor_assoc x (xor_all ws) (get_or ws i 0)))

pub fold_below : (ws : List ℕ) → Below 65536 ws → xor_all ws < 2 ^ 16
unfolding xor_all
fold_below [] h = omega arith
fold_below (w ∷ ws) h = xor_lt 16 w (xor_all ws) h.0 (fold_below ws h.1)
