-- The plain bytes that a text begins with.
use Rattle.std.proofs.Common.{◌≡◌, ℕ, zero, suc, ◌+◌, ◌*◌, ◌/◌, ◌%◌, ◌^◌, ◌<◌, ◌≤◌, min, Bool, not, true, false, ltb, leb, cond, bit_or, List, [], ◌∷◌, length, get_or, map, take, drop, replicate, refl, sym, ap, ◌∙◌, arith}
use Rattle.std.specs.Prelude.{if◌then◌else◌}
use Rattle.std.specs.Simd.{first_chunks}
use Rattle.std.specs.List.{prefix_len}
use Rattle.std.proofs.lemmas.List.{drop-drop, length-map}
use Rattle.std.proofs.lemmas.Simd.{zip2_splat, zip2_splat_left, zip2_of_maps, map-map, mask_l-mod, leading_from_mask_l, trailing_mask_l}
use borrow.Author.Tests.{leb-true, leb-false, le-ltb, lt-ltb}
use lib.Lanes.{zip2, mask_l, top}
use lib.Count.{count_trailing_zeros}
use Rattle.words.specs.Scans.{passing, within, plain_in}
use Rattle.words.proofs.Scans.{scan_far, scan_take}
use Rattle.read_cut.specs.Lines.{PlainOn}

-- one of the sixteens that a text is cut into
sixteen_at : (k : ℕ) (l : List ℕ) (i : ℕ) → i < k → get_or (first_chunks 16 k l) i [] ≡ take 16 (drop (16 * i) l)
sixteen_at zero l i h = absurd (omega arith)
sixteen_at (suc k) l zero h = refl
sixteen_at (suc k) l (suc i) h = let e : 16 * suc i ≡ 16 + 16 * i = omega arith in rw e (sixteen_at k (drop 16 l) i (omega arith) ∙ ap (take 16) (drop-drop (16 * i) 16 l))

-- a lane of a comparison
abbrev under : ℕ → ℕ → ℕ
under a b = cond (ltb a b) 255 0

-- a lane is set where its byte is not plain
abbrev set : ℕ → Bool
set x = top 7 (bit_or (under x 32) (under 126 x))

not_set : (x : ℕ) → not (set x) ≡ within 32 126 x
not_set x = by (leb 32 x) refl (leb x 126) refl
  where
    by : (s : Bool) → leb 32 x ≡ s → (t : Bool) → leb x 126 ≡ t → not (set x) ≡ within 32 126 x
    by true e true f = simp (e, f, le-ltb x 32 (leb-true 32 x e), le-ltb 126 x (leb-true x 126 f))
    by true e false f = simp (e, f, le-ltb x 32 (leb-true 32 x e), lt-ltb 126 x (leb-false x 126 f))
    by false e t f = let l = leb-false 32 x e in simp (e, lt-ltb x 32 l, le-ltb 126 x (omega arith))

-- the lanes before the first that is set are the plain bytes
before_set : (xs : List ℕ) → prefix_len (λ x. not (set x)) xs ≡ plain_in xs
unfolding passing
before_set [] = refl
before_set (x ∷ xs) = rw (not_set x, before_set xs) (one (within 32 126 x) (plain_in xs))
  where
    one : (t : Bool) (n : ℕ) → cond t (1 + n) 0 ≡ (if t then suc n else 0)
    one true n = omega arith
    one false n = refl

module _ (v : List ℕ) (long : length v ≡ 16) (n : ℕ)
    (bits : n ≡ mask_l (map (top 7) (zip2 bit_or (zip2 under v (replicate 16 32)) (zip2 under (replicate 16 126) v))) % 2 ^ 64) where
  -- the mask is that of the lanes that are set
  mask : n ≡ mask_l (map set v)
  mask =
      bits ∙ ap (λ l. mask_l (map (top 7) l) % 2 ^ 64) (zip2_of_maps bit_or _ _ v (zip2_splat under v 16 32 long) (zip2_splat_left under 126 16 v long))
      ∙ ap (λ l. mask_l l % 2 ^ 64) (map-map (top 7) _ v) ∙ mask_l-mod (map set v) 64 (omega (arith, length-map v set, long))

  -- no bit is set: all sixteen are plain
  pub none_set : n ≡ 0 → 16 ≡ plain_in v
  none_set e = sym long ∙ sym (leading_from_mask_l set v (sym mask ∙ e)) ∙ before_set v

  -- the first bit that is set tells how many are plain
  pub first_set : 0 < n → count_trailing_zeros 64 n ≡ plain_in v
  first_set h = ap (count_trailing_zeros 64) mask ∙ trailing_mask_l set 64 v (omega arith) (omega (arith, mask)) ∙ before_set v

-- the sixteen at place i ends the plain bytes, or they go on behind it
module _ (l : List ℕ) (ss : List (List ℕ)) (i n : ℕ) (front : ss ≡ first_chunks 16 (length l / 16) l) (inside : i < length l / 16)
    (on : PlainOn l 0 (16 * i)) (is : n ≡ plain_in (get_or ss i [])) where
  -- how many plain bytes stand there, sixteen at most
  of_all : n ≡ min 16 (plain_in (drop (16 * i) l))
  of_all = is ∙ ap plain_in (ap (λ t. get_or t i []) front ∙ sixteen_at (length l / 16) l i inside) ∙ scan_take (within 32 126) 16 (drop (16 * i) l)

  pub ends_here : n < 16 → 16 * i + n ≡ plain_in l
  ends_here few = omega (arith, on, of_all)

  pub goes_on : 16 ≤ n → PlainOn l 0 (16 * (i + 1))
  goes_on all =
      let here = drop (16 * i) l in let m : 16 * (i + 1) ≡ 16 * i + 16 = omega arith in
      rw m (omega (arith, on, scan_far (within 32 126) here 16 (omega (arith, of_all)), ap plain_in (drop-drop 16 (16 * i) l)))
