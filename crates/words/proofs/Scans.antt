-- The scan for the first word that fails a test, a turn at a time.
use mathlib.Core.Path.{◌≡◌, refl, ap, ◌∙◌}
use mathlib.Core.Bool.{Bool, true, false, ◌&&◌}
use mathlib.Core.List.{List, [], ◌∷◌, map}
use Prim.Native.Nat.{ℕ, zero, suc, ◌+◌, ◌*◌, ◌/◌, ◌%◌, ◌≤◌, ◌<◌, min}
use native.Mathlib.Numerals.{add-one}
use native.Mathlib.Omega.{arith}
use lib.ListN.{length, get_or, take, drop, drop_of_length-le}
use lib.Seq.{drop-cons, slice}
use Rattle.words.specs.Words.{words_of, All}
use Rattle.words.proofs.Laws.{words-slice}
use Rattle.std.specs.Prelude.{if◌then◌else◌}
use Rattle.std.specs.Option.{MatchOption, unwrap_or}
use Rattle.std.specs.Prelude.{Option}
use Rattle.std.specs.List.{AllWithin, HoldsAt}
use Rattle.std.proofs.lemmas.Iterator.{index_from_first}
use Rattle.units.proofs.Choosing.{by_test}
use lib.Dec.{eqb, leb}
use borrow.Author.Tests.{eqb-true, eqb-false, leb-true, leb-false, le-leb, lt-leb}
use Rattle.words.specs.Scans.{passing, word_within, is_zero}

module _ (p : ℕ → Bool) (ws : List ℕ) (i w : ℕ) (h : i < length ws) (e : w ≡ get_or ws i 0) where
  cut : drop i ws ≡ w ∷ drop (i + 1) ws
  cut = rw (add-one, e) (drop-cons ws i 0 h)

  -- the word passes: the scan goes on
  pub scan_on : p w ≡ true → i + passing p (drop i ws) ≡ i + 1 + passing p (drop (i + 1) ws)
  unfolding passing
  scan_on t = rw (cut, t) (omega arith)

  -- the word fails: it is the first
  pub scan_stop : p w ≡ false → passing p (drop i ws) ≡ 0
  unfolding passing
  scan_stop t = rw (cut, t)

-- where k pass, the scan goes on behind them
pub scan_far : (p : ℕ → Bool) (ws : List ℕ) (k : ℕ) → k ≤ passing p ws → passing p ws ≡ k + passing p (drop k ws)
unfolding passing
scan_far p ws zero h = omega arith
scan_far p [] (suc k) h = absurd (omega arith)
scan_far p (w ∷ ws) (suc k) h =
    by_test (λ n. suc k ≤ n → n ≡ suc k + passing p (drop k ws)) (p w) (suc (passing p ws)) 0 (λ _ l. omega (arith, scan_far p ws k (omega arith))) (λ _ l. absurd (omega arith)) h

-- one more passes where those before it do, and it does
pub one_more_passes : (p : ℕ → Bool) (ws : List ℕ) (k : ℕ) → k < length ws → leb (k + 1) (passing p ws) ≡ (leb k (passing p ws) && p (get_or ws k 0))
one_more_passes p ws k h = by (leb k (passing p ws)) refl (p (get_or ws k 0)) refl
  where
    by : (s : Bool) → leb k (passing p ws) ≡ s → (t : Bool) → p (get_or ws k 0) ≡ t → leb (k + 1) (passing p ws) ≡ (s && t)
    by true e true f = le-leb (k + 1) (passing p ws) (omega (arith, scan_far p ws k (leb-true k (passing p ws) e), scan_on p ws k _ h refl f))
    by true e false f = lt-leb (k + 1) (passing p ws) (omega (arith, scan_far p ws k (leb-true k (passing p ws) e), scan_stop p ws k _ h refl f))
    by false e t f = lt-leb (k + 1) (passing p ws) (omega (arith, leb-false k (passing p ws) e))

-- the scan has come to the end
pub scan_end : (p : ℕ → Bool) (ws : List ℕ) (i : ℕ) → length ws ≤ i → passing p (drop i ws) ≡ 0
unfolding passing
scan_end p ws i h = rw (drop_of_length-le ws {i = i} h)

-- the place of the first image that fails, or the length where there is none, is how many pass
pub scan_found : {A : Type 0} (p : ℕ → Bool) (f : A → ℕ) (l : List A) (r : Option ℕ)
    → MatchOption r (AllWithin (λ x. p (f x) ≡ true) l 0 (length l)) (λ i. (i < length l) × HoldsAt (λ x. p (f x) ≡ false) l i × AllWithin (λ x. p (f x) ≡ true) l 0 i)
    → passing p (map f l) ≡ unwrap_or r (length l)
unfolding passing
scan_found p f =
    index_from_first (λ l. passing p (map f l)) (λ x. p (f x) ≡ false) (λ x. p (f x) ≡ true) refl (λ x l e. rw e refl) (λ x l e. rw e (omega arith))

-- two tests that say the same scan the same
pub scan_same : (p q : ℕ → Bool) → ((w : ℕ) → p w ≡ q w) → (ws : List ℕ) → passing p ws ≡ passing q ws
unfolding passing
scan_same p q e [] = refl
scan_same p q e (w ∷ ws) = rw (e w, scan_same p q e ws)

pub scan_le : (p : ℕ → Bool) (ws : List ℕ) → passing p ws ≤ length ws
unfolding passing
scan_le p [] = omega arith
scan_le p (w ∷ ws) = go (p w) (scan_le p ws)
  where
    go : (t : Bool) → passing p ws ≤ length ws → (if t then suc (passing p ws) else 0) ≤ suc (length ws)
    go true h = omega arith
    go false h = omega arith

-- a word is zero where both its bytes are
pub zero_within : (w : ℕ) → word_within 0 0 w ≡ is_zero w
unfolding word_within
zero_within w = by (eqb w 0) refl (leb (w / 256) 0) refl
  where
    by : (t : Bool) → eqb w 0 ≡ t → (s : Bool) → leb (w / 256) 0 ≡ s → word_within 0 0 w ≡ is_zero w
    by true e s f = let z = eqb-true w 0 e in rw z refl
    by false e false f = simp (e, f, le-leb 0 (w / 256) (omega arith))
    by false e true f =
        let l : 0 < w % 256 = omega (arith, leb-true (w / 256) 0 f, eqb-false w 0 e) in
        simp (e, f, le-leb 0 (w / 256) (omega arith), le-leb 0 (w % 256) (omega arith), lt-leb (w % 256) 0 l)

-- a scan of the words of a part
pub part_scan : (p : ℕ → Bool) (f t : ℕ) (b part : List ℕ) → part ≡ slice (f * 2) (t * 2) b → passing p (words_of part) ≡ passing p (slice f t (words_of b))
part_scan p f t b part e = ap (λ l. passing p (words_of l)) e ∙ ap (passing p) (words-slice f t b)

-- of the first n as many pass, if there are n
pub scan_take : (p : ℕ → Bool) (n : ℕ) (l : List ℕ) → passing p (take n l) ≡ min n (passing p l)
unfolding passing
scan_take p zero l = omega arith
scan_take p (suc n) [] = omega arith
scan_take p (suc n) (w ∷ ws) = go (p w) (scan_take p n ws)
  where
    go : (t : Bool) → passing p (take n ws) ≡ min n (passing p ws) → (if t then suc (passing p (take n ws)) else 0) ≡ min (suc n) (if t then suc (passing p ws) else 0)
    go true h = omega arith
    go false h = omega arith

module _ (p : ℕ → Bool) (P : ℕ → Type 0) where
  -- all pass: P holds of each
  pub all_pass : ((w : ℕ) → p w ≡ true → P w) → (l : List ℕ) → length l ≤ passing p l → All P l
  unfolding passing
  all_pass s [] h = tt
  all_pass s (w ∷ ws) h =
      by_test (λ k. suc (length ws) ≤ k → P w × All P ws) (p w) (suc (passing p ws)) 0 (λ e k. (s w e, all_pass s ws (omega arith))) (λ _ k. absurd (omega arith)) h

  -- and the other way
  pub pass_all : ((w : ℕ) → P w → p w ≡ true) → (l : List ℕ) → All P l → passing p l ≡ length l
  unfolding passing
  pass_all s [] h = refl
  pass_all s (w ∷ ws) h = rw (s w h.0) (ap suc (pass_all s ws h.1))

-- each of those passes
pub passes : (p : ℕ → Bool) (l : List ℕ) (i d : ℕ) → i < passing p l → p (get_or l i d) ≡ true
unfolding passing
passes p [] i d h = absurd (omega arith)
passes p (w ∷ ws) zero d h = by_test (λ k. 0 < k → p w ≡ true) (p w) (suc (passing p ws)) 0 (λ e _. e) (λ _ k. absurd (omega arith)) h
passes p (w ∷ ws) (suc i) d h =
    passes p ws i d (by_test (λ k. suc i < k → i < passing p ws) (p w) (suc (passing p ws)) 0 (λ _ k. omega arith) (λ _ k. absurd (omega arith)) h)
