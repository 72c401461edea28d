-- Document 01, "Read form": the lines of a text.
use Rattle.std.specs.Prelude.{ℕ, ◌+◌, ◌-◌, ◌≤◌, ◌<◌, ◌≡◌, List, [], ◌∷◌, ◌&&◌, eqb, length, get_or, take, drop}
use Rattle.std.specs.Prelude.{if◌then◌else◌}
use Rattle.words.specs.Scans.{plain_in}
use Rattle.read_cut.specs.declared.Cut.{Cut}

-- a byte in front of the first line, or a line by itself: the end of the text ends a line "if it has a byte"
unfoldable pub onto : ℕ → List (List ℕ) → List (List ℕ)
onto b [] = (b ∷ []) ∷ []
onto b (l ∷ ls) = (b ∷ l) ∷ ls

-- how many bytes the LF or CR LF takes that a text begins with; 0 where it begins with none
unfoldable pub end_length : List ℕ → ℕ
end_length t = if eqb (get_or t 0 0) 10 then 1 else if eqb (get_or t 0 0) 13 && eqb (get_or t 1 0) 10 then 2 else 0

-- "It ends with LF, CR LF, or the end of the text if it has a byte": an end of one byte ends a line, and the first of two is passed over
unfoldable pub lines_in : List ℕ → List (List ℕ)
lines_in [] = []
lines_in (b ∷ t) =
    if eqb (end_length (b ∷ t)) 0 then onto b (lines_in t)
    else if eqb (end_length (b ∷ t)) 1 then [] ∷ lines_in t
    else lines_in t

-- the plain bytes from place `at` on go on at place i, or end there
abbrev pub PlainOn : List ℕ → ℕ → ℕ → Type 0
PlainOn t at i = i + plain_in (drop i t) ≡ at + plain_in (drop at t)

-- the first line from place `at` on is the bytes before `end`, and it begins with `plain` plain bytes; its end stands there, and the other lines begin at `next`
pub record CutAt (t : List ℕ) (at : ℕ) (c : Cut) : Type 0 where
  pub cut : lines_in (drop at t) ≡ take (c.end.0 - at) (drop at t) ∷ lines_in (drop c.next.0 t)
  pub plain : c.plain.0 ≡ plain_in (take (c.end.0 - at) (drop at t))
  pub ends : c.next.0 ≡ c.end.0 + end_length (drop c.end.0 t)
  pub within : at ≤ c.end.0
  pub onward : at < c.next.0
  pub inside : c.next.0 ≤ length t
