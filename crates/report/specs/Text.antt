-- Document 01, "Examples": texts, and lines of items.
use Rattle.std.specs.Prelude.{ℕ, zero, suc, ◌+◌, List, [], ◌∷◌, ◌++◌}
use Prim.Native.Char.{code}
use Prim.Native.String.{String, char_at, len}

-- n bytes of a text from a place on
unfoldable pub bytes_from : ℕ → ℕ → String → List ℕ
bytes_from at zero s = []
bytes_from at (suc n) s = code (char_at s at) ∷ bytes_from (at + 1) n s

-- a text's bytes
abbrev pub text : String → List ℕ
text s = bytes_from 0 (len s) s

-- "one space between; LF after": what stands behind an item
unfoldable pub behind : List (List ℕ) → List ℕ
behind [] = 10 ∷ []
behind (x ∷ xs) = 32 ∷ (x ++ behind xs)

-- a line of items, so spaced and ended
unfoldable pub line_of : List (List ℕ) → List ℕ
line_of [] = 10 ∷ []
line_of (x ∷ xs) = x ++ behind xs
