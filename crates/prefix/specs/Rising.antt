-- Codes that rise strictly, as a test that is computed once over the whole list.
use Rattle.std.specs.Prelude.{Bool, true, ◌&&◌, List, [], ◌∷◌, ℕ, ltb}

-- "codes rise strictly"
unfoldable pub rises : List ℕ → Bool
rises [] = true
rises (x ∷ []) = true
rises (x ∷ (y ∷ l)) = ltb x y && rises (y ∷ l)
