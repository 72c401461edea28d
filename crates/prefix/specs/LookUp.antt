-- A table of codes, each with a value beside it, and the value of a code.
use Rattle.std.specs.Prelude.{List, [], ◌∷◌, map, ℕ, suc, eqb, ltb, length, Option, Some, None}
use Rattle.std.specs.Prelude.{if◌then◌else◌}

-- the value beside the first such code, the other for "every unlisted code"
unfoldable pub beside : {A : Type 0} → List (ℕ × A) → ℕ → A → A
beside [] code other = other
beside (row ∷ rows) code other = if eqb row.0 code then row.1 else beside rows code other

-- "searched by KINST": the place of the first such code, the length where there is none
unfoldable pub place_in : List ℕ → ℕ → ℕ
place_in [] code = 0
place_in (c ∷ codes) code = if eqb c code then 0 else suc (place_in codes code)

-- that place, where the code is there
abbrev pub row_of : List ℕ → ℕ → Option ℕ
row_of codes code = if ltb (place_in codes code) (length codes) then Some (place_in codes code) else None

module _ {A : Type 0} where
  -- the codes of a table, and the values beside them
  abbrev pub codes_of : List (ℕ × A) → List ℕ
  codes_of rows = map (λ r. r.0) rows

  abbrev pub values_of : List (ℕ × A) → List A
  values_of rows = map (λ r. r.1) rows
