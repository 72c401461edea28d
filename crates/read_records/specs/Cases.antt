-- The rows of a text.
use Rattle.std.specs.Prelude.{ℕ, ◌≤◌, ◌≡◌}

-- "Order for text: 30, then line by line ... At the end 21": rows 20 to 28, and 30
abbrev pub TextRow : ℕ → Type 0
TextRow n = (20 ≤ n) × (n ≤ 30) × (n ≡ 29 → ⊥)
