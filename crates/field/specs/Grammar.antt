-- Document 01, "The lines", "Read form": a number field as a grammar, with no scan and no order of tests in it.
use Rattle.std.specs.Prelude.{ℕ, ◌+◌, ◌-◌, ◌*◌, ◌<◌, ◌≤◌, Bool, true, false, List, [], ◌∷◌, ◌++◌}
use Rattle.field.specs.Writing.{blanks}

-- "at most one sign": none, "+" or "-", and whether it is a minus
pub data IsSign : List ℕ → Bool → Type 0 where
  no_sign : IsSign [] false
  plus_sign : IsSign (43 ∷ []) false
  minus_sign : IsSign (45 ∷ []) true

-- "digits", at least one, and the number that they say; "0" to "9" are 48 to 57
pub data IsDigits : List ℕ → ℕ → Type 0 where
  a_digit : {d : ℕ} → d < 10 → IsDigits ((48 + d) ∷ []) d
  and_a_digit : {bs : List ℕ} {m d : ℕ} → IsDigits bs m → d < 10 → IsDigits (bs ++ (48 + d) ∷ []) (m * 10 + d)

-- "A field is blanks, then at most one sign, then digits to its last column": whether it has a minus, and its number, however large
pub data FieldForm : List ℕ → Bool → ℕ → Type 0 where
  in_order : {sign digits : List ℕ} {minus : Bool} {m : ℕ} (n : ℕ)
      → IsSign sign minus → IsDigits digits m → FieldForm (blanks n ++ sign ++ digits) minus m

-- "its value lies in -32768 to 32767": its word, 0 to 65535, in two's complement; "    -0" is 0
pub data SignedWord : Bool → ℕ → ℕ → Type 0 where
  not_negative : {m : ℕ} → m ≤ 32767 → SignedWord false m m
  negative : {m : ℕ} → 1 ≤ m → m ≤ 32768 → SignedWord true m (65536 - m)
  minus_zero : SignedWord true 0 0

-- these bytes are a field of this word
pub record IsField (bs : List ℕ) (w : ℕ) : Type 0 where
  pub minus : Bool
  pub number : ℕ
  pub form : FieldForm bs minus number
  pub value : SignedWord minus number w
