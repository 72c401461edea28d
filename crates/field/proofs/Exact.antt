-- A field is read exactly where the grammar has one.
use Rattle.std.proofs.Common.{◌≡◌, ℕ, zero, suc, ◌+◌, ◌-◌, ◌*◌, ◌%◌, ◌<◌, ◌≤◌, Bool, true, false, ◌&&◌, eqb, leb, List, [], ◌∷◌, ◌++◌, sym, refl, ap, ◌∙◌, append_assoc, append-nil, zero-add, arith, eqb-true, le-leb, leb-true, Some, None}
use Rattle.units.proofs.Verdicts.{and_on}
use Rattle.units.proofs.Choosing.{by_test}
use Rattle.field.specs.declared.Scan.{Scan}
use Rattle.field.specs.declared.Scan.TheVariants.{Blank, Sign, Digits, Spoiled}
use Rattle.field.specs.Writing.{blanks}
use Rattle.field.specs.Reading.{with_digit, after_column, value_of, finish_of, scan_of, read_field}
use Rattle.field.specs.Grammar.{IsSign, no_sign, plus_sign, minus_sign, IsDigits, a_digit, and_a_digit, FieldForm, in_order, SignedWord, not_negative, negative, minus_zero, IsField}
use Rattle.field.proofs.Putting.{blank_more}
use Rattle.field.proofs.Columns.{some_digit, first-digit}

-- ---- what the grammar has is read

scan_append : (xs ys : List ℕ) (s : Scan) → scan_of s (xs ++ ys) ≡ scan_of (scan_of s xs) ys
scan_append [] ys s = refl
scan_append (x ∷ xs) ys s = scan_append xs ys (after_column s x)

scan_blanks : (n : ℕ) (l : List ℕ) → scan_of Blank (blanks n ++ l) ≡ scan_of Blank l
scan_blanks zero l = refl
scan_blanks (suc n) l = scan_blanks n l

digit_read : (minus : Bool) (m d : ℕ) → d < 10 → with_digit minus m (48 + d) ≡ Digits minus (m * 10 + d)
digit_read minus m d h = sym (some_digit minus m (48 + d) d (omega arith) (omega arith) (omega arith))

-- from where a first digit may stand
module _ (minus : Bool) (from : Scan) (first : (b : ℕ) → 48 ≤ b → after_column from b ≡ with_digit minus 0 b) where
  digits_read : {bs : List ℕ} {m : ℕ} → IsDigits bs m → scan_of from bs ≡ Digits minus m
  digits_read (a_digit {d} h) = first (48 + d) (omega arith) ∙ digit_read minus 0 d h ∙ ap (λ m. Digits minus m) (zero-add d)
  digits_read (and_a_digit {bs} {m} {d} ds h) = rw (scan_append, digits_read ds) (digit_read minus m d h)

first_of_all : (b : ℕ) → 48 ≤ b → after_column Blank b ≡ with_digit false 0 b
first_of_all b h = sym (first-digit Blank b refl (with_digit false 0 b) (λ e. omega arith) (λ e. omega arith) (λ e. omega arith) refl)

form_read : {bs : List ℕ} {minus : Bool} {m : ℕ} → FieldForm bs minus m → scan_of Blank bs ≡ Digits minus m
form_read (in_order n no_sign h) = rw (append_assoc, scan_blanks) (digits_read false Blank first_of_all h)
form_read (in_order n plus_sign h) = rw (append_assoc, scan_blanks) (digits_read false (Sign false) (λ b k. refl) h)
form_read (in_order n minus_sign h) = rw (append_assoc, scan_blanks) (digits_read true (Sign true) (λ b k. refl) h)

value_read : {minus : Bool} {m w : ℕ} → SignedWord minus m w → value_of minus m ≡ Some w
value_read (not_negative {m} h) = simp (le-leb m 32767 (omega arith))
value_read (negative {m} k h) = let e : (65536 - m) % 65536 ≡ 65536 - m = omega arith in simp (le-leb m 32768 (omega arith), e)
value_read minus_zero = refl

pub field_read : {bs : List ℕ} {w : ℕ} → IsField bs w → read_field bs ≡ Some w
unfolding read_field
field_read f = ap finish_of (form_read f.form) ∙ value_read f.value

-- ---- what is read the grammar has

-- blanks and then a sign
record Front (bs : List ℕ) (minus : Bool) : Type 0 where
  blank : ℕ
  sign : List ℕ
  is_sign : IsSign sign minus
  are : bs ≡ blanks blank ++ sign

-- the columns so far, by where the reading stands
abbrev Reached : List ℕ → Scan → Type 0
Reached bs Blank = (n : ℕ) × (bs ≡ blanks n)
Reached bs (Sign minus) = Front bs minus
Reached bs (Digits minus m) = FieldForm bs minus m
Reached bs Spoiled = Unit {0}

form_more : {bs : List ℕ} {minus : Bool} {m d : ℕ} → FieldForm bs minus m → d < 10 → FieldForm (bs ++ (48 + d) ∷ []) minus (m * 10 + d)
form_more (in_order {sign} {digits} n s ds) h = rw (append_assoc (blanks n ++ sign) digits) (in_order n s (and_a_digit ds h))

module _ (bs : List ℕ) (b : ℕ) where
  -- the columns so far and one more
  abbrev more : List ℕ
  more = bs ++ b ∷ []

  digit_reached : (minus : Bool) (m : ℕ) → ((d : ℕ) → d < 10 → FieldForm (bs ++ (48 + d) ∷ []) minus (m * 10 + d)) → Reached more (with_digit minus m b)
  digit_reached minus m form =
      by_test (Reached more) (leb 48 b && leb b 57) (Digits minus (m * 10 + (b - 48))) Spoiled
      (λ t. let h = and_on (leb 48 b) (leb b 57) t in
      let low = leb-true 48 b h.0 in
      let high = leb-true b 57 h.1 in
      let e : 48 + (b - 48) ≡ b = omega arith in
      rw e at (form (b - 48) (omega arith)))
      (λ _. tt)

  first_reached : (minus : Bool) → Front bs minus → Reached more (with_digit minus 0 b)
  first_reached minus f = digit_reached minus 0 (λ d h. rw (f.are, zero-add d) (in_order f.blank f.is_sign (a_digit h)))

  sign_reached : (n c : ℕ) (minus : Bool) → bs ≡ blanks n → b ≡ c → IsSign (c ∷ []) minus → Front more minus
  sign_reached n c minus e f s = record { blank = n; sign = c ∷ []; is_sign = s; are = rw (e, f) }

  column_reached : (s : Scan) → Reached bs s → Reached more (after_column s b)
  column_reached Blank r =
      let front : Front bs false = record { blank = r.0; sign = []; is_sign = no_sign; are = r.1 ∙ sym (append-nil (blanks r.0)) } in
      by_test (Reached more) (eqb b 32) Blank _ (λ t. (suc r.0, rw (r.1, eqb-true b 32 t) (blank_more r.0 [] ∙ append-nil (blanks (suc r.0)))))
      (λ _. by_test (Reached more) (eqb b 45) (Sign true) _ (λ t. sign_reached r.0 45 true r.1 (eqb-true b 45 t) minus_sign)
      (λ _. by_test (Reached more) (eqb b 43) (Sign false) _ (λ t. sign_reached r.0 43 false r.1 (eqb-true b 43 t) plus_sign)
      (λ _. first_reached false front)))
  column_reached (Sign minus) r = first_reached minus r
  column_reached (Digits minus m) r = digit_reached minus m (λ d h. form_more r h)
  column_reached Spoiled r = tt

columns_reached : (bs more : List ℕ) (s : Scan) → Reached bs s → Reached (bs ++ more) (scan_of s more)
columns_reached bs [] s r = rw append-nil r
columns_reached bs (b ∷ more) s r = rw (← append_assoc bs (b ∷ []) more) (columns_reached (bs ++ b ∷ []) more (after_column s b) (column_reached bs b s r))

form_said : {bs : List ℕ} {minus : Bool} {m : ℕ} → scan_of Blank bs ≡ Digits minus m → FieldForm bs minus m
form_said {bs} e = rw e at (columns_reached [] bs Blank (0, refl))

-- a bad field is no word
never : {A : Type 0} (w : ℕ) → None ≡ Some w → A
never w e = let z : ◌≡◌ {A = ℕ} 0 1 = cc in absurd (omega arith)

value_said : (minus : Bool) (m w : ℕ) → value_of minus m ≡ Some w → SignedWord minus m w
value_said false m w =
    by_test (λ v. v ≡ Some w → SignedWord false m w) (leb m 32767) (Some m) None
    (λ t e. let f : w ≡ m = cc in rw f (not_negative (leb-true m 32767 t)))
    (λ _. never w)
value_said true zero w = λ e. let f : 0 ≡ w = cc in rw (← f) minus_zero
value_said true (suc m) w =
    by_test (λ v. v ≡ Some w → SignedWord true (suc m) w) (leb (suc m) 32768) (Some ((65536 - suc m) % 65536)) None
    (λ t e. let f : (65536 - suc m) % 65536 ≡ w = cc in let g : w ≡ 65536 - suc m = omega arith in rw g (negative {m = suc m} (omega arith) (leb-true (suc m) 32768 t)))
    (λ _. never w)

pub field_said : {bs : List ℕ} {w : ℕ} → read_field bs ≡ Some w → IsField bs w
unfolding read_field
field_said {bs} {w} = by (scan_of Blank bs) refl
  where
    by : (s : Scan) → scan_of Blank bs ≡ s → finish_of s ≡ Some w → IsField bs w
    by Blank f e = never w e
    by (Sign minus) f e = never w e
    by (Digits minus m) f e = record { minus = minus; number = m; form = form_said f; value = value_said minus m w e }
    by Spoiled f e = never w e
