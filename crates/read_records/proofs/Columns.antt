-- What the columns of a line tell: its bytes, its number fields, its blanks.
use mathlib.Core.Path.{◌≡◌, refl, ap}
use mathlib.Core.Bool.{Bool, true, false}
use mathlib.Core.Logic.{inl, inr}
use mathlib.Core.List.{List, [], ◌∷◌}
use Prim.Native.Nat.{ℕ, zero, suc, ◌+◌, ◌*◌, ◌/◌, ◌%◌, ◌^◌, ◌≤◌, ◌<◌, min}
use native.Mathlib.Omega.{arith}
use borrow.Author.Tests.{ltb-false, leb-true, eqb-true, eqb-false}
use lib.Dec.{ltb, leb, eqb}
use lib.ListN.{length, take, drop, length-take, length-drop}
use lib.Seq.{take_all}
use Rattle.units.specs.Answers.{answer, passed, refused}
use Rattle.units.proofs.Verdicts.{and_on}
use Rattle.words.specs.Words.{words_of, All, Below, most_words}
use Rattle.words.specs.Scans.{passing, within, plain_in}
use Rattle.words.proofs.Scans.{scan_take, scan_le, all_pass}
use Rattle.read_columns.proofs.Columns.{part-columns}
use Rattle.record.specs.Rules.{CardWord}
use Rattle.std.specs.Prelude.{Option, Some, None}
use Rattle.field.specs.Reading.{read_field, columns}
use Rattle.field.specs.Grammar.{SignedWord, not_negative, negative, minus_zero}
use Rattle.field.proofs.Exact.{field_said}
use Rattle.units.specs.Units.{Line, columns_of_fields}
use Rattle.read_columns.specs.Columns.{right_to, plain_line, is_blank, blank_to, blank_after, column_of, word_in, number, field_numbers, blank_field, zero_field, zero_fields}
use Rattle.read_records.specs.Spelled.{PlainByte, Readable, Blanks, Spells, SpellsAll, SpellsZero}
use Rattle.units.proofs.Told.{Known, then_known, known_as}
use Rattle.read_records.proofs.Told.{told}
use Rattle.read_records.specs.Cases.{TextRow}
use Rattle.units.proofs.Choosing.{by_test}

-- ---- columns that must be right

-- to the line's end, or the next one is told
right_known : (n num : ℕ) (l : Line) (c : ℕ) → TextRow n → num < 2 ^ 24 → c < 65535 → Known TextRow (λ _. length l ≤ c) (right_to n num l c)
unfolding right_to
right_known n num l c row hn h =
    by_test (Known TextRow (λ _. length l ≤ c)) (ltb c (length l)) (refused (answer n num (c + 1) 0)) (passed tt) (λ _. told n num (c + 1) row hn (omega arith)) (ltb-false c (length l))

-- row 20
plain_byte : (b : ℕ) → within 32 126 b ≡ true → PlainByte b
plain_byte b e = let a = and_on (leb 32 b) _ e in record { least = leb-true 32 b a.0; most = leb-true b 126 a.1 }

readable : (l : Line) → length l ≤ plain_in (take 120 l) → Readable l
readable l h =
    let short : length l ≤ 120 = omega (arith, scan_le (within 32 126) (take 120 l), length-take 120 l) in
    record { short = short; bytes = all_pass (within 32 126) PlainByte plain_byte l (rw (take_all 120 l short) at h) }

pub plain_known : (num : ℕ) (l : Line) → num < 2 ^ 24 → Known TextRow (λ _. Readable l) (plain_line num l)
unfolding plain_line
plain_known num l hn =
    known_as TextRow (λ _. length l ≤ plain_in (take 120 l)) (λ _. Readable l) (right_to 20 num l (plain_in (take 120 l)))
    (right_known 20 num l (plain_in (take 120 l)) (omega arith) hn (omega (arith, scan_le (within 32 126) (take 120 l), length-take 120 l)))
    (λ _. readable l)

-- ---- the words of a card

pub card_words : (b : List ℕ) → All PlainByte b → All CardWord (words_of b)
unfolding words_of
card_words [] h = tt
card_words (x ∷ []) h = tt
card_words (x ∷ y ∷ r) h =
    let px = h.0 in
    let py = h.1.0 in
    let hi : (x * 256 + y) / 256 ≡ x = omega arith in
    let lo : (x * 256 + y) % 256 ≡ y = omega arith in
    (omega arith, card_words r h.1.1)

-- ---- number fields

word_fits : {minus : Bool} {m w : ℕ} → SignedWord minus m w → w < 65536
word_fits (not_negative h) = omega arith
word_fits (negative k h) = omega arith
word_fits minus_zero = omega arith

-- the words of m fields, those after the first k
pub record WordsRead (l : Line) (k m : ℕ) (ws : List ℕ) : Type 0 where
  pub count : length ws ≡ m
  pub spells : SpellsAll l k ws

pub spelled_below : (l : Line) (k : ℕ) (ws : List ℕ) → SpellsAll l k ws → Below 65536 ws
spelled_below l k [] h = tt
spelled_below l k (w ∷ ws) h = (word_fits h.0.value, spelled_below l (suc k) ws h.1)

-- ---- blanks

pub all_blank : (l : Line) → length l ≤ passing is_blank l → Blanks l
all_blank = all_pass is_blank (λ b. b ≡ 32) (λ b. eqb-true b 32)

blank_field_lem : (l : Line) (k : ℕ) → blank_field l k ≡ true → Blanks (columns 6 l (6 * k))
blank_field_lem l k e =
    let here = drop (6 * k) l in
    let reach = leb-true (min (6 * k + 6) (length l)) (blank_to (6 * k) l) e in
    part-columns (λ b. b ≡ 32) 6 l (6 * k) refl
    (all_blank (take 6 here) (omega (arith, scan_take is_blank 6 here, length-take 6 here, length-drop (6 * k) l)))

-- line number num, of which no field past the 8,000th is asked for
module _ (num : ℕ) (hn : num < 2 ^ 24) (l : Line) where
  number_known : (k : ℕ) → k < most_words → Known TextRow (Spells l k) (number num l k)
  unfolding number
  number_known k h = by (read_field (columns 6 l (6 * k))) refl
    where
      by : (n : Option ℕ) → read_field (columns 6 l (6 * k)) ≡ n → Known TextRow (Spells l k) (word_in num k n)
      by (Some w) e = field_said e
      by None e = told 22 num (column_of k) (omega arith) hn (omega arith)

  pub numbers_known : (k m : ℕ) → k + m ≤ most_words → Known TextRow (WordsRead l k m) (field_numbers num l k m)
  unfolding field_numbers
  numbers_known k zero h = record { count = refl; spells = tt }
  numbers_known k (suc m) h =
      then_known TextRow (Spells l k) (WordsRead l k (suc m)) (number num l k) _ (number_known k (omega arith))
      (λ w hw. then_known TextRow (WordsRead l (suc k) m) (WordsRead l k (suc m)) (field_numbers num l (suc k) m) _ (numbers_known (suc k) m (omega arith))
      (λ ws r. record { count = ap suc r.count; spells = (hw, r.spells) }))

  zero_known : (k : ℕ) → k < most_words → Known TextRow (λ _. SpellsZero l k) (zero_field num l k)
  unfolding zero_field
  zero_known k h =
      by_test (Known TextRow Z) (blank_field l k) (passed tt) _ (λ t. inl (blank_field_lem l k t))
      (λ _. then_known TextRow (Spells l k) Z (number num l k) _ (number_known k h)
      (λ w s. by_test (Known TextRow Z) (eqb w 0) (passed tt) (refused (answer 26 num (column_of k) 0)) (λ t. inr (rw (eqb-true w 0 t) at s)) (λ _. told 26 num (column_of k) (omega arith) hn (omega arith))))
    where
      Z : Unit {0} → Type 0
      Z _ = SpellsZero l k

  -- the m fields from field k on are blank or 0
  abbrev pub ZerosRead : ℕ → ℕ → Type 0
  ZerosRead k m = (j : ℕ) → k ≤ j → j < k + m → SpellsZero l j

  pub zeros_known : (k m : ℕ) → k + m ≤ most_words → Known TextRow (λ _. ZerosRead k m) (zero_fields num l k m)
  unfolding zero_fields
  zeros_known k zero h = λ j low high. absurd (omega arith)
  zeros_known k (suc m) h =
      then_known TextRow (λ _. SpellsZero l k) (λ _. ZerosRead k (suc m)) (zero_field num l k) _ (zero_known k (omega arith))
      (λ _ z. known_as TextRow (λ _. ZerosRead (suc k) m) (λ _. ZerosRead k (suc m)) (zero_fields num l (suc k) m) (zeros_known (suc k) m (omega arith))
      (λ _ zs j low high. by j low high z zs (eqb j k) refl))
    where
      by : (j : ℕ) → k ≤ j → j < k + suc m → SpellsZero l k → ZerosRead (suc k) m → (t : Bool) → eqb j k ≡ t → SpellsZero l j
      by j low high z zs true t = rw (eqb-true j k t) z
      by j low high z zs false t = zs j (omega (arith, eqb-false j k t)) (omega arith)

  pub blank_known : (c : ℕ) → Readable l → c ≤ columns_of_fields most_words → Known TextRow (λ _. Blanks (drop c l)) (blank_after num l c)
  unfolding blank_after
  blank_known c e h =
      known_as TextRow (λ _. length l ≤ blank_to c l) (λ _. Blanks (drop c l)) (right_to 26 num l (blank_to c l))
      (right_known 26 num l (blank_to c l) (omega arith) hn (omega (arith, scan_le is_blank (drop c l), length-drop c l, e.short)))
      (λ _ r. all_blank (drop c l) (omega (arith, length-drop c l)))
