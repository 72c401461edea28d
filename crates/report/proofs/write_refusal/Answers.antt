use mathlib.Core.Path.{◌≡◌, refl}
use mathlib.Core.List.{List, [], ◌∷◌, ◌++◌}
use Rattle.std.proofs.Common.{ℕ}
use Rattle.units.specs.declared.Answer.{Answer}
use Rattle.words.specs.Writing.{Put}
use Rattle.words.proofs.Writing.{Going, start, fits, on, done}
use Rattle.report.specs.Text.{bytes_from, text}
use Rattle.report.specs.Refusal.{refusal_line}
use Rattle.report.specs.Decimal.{spaced}
use Rattle.report.proofs.Lines.{refusal_pieces}
use Rattle.report.proofs.write_refusal.Goals as goal

-- the line's pieces, with the numbers as they are widened
pieces : {n b c : ℕ} (r : Answer) → n ≡ r.n → b ≡ r.b → c ≡ r.c → refusal_line r ≡ text "refused" ++ (spaced (n ∷ r.a ∷ b ∷ c ∷ []) ++ (10 ∷ []))
pieces r n b c = rw (n, b, c) (refusal_pieces r)

-- what is left once the word is in
module _ (n b c : ℕ) {o out : List ℕ} {at to : ℕ} (r : Answer) (is : refusal_line r ≡ text "refused" ++ (spaced (n ∷ r.a ∷ b ∷ c ∷ []) ++ (10 ∷ []))) (p : Put o at (text "refused") out to) where
  numbers-left : Going o at (refusal_line r) out to (spaced (n ∷ r.a ∷ b ∷ c ∷ []) ++ (10 ∷ []))
  numbers-left = on start (text "refused") _ is p

  -- and then the numbers
  end-left : {out' : List ℕ} {to' : ℕ} → Put out to (spaced (n ∷ r.a ∷ b ∷ c ∷ [])) out' to' → Going o at (refusal_line r) out' to' (10 ∷ [])
  end-left q = on numbers-left _ _ refl q

pub write_bytes-to-requires : goal.write_bytes-to-requires
unfolding bytes_from
write_bytes-to-requires c = fits {o = c.args.out.now} start (text "refused") _ (refusal_pieces c.args.r) c.requires

pub write_spaced-to-requires : goal.write_spaced-to-requires
unfolding bytes_from
write_spaced-to-requires c = fits (numbers-left _ _ _ c.args.r (pieces c.args.r c.from.ensures c.from-2.ensures c.from-3.ensures) c.write_bytes-to.ensures) _ (10 ∷ []) refl c.requires

pub write_bytes-requires : goal.write_bytes-requires
unfolding bytes_from
write_bytes-requires c = fits (end-left _ _ _ c.args.r (pieces c.args.r c.from.ensures c.from-2.ensures c.from-3.ensures) c.write_bytes-to.ensures c.write_spaced-to.ensures) (10 ∷ []) [] refl c.requires

pub returns : goal.returns
unfolding bytes_from
returns c = done (on (end-left _ _ _ c.args.r (pieces c.args.r c.from.ensures c.from-2.ensures c.from-3.ensures) c.write_bytes-to.ensures c.write_spaced-to.ensures) (10 ∷ []) [] refl c.write_bytes.ensures) refl
