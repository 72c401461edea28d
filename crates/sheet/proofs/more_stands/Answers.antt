use Rattle.std.proofs.Common.{rules, ℕ, ◌≡◌, List, [], ◌∷◌, refl, sym, ap, ◌∙◌, arith}
use Rattle.std.specs.List.{fold}
use Rattle.std.specs.Int.Bits.{bit_or}
use Rattle.std.proofs.lemmas.Fn.{fold_over, slice_gives, fronts}
use Rattle.std.proofs.lemmas.Grind.{fold-append}
use Rattle.sheet.proofs.Stores.{stands, past_stands}
use Rattle.sheet.proofs.more_stands.Goals as goal

-- the bytes so far, or-ed
abbrev Ored : List ℕ → ℕ → Type 0
Ored bytes n = n ≡ fold bit_or 0 bytes

pub returns : goal.returns
returns c =
    let ored = fold_over fronts (λ y. y.now) _ Ored _ (λ xs n x m f j k. (let one : m ≡ bit_or n x.now = search rules in one ∙ ap (λ i. bit_or i x.now) j ∙ sym (fold-append bit_or 0 xs (x.now ∷ [])), search rules))
    _ _ _ _ (slice_gives c.iter.result) refl c.fold.ensures.ran in
    ap stands (rw c.iter.ensures.rest at ored) ∙ past_stands c.args.sheet.now c.args.count c.bytes_of_words-before.result.0 c.requires.0 (omega arith)
