use Rattle.words.proofs.Laws.{word_room}
use Rattle.words.specs.Words.{bytes_of}
use native.Mathlib.Omega.{arith}
use mathlib.Core.List.{[], ◌∷◌}
use lib.Seq.{sets}
use mathlib.Core.Path.{◌≡◌, ap, ap₂, ◌∙◌}
use Prim.Native.Nat.{◌/◌, ◌%◌}
use Rattle.words.proofs.put_word.Goals as goal

pub bytes_of_words-requires : goal.bytes_of_words-requires
bytes_of_words-requires c = omega (arith, word_room c.args.part.now c.args.at.0 c.requires)

pub write_bytes-requires : goal.write_bytes-requires
write_bytes-requires c = omega (arith, word_room c.args.part.now c.args.at.0 c.requires)

pub returns : goal.returns
unfolding bytes_of
returns c = let w = c.args.w in
    let high : w / 256 % 256 ≡ w / 256 = omega arith in
    let bytes : c.to_be_bytes.result ≡ bytes_of (w ∷ []) = c.to_be_bytes.ensures ∙ ap (λ h. h ∷ ((w % 256) ∷ [])) high in
    c.write_bytes.ensures.bytes ∙ ap₂ (sets c.args.part.now) c.bytes_of_words.ensures bytes
