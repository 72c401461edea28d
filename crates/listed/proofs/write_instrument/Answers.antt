use mathlib.Core.Path.{◌≡◌, refl}
use mathlib.Core.List.{[], ◌∷◌, ◌++◌}
use Rattle.std.proofs.Common.{ℕ}
use Rattle.words.proofs.Writing.{start, fits, on, done}
use Rattle.prefix.specs.declared.Letters.{Letters}
use Rattle.prefix.specs.Table.{prefix_of}
use Rattle.listed.specs.Listing.{signed_of}
use Rattle.listed.proofs.Rows.{ending, closing, ending_pieces}
use Rattle.listed.proofs.write_instrument.Goals as goal

pieces : {l : Letters} (w : ℕ) → l ≡ prefix_of w → ending w ≡ (32 ∷ []) ++ (signed_of w ++ closing l)
pieces w e = rw e (ending_pieces w)

pub write_bytes-to-requires : goal.write_bytes-to-requires
write_bytes-to-requires c = fits {o = c.args.out.now} start (32 ∷ []) _ (pieces c.args.w c.prefix_of-letters.ensures) c.requires

-- what is left after the space, and after the instrument
pub write_signed-to-requires : goal.write_signed-to-requires
write_signed-to-requires c =
    let left = on start (32 ∷ []) _ (pieces c.args.w c.prefix_of-letters.ensures) c.write_bytes-to.ensures in
    fits left (signed_of c.args.w) _ refl c.requires

pub write_bytes-requires : goal.write_bytes-requires
write_bytes-requires c =
    let left = on start (32 ∷ []) _ (pieces c.args.w c.prefix_of-letters.ensures) c.write_bytes-to.ensures in
    fits (on left _ _ refl c.write_signed-to.ensures) (closing c.prefix_of-letters.result) [] refl c.requires

pub returns : goal.returns
returns c =
    let left = on start (32 ∷ []) _ (pieces c.args.w c.prefix_of-letters.ensures) c.write_bytes-to.ensures in
    done (on (on left _ _ refl c.write_signed-to.ensures) _ [] refl c.write_bytes.ensures) refl
