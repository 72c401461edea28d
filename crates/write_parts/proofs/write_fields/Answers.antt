use Rattle.write_parts.proofs.Turns.{fields_turn, no_fields, field_put}
use Rattle.field.proofs.Written.{length_field_of}
use Rattle.field.specs.Writing.{field_of}
use Rattle.words.proofs.Writing.{Going, fits, on, done}
use Rattle.words.specs.Writing.{Room}
use lib.ListN.{length}
use native.Mathlib.Omega.{arith}
use mathlib.Core.List.{List, [], ◌++◌}
use Rattle.std.proofs.lemmas.List.{length-map}
use Rattle.std.specs.Int.{w16, from_be_bytes}
use Rattle.words.specs.Words.{pair_words}
use mathlib.Core.Path.{◌≡◌}
use Prim.Native.Nat.{ℕ, ◌+◌, ◌≤◌}
use Rattle.write_parts.proofs.write_fields.Goals as goal

-- the next word's field has room
room : {o all out rest : List ℕ} {at to : ℕ} → Going o at all out to rest → (w : ℕ) (others : List ℕ) → rest ≡ field_of w ++ others → Room o at all → to + 6 ≤ length out
room g w others turn h = omega (arith, fits g (field_of w) others turn h, length_field_of w)

pub write_field-requires : goal.write_field-requires
write_field-requires c = let l = c.loop-word in
    room l.invariant _ _ (fields_turn c.args.words.now l.word-index c.from_be_bytes.result [] (omega arith) c.from_be_bytes.ensures) c.requires

pub loop-word-preserved : goal.loop-word-preserved
loop-word-preserved c = let l = c.loop-word in
    on l.invariant (field_of c.from_be_bytes.result) _ (fields_turn c.args.words.now l.word-index c.from_be_bytes.result [] (omega arith) c.from_be_bytes.ensures) (field_put _ _ _ c.write_field.ensures)

pub returns : goal.returns
returns c = done c.loop-word.invariant (no_fields (pair_words c.args.words.now) c.loop-word.word-index (omega (arith, length-map c.args.words.now (from_be_bytes w16))))
