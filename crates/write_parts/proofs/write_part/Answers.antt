use mathlib.Core.List.{List, [], ◌∷◌, ◌++◌}
use Prim.Native.Nat.{ℕ, ◌<◌, min}
use lib.ListN.{length}
use Rattle.std.proofs.lemmas.List.{map-append, length-map}
use Rattle.std.specs.Int.{w16, from_be_bytes}
use Rattle.std.specs.Slice.Iter.{chunks_rest}
use Rattle.write_parts.specs.Laid.{fields_of, part_text}
use Rattle.words.specs.Words.{pair_words}
use Rattle.write_parts.proofs.Turns.{line_turn, no_part}
use Rattle.words.proofs.Writing.{fits, on, done}
use mathlib.Core.Path.{◌≡◌, ap, ◌∙◌}
use native.Mathlib.Omega.{arith}
use Rattle.write_parts.proofs.write_part.Goals as goal

-- the next line's words, and the others
next_line : (rest line others : List (List ℕ)) → rest ≡ line ++ others → length line ≡ min 20 (length rest) → 0 < length rest
    → part_text (pair_words rest) ≡ (fields_of (pair_words line) ++ (10 ∷ [])) ++ part_text (pair_words others)
next_line rest line others e sized some =
    let f = from_be_bytes w16 in
    line_turn (pair_words rest) (pair_words line) (pair_words others) (ap pair_words e ∙ map-append f line others) (omega (arith, length-map line f, length-map rest f)) (omega (arith, length-map rest f))

pub write_line-to-requires : goal.write_line-to-requires
write_line-to-requires c = let i = c.loop-line.invariant in
    let s = rw c.in-Some.is at c.next.ensures.steps in
    let line = c.in-Some.line.now in
    let others = chunks_rest c.next.new.self in
    let rest = chunks_rest c.loop-line.line-iterator in
    fits i.going _ _ (next_line rest line others s.1.0 (omega arith) s.1.2) c.requires

pub loop-line-preserved : goal.loop-line-preserved
loop-line-preserved c = let i = c.loop-line.invariant in
    let s = rw c.in-Some.is at c.next.ensures.steps in
    let line = c.in-Some.line.now in
    let others = chunks_rest c.next.new.self in
    let rest = chunks_rest c.loop-line.line-iterator in
    record { sized = omega arith; going = on i.going _ _ (next_line rest line others s.1.0 (omega arith) s.1.2) c.write_line-to.ensures }

pub returns : goal.returns
returns c = let s = rw c.in-None.is at c.next.ensures.steps in done c.loop-line.invariant.going (no_part _ (length-map (chunks_rest c.loop-line.line-iterator) (from_be_bytes w16) ∙ s.1.0))
