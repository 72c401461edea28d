use Rattle.write_parts.proofs.Turns.{cards_told, text_turn, no_texts}
use Rattle.write_parts.specs.Laid.{ended}
use Rattle.words.proofs.Writing.{Going, fits, on, byte_put, done}
use Rattle.words.proofs.Laws.{length_words_of}
use Rattle.words.specs.Writing.{Room}
use lib.ListN.{length}
use lib.Seq.{length-take-le, length-slice}
use native.Mathlib.Omega.{arith}
use mathlib.Core.List.{List, [], ◌∷◌}
use mathlib.Core.Path.{◌≡◌, refl, sym, ap, ◌∙◌}
use Prim.Native.Nat.{ℕ, ◌+◌, ◌*◌, ◌≤◌}
use Rattle.write_parts.proofs.write_cards.Goals as goal

-- the lines that are put are all that are to be put
room : (o : List ℕ) (at : ℕ) {all cards : List ℕ} → all ≡ cards → Room o at cards → Room o at all
room o at e h = rw e h

-- the card is in, and its LF is left
end-room : {o all out rest : List ℕ} {at to : ℕ} → Going o at all out to (10 ∷ rest) → Room o at all → to + 1 ≤ length out
end-room {rest = rest} g h = fits g (10 ∷ []) rest refl h

-- the cards have their words
pub slice_bounds-texts-end : goal.slice_bounds-texts-end
slice_bounds-texts-end c = let a = c.args in
    let b = a.whole.now in
    let sized = ap length c.span-rest.ensures ∙ length-slice (a.from.0 * 2) (c.count.result.0 * 2) b (omega (arith, c.count.ensures, length_words_of b)) in
    sym (length-take-le a.cards.0 c.as_chunks.result.0.now (omega (arith, c.requires.0, c.count.ensures, sized, c.as_chunks.ensures.front_len)))

pub write_bytes-end-requires : goal.write_bytes-end-requires
write_bytes-end-requires c = let a = c.args in let e = cards_told a.whole.now a.from.0 a.cards.0 c.count.result.0 (λ i. omega (arith, c.type_inv.whole i)) c.requires.0 c.count.ensures c.span-rest.ensures c.as_chunks.ensures.front in
    fits c.loop-card.invariant _ _ (text_turn _ c.loop-card.card-index (omega arith)) (room a.out.now a.at.0 (ap ended e) c.requires.1)

pub bounds-out-end : goal.bounds-out-end
bounds-out-end c = let a = c.args in let e = cards_told a.whole.now a.from.0 a.cards.0 c.count.result.0 (λ i. omega (arith, c.type_inv.whole i)) c.requires.0 c.count.ensures c.span-rest.ensures c.as_chunks.ensures.front in
    omega (arith, end-room (on c.loop-card.invariant _ _ (text_turn _ c.loop-card.card-index (omega arith)) c.write_bytes-end.ensures) (room a.out.now a.at.0 (ap ended e) c.requires.1))

pub overflow_add-to : goal.overflow_add-to
overflow_add-to c = let a = c.args in let e = cards_told a.whole.now a.from.0 a.cards.0 c.count.result.0 (λ i. omega (arith, c.type_inv.whole i)) c.requires.0 c.count.ensures c.span-rest.ensures c.as_chunks.ensures.front in
    let going = on c.loop-card.invariant _ _ (text_turn _ c.loop-card.card-index (omega arith)) c.write_bytes-end.ensures in
    omega (arith, end-room going (room a.out.now a.at.0 (ap ended e) c.requires.1), going.kept)

pub loop-card-preserved : goal.loop-card-preserved
loop-card-preserved c =
    on (on c.loop-card.invariant _ _ (text_turn _ c.loop-card.card-index (omega arith)) c.write_bytes-end.ensures) (10 ∷ []) _ refl (byte_put _ _ 10)

pub returns : goal.returns
returns c = let a = c.args in let e = cards_told a.whole.now a.from.0 a.cards.0 c.count.result.0 (λ i. omega (arith, c.type_inv.whole i)) c.requires.0 c.count.ensures c.span-rest.ensures c.as_chunks.ensures.front in
    rw (← e) (done c.loop-card.invariant (no_texts _ c.loop-card.card-index (omega arith)))
