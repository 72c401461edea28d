use mathlib.Core.Path.{sym, ◌∙◌}
use Prim.Native.Nat.{◌+◌, ◌-◌, ◌*◌}
use native.Mathlib.Omega.{arith}
use lib.ListN.{length, replicate}
use lib.Seq.{length-take-le}
use Rattle.words.specs.Words.{Below}
use Rattle.words.proofs.Laws.{all_below}
use Rattle.words.proofs.Writing.{sets-append}
use Rattle.read_line.proofs.Cards.{card_columns, long_card, short_card}
use Rattle.read_line.proofs.put_card.Goals as goal

pub slice_bounds-store_bytes-end : goal.slice_bounds-store_bytes-end
slice_bounds-store_bytes-end c = sym (length-take-le 80 c.args.text.now c.if-text-ge80.true)

pub returns-then-text-ge80 : goal.returns-then-text-ge80
returns-then-text-ge80 c = let a = c.args in let l = a.text.now in
    let below : Below 256 l = all_below 256 l (λ i. omega (arith, c.type_inv.text i)) in
    c.store_bytes.ensures ∙ rw (c.bytes_of_words-at.ensures, card_columns l below, long_card l c.if-text-ge80.true)

pub returns : goal.returns
returns c = let a = c.args in let l = a.text.now in
    let below : Below 256 l = all_below 256 l (λ i. omega (arith, c.type_inv.text i)) in
    c.store_filling.ensures ∙ rw (c.store_bytes-2.ensures, c.bytes_of_words-at.ensures, card_columns l below, short_card l c.if-text-ge80.false) (sym (sets-append a.block.now ((a.held.0 + 1) * 2) l (replicate (80 - length l) 32)))
