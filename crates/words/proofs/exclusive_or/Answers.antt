use mathlib.Core.Path.{◌≡◌, ap, ◌∙◌}
use native.Mathlib.Omega.{arith}
use Rattle.std.proofs.Common.{rules}
use Rattle.std.proofs.lemmas.Fn.{fold_over, slice_gives, fronts}
use Rattle.words.specs.Words.{xor_all, swapped}
use Rattle.words.proofs.Xor.{Folded, folded_none, folded_on}
use Rattle.words.proofs.exclusive_or.Goals as goal

pub returns : goal.returns
unfolding swapped
returns c =
    let folded = fold_over fronts (λ y. y.now) _ Folded _ (λ ps x p y f' j k. (folded_on ps x p.now j (search rules), search rules))
    _ _ _ _ (slice_gives c.iter.result) folded_none c.fold.ensures.ran in
    let all : Folded c.pairs.result.now c.fold.result = rw (← c.iter.ensures.rest) folded in
    let s : c.swap_bytes.result ≡ swapped c.fold.result = omega arith in
    s ∙ (all c.pairs.ensures.bytes).1 ∙ ap xor_all c.pairs.ensures.words
