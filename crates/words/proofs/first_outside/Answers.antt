use mathlib.Core.Bool.{true, false}
use mathlib.Core.Path.{◌≡◌, sym, ap, ◌∙◌}
use Rattle.std.proofs.Common.{rules, tests}
use Rattle.std.proofs.lemmas.Iterator.{IsFirst-from_position, YieldsList-from_slice}
use Rattle.std.specs.Int.{w16, from_be_bytes}
use Rattle.words.specs.Scans.{passing, word_within}
use Rattle.words.proofs.Scans.{scan_found}
use Rattle.words.proofs.first_outside.Goals as goal

pub returns : goal.returns
returns c = let a = c.args in let words = c.pairs-words.result.now in
    let first =
    IsFirst-from_position _ _ _ (λ p. word_within a.least a.most (from_be_bytes w16 p) ≡ false) (λ p. word_within a.least a.most (from_be_bytes w16 p) ≡ true) c.position-found.ensures.ran
    (YieldsList-from_slice words c.iter.ensures.rest) (λ x q k. search (rules, tests)) (λ x q k. search (rules, tests)) in
    c.unwrap_or.ensures
    ∙ sym (scan_found (word_within a.least a.most) (from_be_bytes w16) words c.position-found.result first)
    ∙ ap (passing (word_within a.least a.most)) c.pairs-words.ensures.words
