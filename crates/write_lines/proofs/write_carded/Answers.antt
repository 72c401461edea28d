use Prim.Native.Nat.{ℕ, ◌-◌}
use mathlib.Core.List.{List, [], ◌∷◌, ◌++◌}
use mathlib.Core.Path.{◌≡◌, refl, ap, ◌∙◌}
use native.Mathlib.Omega.{arith}
use lib.ListN.{take, drop}
use Rattle.std.specs.Prelude.{◌≢◌}
use Rattle.words.specs.Words.{word, words_of}
use Rattle.words.proofs.Writing.{first_fits, second_fits, both-put}
use Rattle.record.specs.declared.kind.Kind.{Kind}
use Rattle.record.specs.declared.kind.Kind.TheVariants.{Catalogue, Header, Data}
use Rattle.record.specs.Kinds.{kind_word, kind_number}
use Rattle.record.specs.Lines.{line_count}
use Rattle.record.specs.Rules.{RecordOk}
use Rattle.line_plan.specs.Plan.{kind_shown}
use Rattle.write_parts.specs.Laid.{fields_of, card_lines, ended}
use Rattle.write_lines.specs.Lines.{lines_of}
use Rattle.write_lines.proofs.Sizes.{Cards, is_cards, cards_are}
use Rattle.write_lines.proofs.write_carded.Goals as goal

-- the number that is shown is the one that the word becomes
shown_is : (kind : Kind) → kind_number kind ≡ kind_shown (kind_word kind)
shown_is Catalogue = refl
shown_is Header = refl
shown_is Data = refl

module _ (r : List ℕ) (kind : Kind) (says : word r 2 ≡ kind_word kind) (carded : kind_word kind ≢ 1002) where
  cards : RecordOk r → Cards r
  cards ok = is_cards r ok (rw says carded)

  -- the first line, and the cards
  pieces : {lines shown said : ℕ} → lines ≡ line_count r → shown ≡ kind_number kind → said ≡ lines
      → ended (lines_of r) ≡ (fields_of (take 20 (lines ∷ (shown ∷ drop 2 r))) ++ (10 ∷ [])) ++ ended (card_lines (said - 1) (drop 40 r))
  pieces l k s = cards_are r _ _ _ (rw says carded) l (k ∙ rw says (shown_is kind)) (ap (λ n. n - 1) (s ∙ l))

pub overflow_sub-cards : goal.overflow_sub-cards
overflow_sub-cards c = omega (arith, c.lines_said-cards.ensures.0 ∙ c.count_shown-lines.ensures, cards (words_of c.args.whole.now) c.args.kind c.requires.1 c.requires.2 c.requires.0.good.ok)

pub write_head-to-requires : goal.write_head-to-requires
write_head-to-requires c = let a = c.args in
    let p = pieces (words_of c.args.whole.now) c.args.kind c.requires.1 c.requires.2 c.count_shown-lines.ensures c.shown.ensures c.lines_said-cards.ensures.0 in
    (omega arith, omega (arith, cards (words_of c.args.whole.now) c.args.kind c.requires.1 c.requires.2 c.requires.0.good.ok), first_fits a.out.now _ _ _ p c.requires.0.room)

pub write_cards-requires : goal.write_cards-requires
write_cards-requires c =
    let p = pieces (words_of c.args.whole.now) c.args.kind c.requires.1 c.requires.2 c.count_shown-lines.ensures c.shown.ensures c.lines_said-cards.ensures.0 in (
      omega (arith, c.lines_said-cards.ensures.0 ∙ c.count_shown-lines.ensures, cards (words_of c.args.whole.now) c.args.kind c.requires.1 c.requires.2 c.requires.0.good.ok),
      second_fits _ _ _ _ p c.requires.0.room c.write_head-to.ensures,
    )

pub returns : goal.returns
returns c = let p = pieces (words_of c.args.whole.now) c.args.kind c.requires.1 c.requires.2 c.count_shown-lines.ensures c.shown.ensures c.lines_said-cards.ensures.0 in
    both-put _ _ _ _ p c.requires.0.room c.write_head-to.ensures c.write_cards.ensures
