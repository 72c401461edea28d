use Rattle.std.proofs.Common.{rules, ◌∙◌, []}
use Rattle.std.proofs.lemmas.Fn.{always_returns_same}
use Rattle.prefix.proofs.Search.{search_codes, found}
use Rattle.prefix.proofs.row_of.Goals as goal

pub returns : goal.returns
returns c = c.ok.ensures.value ∙ found _ _ c.requires _ (search_codes c.args.table.now [] c.args.code _ (c.binary_search_by_key.ensures.position (λ row. row.0) (always_returns_same _ _ _ (λ a r f k. search rules))))
