-- A sheet and its entries determine each other.
use mathlib.Core.Path.{sym, ◌∙◌}
use Rattle.sheet.proofs.Sheets.{opened_sheet, sheet_opened}
use Rattle.demands.specs.Sheets.{SheetsExactly, OneSheet}

pub sheets_exactly : SheetsExactly
sheets_exactly y s bytes = (λ k. sheet_opened y s k bytes, λ es. opened_sheet y s es)

pub one_sheet : OneSheet
one_sheet y s es fs g h = sym (opened_sheet y s es g).1 ∙ (opened_sheet y s fs h).1
