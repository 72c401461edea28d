-- Document 01, "Instrument prefixes": Table 3, the instruments' codes and prefixes, and the prefix of a code.
use Rattle.std.specs.Prelude.{List, [], ◌∷◌, ℕ}
use Prim.Native.Char.{code}
use Prim.Native.String.{String, char_at}
use Rattle.units.specs.declared.Answer.{Answer}
use Rattle.units.specs.Answers.{answer}
use Rattle.prefix.specs.declared.Letters.{Letters}
use Rattle.prefix.specs.LookUp.{beside, codes_of, values_of}

-- "the three letters' byte values"
abbrev pub letters : String → Letters
letters s = record { 0 = code (char_at s 0); 1 = code (char_at s 1); 2 = code (char_at s 2) }

-- a code "has its three letters"
abbrev pub table_row : ℕ → String → ℕ × Letters
table_row kinst prefix = (kinst, letters prefix)

-- "Each code of the first listing", in its order; "5140 is AQF", "7240 has no prefix"
unfoldable pub table : List (ℕ × Letters)
table =
    table_row 10 "JRO"
    ∷ table_row 20 "ARO"
    ∷ table_row 25 "MUI"
    ∷ table_row 30 "MLH"
    ∷ table_row 31 "MLH"
    ∷ table_row 32 "MLH"
    ∷ table_row 33 "MLH"
    ∷ table_row 40 "STS"
    ∷ table_row 41 "STS"
    ∷ table_row 42 "STS"
    ∷ table_row 43 "STS"
    ∷ table_row 50 "CHT"
    ∷ table_row 70 "EIS"
    ∷ table_row 71 "EIS"
    ∷ table_row 72 "EIS"
    ∷ table_row 73 "EIS"
    ∷ table_row 74 "EIS"
    ∷ table_row 80 "SON"
    ∷ table_row 120 "IMF"
    ∷ table_row 175 "EHP"
    ∷ table_row 180 "EQB"
    ∷ table_row 210 "GPI"
    ∷ table_row 211 "AEI"
    ∷ table_row 212 "DST"
    ∷ table_row 310 "GCM"
    ∷ table_row 311 "ARE"
    ∷ table_row 320 "SDT"
    ∷ table_row 321 "SDL"
    ∷ table_row 322 "GSW"
    ∷ table_row 820 "HHF"
    ∷ table_row 830 "SYF"
    ∷ table_row 845 "KHF"
    ∷ table_row 861 "SHF"
    ∷ table_row 870 "GBF"
    ∷ table_row 900 "FHF"
    ∷ table_row 910 "WHF"
    ∷ table_row 911 "EHF"
    ∷ table_row 1040 "ARM"
    ∷ table_row 1140 "PKR"
    ∷ table_row 1210 "SBF"
    ∷ table_row 1220 "MAF"
    ∷ table_row 1230 "CCF"
    ∷ table_row 1240 "ADF"
    ∷ table_row 1320 "COF"
    ∷ table_row 1340 "SAF"
    ∷ table_row 1390 "TRF"
    ∷ table_row 1560 "ATM"
    ∷ table_row 1620 "DUM"
    ∷ table_row 2090 "CIA"
    ∷ table_row 2200 "PLA"
    ∷ table_row 2930 "QAD"
    ∷ table_row 5020 "HFP"
    ∷ table_row 5140 "AQF"
    ∷ table_row 5160 "AFP"
    ∷ table_row 5300 "PFP"
    ∷ table_row 5340 "MFP"
    ∷ table_row 5430 "WFP"
    ∷ table_row 5460 "CFP"
    ∷ table_row 5480 "SFP"
    ∷ table_row 5540 "TFP"
    ∷ table_row 5860 "STM"
    ∷ table_row 6300 "UIL"
    ∷ table_row 6320 "CSL"
    ∷ []

-- "It and every unlisted code answer ---"
abbrev pub dashes : Letters
dashes = letters "---"

-- the letters of the first row with the code, and "---" where no row has it
abbrev pub prefix_of : ℕ → Letters
prefix_of kinst = beside table kinst dashes

-- the "codes" in the listing's order
abbrev pub codes : List ℕ
codes = codes_of table

-- the "three letters" of each code, in the same order
abbrev pub prefixes : List Letters
prefixes = values_of table

-- "The prefix call always succeeds, with the three letters' byte values in a, b, c"
abbrev pub answer_of : Letters → Answer
answer_of l = answer 0 l.0 l.1 l.2
