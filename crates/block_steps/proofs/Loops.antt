-- A loop over the records of an accepted block, each lent by `record_at`: what it keeps, and what a turn of it knows.
use mathlib.Core.Path.{◌≡◌, sym, ap, ◌∙◌}
use mathlib.Core.List.{List, [], ◌∷◌}
use Prim.Native.Nat.{ℕ, ◌+◌, ◌≤◌, ◌<◌}
use native.Mathlib.Omega.{arith}
use lib.ListN.{length}
use Rattle.words.specs.Words.{words_of, bytes_of, Below}
use Rattle.words.proofs.Laws.{words_bytes}
use Rattle.block.specs.Rules.{BlockRecord}
use Rattle.block.specs.Judging.{Accepted}
use Rattle.block.specs.Records.{records_of}
use Rattle.block_steps.specs.Steps.{words_at, record_at}
use Rattle.block_steps.proofs.Placed.{LeftFrom, first_left, none_left, all_left}

-- the loop has come to a place: the records that are left there, and what holds of them
pub record Loop (b : List ℕ) (at : ℕ) (P : List (List ℕ) → Type 0) : Type 0 where
  pub rest : List (List ℕ)
  pub left : LeftFrom (words_of b) at rest
  pub holds : P rest

-- a turn: the part that is lent, of n words, is the first record that is left
pub record Turn {b : List ℕ} {at : ℕ} {P : List (List ℕ) → Type 0} (l : Loop b at P) (part : List ℕ) (n : ℕ) : Type 0 where
  pub others : List (List ℕ)
  pub holds : P (words_of part ∷ others)
  pub good : BlockRecord (words_of part)
  pub bytes : part ≡ bytes_of (words_of part)
  pub size : n ≡ length (words_of part)
  pub long : 16 ≤ n
  pub within : at + n < length (words_of b)
  pub left : LeftFrom (words_of b) (at + n) others

-- at the start all records are left
pub loop_start : (b : List ℕ) → Below 256 b → Accepted b → {P : List (List ℕ) → Type 0} → P (records_of b) → Loop b 1 P
loop_start b bytes a h = record { rest = records_of b; left = all_left b a.count bytes a.is; holds = h }

module _ {b : List ℕ} {at : ℕ} {P : List (List ℕ) → Type 0} (l : Loop b at P) {part : List ℕ} {n : ℕ}
    (lent : part ≡ bytes_of (record_at (words_of b) at)) (size : n ≡ length (words_of part)) where
  its-words : words_of part ≡ record_at (words_of b) at
  its-words = ap words_of lent ∙ words_bytes (record_at (words_of b) at)

  is_first : {r : List ℕ} {rs : List (List ℕ)} → LeftFrom (words_of b) at (r ∷ rs) → words_of part ≡ r
  is_first left = its-words ∙ ap (words_at (words_of b)) (first_left left).found ∙ (first_left left).words

  -- a part with words is the first record
  pub turn : (n ≡ 0 → ⊥) → Turn l part n
  turn some = by l.rest l.left l.holds
    where
      by : (rs : List (List ℕ)) → LeftFrom (words_of b) at rs → P rs → Turn l part n
      by [] left h = absurd (some (size ∙ ap length (its-words ∙ ap (words_at (words_of b)) (none_left left))))
      by (r ∷ rs) left h =
          let f = first_left left in
          let are = is_first left in
          let k : n ≡ length r = size ∙ ap length are in
          record {
            others = rs;
            holds = rw are h;
            good = rw are (record { ok = f.ok; most = omega (arith, f.within, left.start, left.most) });
            bytes = lent ∙ ap bytes_of (sym its-words);
            size = size;
            long = omega (arith, f.long);
            within = omega (arith, f.within);
            left = rw k f.left;
          }

  -- where it is empty none is left
  pub loop_end : n ≡ 0 → P []
  loop_end none = by l.rest l.left l.holds
    where
      by : (rs : List (List ℕ)) → LeftFrom (words_of b) at rs → P rs → P []
      by [] left h = h
      by (r ∷ rs) left h = absurd (omega (arith, (first_left left).long, ap length (is_first left)))

-- behind the record the others are left
pub loop_on : {b : List ℕ} {at : ℕ} {P Q : List (List ℕ) → Type 0} {l : Loop b at P} {part : List ℕ} {n : ℕ} (t : Turn l part n) → Q t.others → Loop b (at + n) Q
loop_on t h = record { rest = t.others; left = t.left; holds = h }
