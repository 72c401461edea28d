-- The standing amendments as a stack over good records: what they leave as it was.
use mathlib.Core.Path.{◌≡◌, refl, sym, ap, ◌∙◌}
use mathlib.Core.List.{List, [], ◌∷◌, ◌++◌, map, foldr}
use Prim.Native.Nat.{ℕ, ◌+◌, ◌<◌}
use native.Mathlib.Omega.{arith}
use lib.ListN.{length, length-append}
use Rattle.words.specs.Words.{joined, All}
use Rattle.words.proofs.Lists.{all_map}
use Rattle.record.specs.Rules.{RecordOk}
use Rattle.block.specs.Rules.{block_of, IsBlock}
use Rattle.sheet.specs.Sheets.{Entry}
use Rattle.block_value.specs.Places.{old_value, new_value, found, with_value, NamesValuePlace}
use Rattle.demands.specs.Demand3.{put_in, Elsewhere}
use Rattle.demands.proofs.Values.{Alike, steady_size, amended-good, amended-alike, amended-found, alike_count, alike_named, other_found}

-- an entry names a value of these records, its old value stands there, and its new value is a word
pub record EntryFits (rs : List (List ℕ)) (e : Entry) : Type 0 where
  pub named : NamesValuePlace rs e
  pub old : found rs e ≡ old_value e
  pub new : new_value e < 65536

-- each fits the records that those before it leave
abbrev pub Stack : List (List ℕ) → List Entry → Type 0
Stack rs [] = Unit {0}
Stack rs (e ∷ es) = EntryFits rs e × Stack (with_value rs e (new_value e)) es

-- ---- two stacks, one on the other

pub put_in_append : (rs : List (List ℕ)) (es fs : List Entry) → put_in rs (es ++ fs) ≡ put_in (put_in rs es) fs
put_in_append rs [] fs = refl
put_in_append rs (e ∷ es) fs = put_in_append (with_value rs e (new_value e)) es fs

pub stack_append : (rs : List (List ℕ)) (es fs : List Entry) → Stack rs es → Stack (put_in rs es) fs → Stack rs (es ++ fs)
stack_append rs [] fs s t = t
stack_append rs (e ∷ es) fs s t = (s.0, stack_append (with_value rs e (new_value e)) es fs s.1 t)

pub stack_parts : (rs : List (List ℕ)) (es fs : List Entry) → Stack rs (es ++ fs) → Stack rs es × Stack (put_in rs es) fs
stack_parts rs [] fs s = (tt, s)
stack_parts rs (e ∷ es) fs s = let p = stack_parts (with_value rs e (new_value e)) es fs s.1 in ((s.0, p.0), p.1)

-- ---- what they leave

module _ (rs : List (List ℕ)) (e : Entry) (good : All RecordOk rs) (f : EntryFits rs e) where
  pub put_good : All RecordOk (with_value rs e (new_value e))
  put_good = amended-good rs e good f.named (new_value e) f.new

  pub put_alike : Alike rs (with_value rs e (new_value e))
  put_alike = amended-alike rs e good f.named (new_value e)

pub put_in_good : (rs : List (List ℕ)) (es : List Entry) → All RecordOk rs → Stack rs es → All RecordOk (put_in rs es)
put_in_good rs [] good s = good
put_in_good rs (e ∷ es) good s = put_in_good (with_value rs e (new_value e)) es (put_good rs e good s.0) s.1

pub put_in_alike : (rs : List (List ℕ)) (es : List Entry) → All RecordOk rs → Stack rs es → Alike rs (put_in rs es)
put_in_alike rs [] good s A f t = refl
put_in_alike rs (e ∷ es) good s A f t = put_in_alike (with_value rs e (new_value e)) es (put_good rs e good s.0) s.1 A f t ∙ put_alike rs e good s.0 A f t

-- each names a value of the first records
pub stack_named : (rs : List (List ℕ)) (es : List Entry) → All RecordOk rs → Stack rs es → All (NamesValuePlace rs) es
stack_named rs [] good s = tt
stack_named rs (e ∷ es) good s =
    let ss = with_value rs e (new_value e) in
    let back : Alike ss rs = λ A f t. sym (put_alike rs e good s.0 A f t) in
    (s.0.named, all_map (NamesValuePlace ss) (NamesValuePlace rs) (alike_named ss rs back) es (stack_named ss es (put_good rs e good s.0) s.1))

-- numbers added up
abbrev pub total : List ℕ → ℕ
total = foldr (λ n t. n + t) 0

joined-total : (rs : List (List ℕ)) → length (joined rs) ≡ total (map length rs)
unfolding joined
joined-total [] = refl
joined-total (r ∷ rs) = length-append r (joined rs) ∙ ap (λ n. length r + n) (joined-total rs)

-- a block of them is a good block again
module _ (rs : List (List ℕ)) (es : List Entry) (good : IsBlock (block_of rs) rs) (s : Stack rs es) where
  pub put_in_block : IsBlock (block_of (put_in rs es)) (put_in rs es)
  put_in_block =
      let a = put_in_alike rs es good.each s in
      let n = alike_count rs (put_in rs es) a in
      let m = joined-total (put_in rs es) ∙ ap total (a ℕ length steady_size) ∙ sym (joined-total rs) in
      record { bytes = refl; each = put_in_good rs es good.each s; some = omega (arith, good.some, n); most = omega (arith, good.most, m) }

-- ---- the value that stands

-- amendments of other places leave what stands at this one
others_leave : (rs : List (List ℕ)) (e : Entry) (es : List Entry) → All RecordOk rs → NamesValuePlace rs e → Stack rs es → All (Elsewhere e) es → found (put_in rs es) e ≡ found rs e
others_leave rs e [] good p s o = refl
others_leave rs e (f ∷ es) good p s o =
    let ss = with_value rs f (new_value f) in
    others_leave ss e es (put_good rs f good s.0) (alike_named rs ss (put_alike rs f good s.0) e p) s.1 o.1
    ∙ other_found rs e f (new_value f) p s.0.named good o.0

-- so the last amendment of a place stands there
pub last_stands : (rs : List (List ℕ)) (before after : List Entry) (e : Entry) → All RecordOk rs → Stack rs (before ++ e ∷ after) → All (Elsewhere e) after
    → found (put_in rs (before ++ e ∷ after)) e ≡ new_value e
last_stands rs before after e good s o =
    let qs = put_in rs before in
    let t = stack_parts rs before (e ∷ after) s in
    let g = put_in_good rs before good t.0 in
    let f = t.1.0 in
    let ss = with_value qs e (new_value e) in
    ap (λ l. found l e) (put_in_append rs before (e ∷ after))
    ∙ others_leave ss e after (put_good qs e g f) (alike_named qs ss (put_alike qs e g f) e f.named) t.1.1 o
    ∙ amended-found qs e g f.named (new_value e)
