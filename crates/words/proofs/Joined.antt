-- Of lists one after the other: one of them, what stands in it, and a store into it.
use mathlib.Core.Path.{◌≡◌, sym, ap, ◌∙◌}
use mathlib.Core.List.{List, [], ◌∷◌, ◌++◌}
use Prim.Native.Nat.{ℕ, suc, ◌+◌, ◌<◌}
use native.Mathlib.Omega.{arith}
use lib.ListN.{length, get_or, take, drop, set, length-append, get_or-append}
use lib.Seq.{set_split, set-get_or, set-append_left, get_or-append-add}
use Rattle.words.specs.Words.{joined}
use Rattle.words.proofs.Laws.{joined-append}
use Rattle.words.proofs.Stores.{set_right}

-- another list in place of one
joined-set : (rs : List (List ℕ)) (i : ℕ) (r : List ℕ) → i < length rs → joined (set rs i r) ≡ joined (take i rs) ++ (r ++ joined (drop (suc i) rs))
unfolding joined
joined-set rs i r h = ap joined (set_split rs i r h) ∙ joined-append (take i rs) (r ∷ drop (suc i) rs)

-- word j of list i
module _ (rs : List (List ℕ)) (i j : ℕ) (there : i < length rs) (room : j < length (get_or rs i [])) where
  parts : joined rs ≡ joined (take i rs) ++ (get_or rs i [] ++ joined (drop (suc i) rs))
  parts = ap joined (sym (set-get_or rs i [])) ∙ joined-set rs i (get_or rs i []) there

  pub joined_room : length (joined (take i rs)) + j < length (joined rs)
  joined_room =
      let after = joined (drop (suc i) rs) in
      omega (arith, ap length parts, length-append (joined (take i rs)) (get_or rs i [] ++ after), length-append (get_or rs i []) after)

  pub get_or_joined : get_or (joined rs) (length (joined (take i rs)) + j) 0 ≡ get_or (get_or rs i []) j 0
  get_or_joined =
      let after = joined (drop (suc i) rs) in
      ap (λ l. get_or l (length (joined (take i rs)) + j) 0) parts
      ∙ get_or-append-add (joined (take i rs)) (get_or rs i [] ++ after) j 0
      ∙ get_or-append (get_or rs i []) after 0 j room

  pub set-joined : (v : ℕ) → joined (set rs i (set (get_or rs i []) j v)) ≡ set (joined rs) (length (joined (take i rs)) + j) v
  set-joined v =
      let after = joined (drop (suc i) rs) in
      joined-set rs i (set (get_or rs i []) j v) there
      ∙ sym (
      ap (λ l. set l (length (joined (take i rs)) + j) v) parts
      ∙ set_right (joined (take i rs)) (get_or rs i [] ++ after) j v
      ∙ ap (λ l. joined (take i rs) ++ l) (set-append_left (get_or rs i []) after j v room)
      )
