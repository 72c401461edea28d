-- Records put one after the other, or many at a time: what holds of those that are left.
use mathlib.Core.Path.{◌≡◌, refl, sym, ap, ◌∙◌}
use mathlib.Core.List.{List, [], ◌++◌, append_assoc}
use Prim.Native.Nat.{ℕ}
use native.Mathlib.Omega.{arith}
use lib.ListN.{length}
use Rattle.words.specs.Words.{All}
use Rattle.words.proofs.Lists.{all_parts}
use Rattle.block.specs.Rules.{BlockRecord}
use Rattle.packing.specs.declared.Current.{Current}
use Rattle.packing.specs.Current.{sealed_bytes, current_after}
use Rattle.repacking.specs.Between.{finished, Fitting, PutOn}
use Rattle.packing.proofs.Filling.{After, after, after-append}

-- of all records some are left: with them, and others behind them, the output comes to the same, and they fit into it
pub record Putting (out₀ : List ℕ) (p₀ : Current) (all : List (List ℕ)) (out : List ℕ) (p : Current) (rest : List (List ℕ)) : Type 0 where
  pub each : All BlockRecord rest
  pub current : current_after p rest ≡ current_after p₀ all
  pub size : length out ≡ length out₀
  pub same : (others : List (List ℕ)) → finished out p (rest ++ others) ≡ finished out₀ p₀ (all ++ others)
  pub fits : Fitting out p rest

pub putting_start : {out : List ℕ} {p : Current} {all : List (List ℕ)} → All BlockRecord all → Fitting out p all → Putting out p all out p all
putting_start each fits = record { each = each; current = refl; size = refl; same = λ others. refl; fits = fits }

module _ {out₀ : List ℕ} {p₀ : Current} {all : List (List ℕ)} {out : List ℕ} {p : Current} where
  -- none is left
  pub all-put : Putting out₀ p₀ all out p [] → PutOn out₀ p₀ all out p
  unfolding current_after
  all-put g = record { current = g.current; size = g.size; same = g.same }

  -- the first of those that are left, and the others
  module _ {rest : List (List ℕ)} (g : Putting out₀ p₀ all out p rest) (rs ss : List (List ℕ)) (e : rest ≡ rs ++ ss) where
    parts : All BlockRecord rs × All BlockRecord ss
    parts = all_parts BlockRecord rs ss (rw e at g.each)

    behind-first : After p rs (current_after p rs)
    behind-first = after p rs g.fits.used parts.0

    last : current_after (current_after p rs) ss ≡ current_after p rest
    last = after-append p rs ss ∙ ap (current_after p) (sym e)

    pub first_fits : Fitting out p rs
    first_fits =
        let least = (after (current_after p rs) ss behind-first.used parts.1).least in
        let end = ap sealed_bytes last in
        record { used = g.fits.used; room = omega (arith, g.fits.room, least, end); few = omega (arith, g.fits.few, least, end) }

    -- are put
    pub first-put : {out' : List ℕ} {p' : Current} → PutOn out p rs out' p' → Putting out₀ p₀ all out' p' ss
    first-put {out'} {p'} put =
        let to : current_after p' ss ≡ current_after p rest = ap (λ o. current_after o ss) put.current ∙ last in
        record {
          each = parts.1;
          current = to ∙ g.current;
          size = put.size ∙ g.size;
          same = λ others. put.same (ss ++ others) ∙ ap (finished out p) (sym (append_assoc rs ss others) ∙ ap (λ l. l ++ others) (sym e)) ∙ g.same others;
          fits =
              record {
                used = omega (arith, behind-first.used, ap (λ o. o.used.0) put.current);
                room = omega (arith, g.fits.room, ap sealed_bytes to, put.size);
                few = omega (arith, g.fits.few, ap sealed_bytes to);
              };
        }
