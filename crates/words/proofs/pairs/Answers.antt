use Rattle.words.proofs.Laws.{all_below}
use Rattle.words.proofs.Paired.{words_paired, pairs_below}
use native.Mathlib.Omega.{arith}
use lib.ListN.{length}
use Prim.Native.Nat.{◌/◌}
use Rattle.words.proofs.pairs.Goals as goal

pub returns : goal.returns
returns c = let b = c.args.part.now in
    record {
      words = rw c.as_chunks.ensures.front (words_paired (length b / 2) b (omega arith));
      bytes = rw c.as_chunks.ensures.front (pairs_below (length b / 2) b (all_below 256 b (λ i. omega (arith, c.type_inv.part i))));
    }
