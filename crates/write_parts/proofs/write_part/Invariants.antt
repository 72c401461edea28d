use Rattle.std.specs.Prelude.{◌≡◌}
use Rattle.std.specs.Slice.Iter.{chunks_rest, chunks_size}
use Rattle.write_parts.specs.Laid.{part_text}
use Rattle.words.specs.Words.{pair_words}
use Rattle.words.proofs.Writing.{Going}
use Rattle.write_parts.proofs.write_part.Given as goal

abbrev pub invariant-loop-line : goal.invariant-loop-line
invariant-loop-line l = record {
  sized : chunks_size l.line-iterator ≡ 20;
  going : Going l.initial.out l.initial.to.0 (part_text (pair_words l.fn.words)) l.out l.to.0 (part_text (pair_words (chunks_rest l.line-iterator)));
}
