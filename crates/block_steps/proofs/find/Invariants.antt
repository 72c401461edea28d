use Rattle.std.proofs.Common.{◌≡◌, ◌+◌, ◌-◌}
use Rattle.words.specs.Words.{words_of}
use Rattle.block_steps.specs.Steps.{find_of}
use Rattle.block_steps.proofs.find.Given as goal

-- what is found from here on is what is to be found
abbrev pub invariant-loop : goal.invariant-loop
invariant-loop l = find_of (words_of l.block) 1 l.number ≡ find_of (words_of l.block) l.at.0 (l.number + 1 - l.counter)
