-- A loop that judges block after block of a slice, and counts the bytes of their records packed again.
use mathlib.Core.Path.{◌≡◌, refl, sym, ap, ◌∙◌}
use mathlib.Core.List.{List, [], ◌∷◌, ◌++◌, flatten, append-nil, append_assoc}
use Prim.Native.Nat.{ℕ, ◌+◌, ◌*◌, ◌≤◌, ◌<◌}
use native.Mathlib.Omega.{arith}
use lib.ListN.{length, take, drop, length-drop}
use lib.Seq.{append_snoc, length-take-le}
use Rattle.std.proofs.lemmas.List.{nil_from_length}
use Rattle.units.specs.declared.Answer.{Answer}
use Rattle.units.specs.Units.{bytes_of_words}
use Rattle.units.specs.Answers.{Verdict, passed, refused, onward}
use Rattle.units.proofs.Verdicts.{onward_same}
use Rattle.words.specs.Words.{joined, All, Below, most_record_words}
use Rattle.words.proofs.Lists.{all_append, all_take, all_drop}
use Rattle.words.proofs.Sealing.{length-framed}
use Rattle.block.specs.Judging.{Accepted}
use Rattle.block.specs.Records.{records_of}
use Rattle.block.specs.Rules.{BlockRecord}
use Rattle.block.proofs.Exact.{only_good}
use Rattle.packing.specs.declared.Current.{Current}
use Rattle.block_slice.specs.Blocks.{judge_next, before, walk_blocks, records_in, most_bytes}
use Rattle.packing.specs.Packing.{repacked}
use Rattle.packing.specs.Current.{current_at, current_after, bytes_to}
use Rattle.repacking.specs.Between.{bytes_needed, Countable}
use Rattle.block_slice.proofs.Slices.{FirstIs, first_is, blocks_stop, blocks_next}
use Rattle.repacking.proofs.Made.{block_records}
use Rattle.packing.proofs.Filling.{After, after, after-append, repacked_bytes}

-- what an accepted block has: good records, and the words that its bytes leave for them
pub record Holds (b : List ℕ) : Type 0 where
  pub each : All BlockRecord (records_of b)
  pub size : length b ≡ bytes_of_words (length (joined (records_of b)) + 2)
  pub most : length (joined (records_of b)) ≤ most_record_words

pub holds : (b : List ℕ) → Below 256 b → Accepted b → Holds b
holds b bytes a =
    let g = (only_good b a.count bytes a.is).0 in
    record { each = block_records (records_of b) g.each g.most; size = ap length g.bytes ∙ length-framed (joined (records_of b)); most = g.most }

-- the records of blocks, and of one more
records_snoc : (bs : List (List ℕ)) (b : List ℕ) → records_in (bs ++ (b ∷ [])) ≡ records_in bs ++ records_of b
unfolding flatten
records_snoc [] b = append-nil (records_of b)
records_snoc (c ∷ bs) b = ap (λ l. records_of c ++ l) (records_snoc bs b) ∙ sym (append_assoc (records_of c) (records_in bs) (records_of b))

-- it has come so far: the blocks before what is left passed, and what is judged of that gives the whole
pub record Judging (slice rest : List ℕ) (number : ℕ) (p : Current) : Type 0 where
  pub done : List (List ℕ)
  pub same : walk_blocks 0 1 slice ≡ onward (walk_blocks 0 number rest) (λ bs. passed (done ++ bs))
  pub current : p ≡ current_after (current_at 0 0) (records_in done)
  pub each : All BlockRecord (records_in done)
  pub used : p.used.0 ≤ most_record_words
  pub few : p.start.0 + bytes_of_words p.used.0 + 2 * length rest ≤ 2 * length slice
  pub number_most : 36 * number + length rest ≤ length slice + 36
  pub bytes : Below 256 rest

pub judging_start : (slice : List ℕ) → Below 256 slice → Judging slice slice 1 (current_at 0 0)
unfolding current_after flatten
judging_start slice bytes =
    record {
      done = [];
      same = onward_same (walk_blocks 0 1 slice);
      current = refl;
      each = tt;
      used = omega arith;
      few = omega arith;
      number_most = omega arith;
      bytes = bytes;
    }

module _ {slice rest : List ℕ} {number : ℕ} {p : Current} (j : Judging slice rest number p) where
  -- at the end all blocks passed
  pub all-judged : {size : ℕ} → length rest ≡ 0 → size ≡ bytes_to p → passed size ≡ bytes_needed slice
  unfolding walk_blocks
  all-judged end is =
      let all : walk_blocks 0 1 slice ≡ passed j.done = j.same ∙ ap (λ l. onward (walk_blocks 0 number l) (λ bs. passed (j.done ++ bs))) (nil_from_length rest end) ∙ ap (λ l. passed l) (append-nil j.done) in
      rw all (ap (λ n. passed n) (is ∙ ap bytes_to j.current ∙ repacked_bytes (records_in j.done) j.each))

  -- the next block, which is refused or passes
  module _ (some : 0 < length rest) where
    pub judged-stop : {r : Answer} → judge_next number rest ≡ refused r → refused r ≡ bytes_needed slice
    judged-stop {r} is =
        let stop = blocks_stop number r rest some is in
        sym (ap (λ v. onward v (λ bs. passed (length (repacked (records_in bs))))) (j.same ∙ ap (λ v. onward v (λ bs. passed (j.done ++ bs))) stop))

    module _ {k : ℕ} (is : judge_next number rest ≡ passed k) where
      pub first : FirstIs rest k
      first = first_is number k rest is

      onto-done : (b : List ℕ) (v : Verdict (List (List ℕ))) → onward (before b v) (λ bs. passed (j.done ++ bs)) ≡ onward v (λ bs. passed (j.done ++ (b ∷ []) ++ bs))
      onto-done b (passed bs) = ap (λ l. passed l) (sym (append_snoc j.done b bs))
      onto-done b (refused r) = refl

      same-on : walk_blocks 0 1 slice ≡ onward (walk_blocks 0 (number + 1) (drop k rest)) (λ bs. passed (j.done ++ (take k rest ∷ []) ++ bs))
      same-on =
          j.same ∙ ap (λ v. onward v (λ bs. passed (j.done ++ bs))) (blocks_next number k rest some is) ∙ onto-done (take k rest) (walk_blocks 0 (number + 1) (drop k rest))

      -- it is lent, and its records are counted
      module _ (short : length slice ≤ most_bytes) where
        its : Holds (take k rest)
        its = holds (take k rest) (all_take (λ x. x < 256) k rest j.bytes) first.good

        words-in : bytes_of_words (length (joined (records_of (take k rest))) + 2) ≡ k
        words-in = sym its.size ∙ length-take-le k rest first.room

        pub countable : Countable p (records_of (take k rest))
        countable = record { used = j.used; bytes = omega (arith, j.few, its.most) }

        pub judged-on : {q : Current} → q ≡ current_after p (records_of (take k rest)) → Judging slice (drop k rest) (number + 1) q
        judged-on {q} put =
            let b = take k rest in
            let a : After p (records_of b) q = rw put (after p (records_of b) j.used its.each) in
            let left : length (drop k rest) + k ≡ length rest = omega (arith, first.room, length-drop k rest) in
            record {
              done = j.done ++ (b ∷ []);
              same = same-on;
              current = put ∙ ap (λ o. current_after o (records_of b)) j.current ∙ after-append (current_at 0 0) (records_in j.done) (records_of b) ∙ ap (current_after (current_at 0 0)) (sym (records_snoc j.done b));
              each = rw (records_snoc j.done b) (all_append BlockRecord (records_in j.done) (records_of b) j.each its.each);
              used = a.used;
              few = omega (arith, a.most, j.few, words-in, left);
              number_most = omega (arith, j.number_most, first.least, left);
              bytes = all_drop (λ x. x < 256) k rest j.bytes;
            }
