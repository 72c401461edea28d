-- A loop that writes the blocks of an accepted slice again: what it keeps, and what a turn of it knows.
use mathlib.Core.Path.{◌≡◌, refl, sym, ap, ◌∙◌}
use mathlib.Core.List.{List, [], ◌∷◌, flatten, append-nil}
use Prim.Native.Nat.{ℕ, ◌≤◌, ◌<◌}
use native.Mathlib.Omega.{arith}
use lib.ListN.{length, take, drop, length-append}
use lib.Seq.{sets, take_at, drop_at, slice_empty}
use Rattle.units.specs.Units.{bytes_of_words}
use Rattle.units.specs.Answers.{passed}
use Rattle.words.specs.Words.{words_of, word, joined, All, Below}
use Rattle.block.specs.Judging.{Accepted}
use Rattle.block.specs.Records.{records_of}
use Rattle.packing.specs.declared.Current.{Current}
use Rattle.block_slice.specs.Blocks.{walk_blocks, records_in}
use Rattle.packing.specs.Packing.{packed, groups, repacked}
use Rattle.packing.specs.Current.{current_at}
use Rattle.repacking.specs.Between.{finished, Fitting, PutOn, Packable}
use Rattle.block_slice.proofs.Slices.{accepted_stated, same_first, slice_cut}
use Rattle.packing.proofs.Groups.{some_packed}
use Rattle.repacking.proofs.Made.{Good, each_good, records_good, never_longer}
use Rattle.packing.proofs.Filling.{repacked_ends}
use Rattle.repacking.proofs.Writing.{onto_nothing}
use Rattle.repacking.proofs.Putting.{Putting, putting_start, first_fits, first-put}

-- it has come so far: the blocks that are left, whose records are still to be put
pub record Rewriting (slice out₀ out left : List ℕ) (p : Current) : Type 0 where
  pub all : List (List ℕ)
  pub found : walk_blocks 0 1 slice ≡ passed all
  pub some : 1 ≤ length (records_in all)
  pub rest : List (List ℕ)
  pub stand : left ≡ joined rest
  pub each : All Accepted rest
  pub going : Putting out₀ (current_at 0 0) (records_in all) out p (records_in rest)

-- an accepted slice that is not empty has a record
some_record : (bs : List (List ℕ)) → All Good bs → 0 < length (joined bs) → 1 ≤ length (records_in bs)
unfolding joined flatten
some_record [] h s = absurd (omega arith)
some_record (b ∷ bs) h s = omega (arith, h.0.some, length-append (records_of b) (records_in bs))

pub rewriting_start : (slice out : List ℕ) → Below 256 slice → Packable slice out → Rewriting slice out out slice (current_at 0 0)
rewriting_start slice out bytes pack =
    let bs = pack.blocks in
    let cut = slice_cut 1 slice bs pack.found in
    let below : Below 256 (joined bs) = rw cut.0 at bytes in
    let good = each_good bs below cut.1 in
    let some = some_record bs good (omega (arith, pack.some, ap length cut.0)) in
    let end = repacked_ends (records_in bs) some in
    let few = never_longer bs cut.1 below in
    record {
      all = bs;
      found = pack.found;
      some = some;
      rest = bs;
      stand = cut.0;
      each = cut.1;
      going =
          putting_start (records_good bs good)
          (record { used = omega arith; room = omega (arith, pack.room, end); few = omega (arith, end, few, pack.most, ap length cut.0) });
    }

-- the next block: the bytes that its first word states
pub record NextBlock {slice out₀ out left : List ℕ} {p : Current} (w : Rewriting slice out₀ out left p) (size : ℕ) : Type 0 where
  pub least : 36 ≤ size
  pub room : size ≤ length left
  pub good : Accepted (take size left)
  pub fits : Fitting out p (records_of (take size left))
  pub on : {after : List ℕ} {next : Current} → PutOn out p (records_of (take size left)) after next → Rewriting slice out₀ after (drop size left) next

module _ {slice out₀ out left : List ℕ} {p : Current} (w : Rewriting slice out₀ out left p) where
  pub next_block : {stated size : ℕ} → 0 < length left → stated ≡ word (words_of left) 1 → size ≡ bytes_of_words stated → NextBlock w size
  unfolding joined flatten
  next_block {stated} {size} some first bytes = by w.rest w.stand w.each w.going
    where
      by : (bs : List (List ℕ)) → left ≡ joined bs → All Accepted bs → Putting out₀ (current_at 0 0) (records_in w.all) out p (records_in bs) → NextBlock w size
      by [] stand each going = absurd (omega (arith, ap length stand))
      by (b ∷ bs) stand each going =
          let s = accepted_stated b each.0 in
          let size_is : size ≡ length b =
          bytes ∙ ap bytes_of_words first ∙ ap (λ l. bytes_of_words (word (words_of l) 1)) stand ∙ ap bytes_of_words (same_first b (joined bs) (omega (arith, s.least))) ∙ s.says in
          let part : take size left ≡ b = ap (take size) stand ∙ take_at b (joined bs) size (sym size_is) in
          record {
            least = omega (arith, s.least);
            room = omega (arith, ap length stand, length-append b (joined bs));
            good = rw part each.0;
            fits = rw part (first_fits going (records_of b) (records_in bs) refl);
            on = λ put.
                record {
                  all = w.all;
                  found = w.found;
                  some = w.some;
                  rest = bs;
                  stand = ap (drop size) stand ∙ drop_at b (joined bs) size (sym size_is);
                  each = each.1;
                  going = first-put going (records_of b) (records_in bs) refl (rw part at put);
                };
          }

  -- which is there
  pub room_left : 0 < length left → 36 ≤ length left
  unfolding joined
  room_left some = by w.rest w.stand w.each
    where
      by : (bs : List (List ℕ)) → left ≡ joined bs → All Accepted bs → 36 ≤ length left
      by [] stand each = absurd (omega (arith, ap length stand))
      by (b ∷ bs) stand each = omega (arith, ap length stand, (accepted_stated b each.0).least, length-append b (joined bs))

  -- at the end no block is left
  none_left : length left ≡ 0 → Putting out₀ (current_at 0 0) (records_in w.all) out p []
  unfolding joined flatten
  none_left none = by w.rest w.stand w.each w.going
    where
      by : (bs : List (List ℕ)) → left ≡ joined bs → All Accepted bs → Putting out₀ (current_at 0 0) (records_in w.all) out p (records_in bs) → Putting out₀ (current_at 0 0) (records_in w.all) out p []
      by [] stand each going = going
      by (b ∷ bs) stand each going = absurd (omega (arith, (accepted_stated b each.0).least, ap length stand, length-append b (joined bs)))

  -- the last block can be sealed
  pub last_fits : length left ≡ 0 → Fitting out p []
  last_fits none = (none_left none).fits

-- all records packed from the start of the output on
from_start : (out : List ℕ) (rs : List (List ℕ)) → 1 ≤ length rs → finished out (current_at 0 0) rs ≡ sets out 0 (repacked rs)
unfolding finished repacked groups
from_start out [] some = absurd (omega arith)
from_start out (r ∷ rs) some =
    let none = slice_empty 1 (words_of (drop 0 out)) in
    rw none (ap (sets out 0) (onto_nothing (packed 0 (r ∷ rs)) (some_packed 0 (r ∷ rs))))

-- and then all is written
pub rewritten : {slice out₀ out left : List ℕ} {p : Current} (w : Rewriting slice out₀ out left p) → length left ≡ 0 → {after : List ℕ} → after ≡ finished out p []
    → (bs : List (List ℕ)) → walk_blocks 0 1 slice ≡ passed bs → after ≡ sets out₀ 0 (repacked (records_in bs))
rewritten {slice} {out₀} {out} {left} {p} w none last bs e =
    let same : w.all ≡ bs = cc w.found in
    rw (← same) (last ∙ (none_left w none).same [] ∙ ap (finished out₀ (current_at 0 0)) (append-nil (records_in w.all)) ∙ from_start out₀ (records_in w.all) w.some)
