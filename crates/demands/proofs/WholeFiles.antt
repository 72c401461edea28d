-- Repacking keeps the records, and makes the fewest blocks.
use mathlib.Core.Logic.{◌⊎◌, inl, inr}
use mathlib.Core.Path.{◌≡◌, refl, sym, ap, ◌∙◌}
use mathlib.Core.Bool.{false}
use mathlib.Core.List.{List, [], ◌∷◌, ◌++◌, map, map-append, flatten}
use Prim.Native.Nat.{ℕ, ◌+◌, ◌≤◌, ◌<◌}
use native.Mathlib.Omega.{arith}
use borrow.Author.Tests.{lt-ltb, le-ltb, eq-eqb, ne_eqb}
use lib.Dec.{eqb}
use lib.ListN.{length, take, length-map}
use Rattle.units.specs.declared.Answer.{Answer}
use Rattle.units.specs.Units.{bytes_of_words}
use Rattle.units.specs.Answers.{answer, Verdict, passed, refused, onward}
use Rattle.words.specs.Words.{words_of, word, framed, joined, All, Below, most_record_words}
use Rattle.words.specs.Outcomes.{Written, written, leaves}
use Rattle.words.proofs.Laws.{words_below, joined-append}
use Rattle.words.proofs.Lists.{all_append, all_parts, all_mapped, all_both}
use Rattle.words.proofs.Sealing.{framed_below}
use Rattle.words.proofs.Writing.{too_short, written_either}
use Rattle.block.specs.Judging.{judged, Accepted}
use Rattle.block.specs.Records.{records_of}
use Rattle.block.specs.Rules.{block_of, BlockRecord, IsBlock}
use Rattle.block.proofs.Exact.{words_are}
use Rattle.block_slice.specs.Blocks.{most_bytes, wrong_first, judge_stated, judge_next, blocks_in, records_in}
use Rattle.block_slice.specs.Rules.{IsSlice}
use Rattle.packing.specs.Packing.{Group, groups, repacked}
use Rattle.repacking.specs.Repacking.{repack}
use Rattle.block_slice.proofs.Slices.{blocks_stop, blocks_past, only_slices, every_slice}
use Rattle.packing.proofs.Groups.{groups_join, new_late}
use Rattle.packing.proofs.Fewest.{fewest}
use Rattle.repacking.proofs.Made.{Good, Whole, each_good, records_good, new_groups, groups_whole, made_accepted, made_groups}
use Rattle.block_slice.proofs.Known.{KnownSlice, slice_known, row_not_0}
use Rattle.repacking.proofs.Known.{repacked_bound}
use Rattle.demands.specs.Demand2.{bytes_in, wrote}
use Rattle.demands.specs.WholeFiles.{SlicesExactly, BlockByBlock, BytesNeeded, EmptySlice, Repacking, BlocksAgain, StartsAnew, SameRecords, FewestBlocks, FitsElseNew, RepackedTwice, NeverLonger}
use Rattle.demands.proofs.Demand2.{bytes_in_lem, with_room}

pub slices_exactly : SlicesExactly
slices_exactly slice blocks = (only_slices slice blocks, every_slice slice blocks)

-- ---- the outcome, of a slice of blocks

when_slice : (slice out : List ℕ) (bs : List (List ℕ)) → IsSlice slice bs → repack slice out ≡ written 50 out (passed (repacked (records_in bs)))
unfolding repack
when_slice slice out bs h = rw (every_slice slice bs h)

-- success: all of its bytes were written
when_written : (out bytes : List ℕ) {w : Written} → w ≡ written 50 out (passed bytes) → w.answer.n ≡ 0 → w ≡ wrote bytes out
when_written out bytes {w} e z = by (written_either 50 out bytes)
  where
    by : (written 50 out (passed bytes) ≡ leaves (answer 50 (length bytes) 0 0) out) ⊎ (written 50 out (passed bytes) ≡ wrote bytes out) → w ≡ wrote bytes out
    by (inl f) = absurd (omega (arith, ap (λ x. x.answer.n) (e ∙ f)))
    by (inr f) = e ∙ f

-- a success is of a slice of blocks
its_blocks : (slice out : List ℕ) → Below 256 slice → (repack slice out).answer.n ≡ 0 → (bs : List (List ℕ)) × IsSlice slice bs
unfolding repack written
its_blocks slice out bytes z = by (blocks_in slice) refl (slice_known slice bytes) z
  where
    by : (v : Verdict (List (List ℕ))) → blocks_in slice ≡ v → KnownSlice v → (written 50 out (onward v (λ blocks. passed (repacked (records_in blocks))))).answer.n ≡ 0 → (bs : List (List ℕ)) × IsSlice slice bs
    by (refused r) e t z = absurd (row_not_0 t.listed z)
    by (passed bs) e t z = (bs, only_slices slice bs e)

-- ---- the blocks made

-- the records of these blocks, in blocks again
again : List (List ℕ) → List (List ℕ)
again bs = map block_of (groups (records_in bs))

module _ (slice : List ℕ) (bs : List (List ℕ)) (bytes : Below 256 slice) (given : IsSlice slice bs) where
  records_are : All BlockRecord (records_in bs)
  records_are = records_good bs (each_good bs (rw given.parts at bytes) given.each)

  groups_are : All Whole (groups (records_in bs))
  groups_are = groups_whole (records_in bs) records_are

  made_slice : IsSlice (repacked (records_in bs)) (again bs)
  unfolding repacked again
  made_slice =
      record { size = omega (arith, given.size, repacked_bound slice bs bytes given); parts = refl; each = made_accepted (groups (records_in bs)) groups_are }

  again-groups : map records_of (again bs) ≡ groups (records_in bs)
  unfolding again
  again-groups = made_groups (groups (records_in bs)) groups_are

  again_records : records_in (again bs) ≡ records_in bs
  again_records = ap flatten again-groups ∙ groups_join (records_in bs)

  -- repacked they are the same bytes
  again_same : (out : List ℕ) → length (repacked (records_in bs)) ≤ length out → repack (repacked (records_in bs)) out ≡ wrote (repacked (records_in bs)) out
  again_same out room =
      when_slice (repacked (records_in bs)) out (again bs) made_slice
      ∙ ap (λ rs. written 50 out (passed (repacked rs))) again_records
      ∙ with_room 50 (repacked (records_in bs)) out room

  -- a success has written them, and no others
  module _ (out : List ℕ) (success : (repack slice out).answer.n ≡ 0) where
    all-written : repack slice out ≡ wrote (repacked (records_in bs)) out
    all-written = when_written out (repacked (records_in bs)) (when_slice slice out bs given) success

    bytes-are : bytes_in (repack slice out) ≡ repacked (records_in bs)
    bytes-are = ap bytes_in all-written ∙ bytes_in_lem (repacked (records_in bs)) out

    result-is : (result : List (List ℕ)) → IsSlice (bytes_in (repack slice out)) result → result ≡ again bs
    result-is result made = cc (bytes-are, every_slice (bytes_in (repack slice out)) result made, every_slice (repacked (records_in bs)) (again bs) made_slice)

-- ---- what is taken

-- behind accepted blocks, the refusal of the next one
next_told : (blocks : List (List ℕ)) (rest out : List ℕ) → All Accepted blocks → length (joined blocks ++ rest) ≤ most_bytes → 1 ≤ length rest → (r : Answer)
    → judge_next (1 + length blocks) rest ≡ refused r → repack (joined blocks ++ rest) out ≡ leaves r out
unfolding repack blocks_in written
next_told blocks rest out each short some r e =
    simp (le-ltb most_bytes (length (joined blocks ++ rest)) short, blocks_past 1 r blocks rest each (blocks_stop (1 + length blocks) r rest some e))

-- which that is, by what stands there
module _ (n : ℕ) (rest : List ℕ) where
  one_left : length rest ≡ 1 → judge_next n rest ≡ refused (answer 51 n 0 0)
  unfolding judge_next
  one_left h = simp (eq-eqb (length rest) 1 h)

  module _ (two : 2 ≤ length rest) where
    more : eqb (length rest) 1 ≡ false
    more = ne_eqb (length rest) 1 (λ e. omega arith)

    abbrev first : ℕ
    first = word (words_of rest) 1

    first-told : (first < 18) ⊎ (8000 < first) → judge_next n rest ≡ refused (answer 1 0 0 0)
    unfolding judge_next wrong_first
    first-told (inl low) = simp (more, lt-ltb first 18 low)
    first-told (inr high) = simp (more, le-ltb first 18 (omega arith), lt-ltb 8000 first high)

    module _ (least : 18 ≤ first) (most : first ≤ 8000) where
      past-told : length rest < bytes_of_words first → judge_next n rest ≡ refused (answer 51 n 0 0)
      unfolding judge_next wrong_first judge_stated
      past-told h = simp (more, le-ltb first 18 least, le-ltb 8000 first most, lt-ltb (length rest) (bytes_of_words first) h)

      own-told : {r : Answer} → bytes_of_words first ≤ length rest → judged (take (bytes_of_words first) rest) ≡ refused r → judge_next n rest ≡ refused r
      unfolding judge_next wrong_first judge_stated
      own-told h e = simp (more, le-ltb first 18 least, le-ltb 8000 first most, le-ltb (length rest) (bytes_of_words first) h, e)

pub block_by_block : BlockByBlock
block_by_block blocks rest out each short =
    let n = 1 + length blocks in
    let told = next_told blocks rest out each short in (
      λ h. told (omega arith) _ (one_left n rest h),
      λ h e. told (omega arith) _ (first-told n rest h e),
      λ h least most e. told (omega arith) _ (past-told n rest h least most e),
      λ r least most h e. told (omega arith) r (own-told n rest (omega arith) least most h e),
    )

pub bytes_needed_lem : BytesNeeded
bytes_needed_lem slice out other bytes success =
    let b = its_blocks slice out bytes success in
    let needed = repacked (records_in b.0) in
    let w = all-written slice b.0 bytes b.1 out success in
    let it = when_slice slice other b.0 b.1 in
    rw w ((λ h. it ∙ sym (too_short 50 other needed (length needed) refl h)), (λ h. ap (λ x. x.answer) (it ∙ with_room 50 needed other h)))

pub empty_slice : EmptySlice
unfolding repacked groups joined flatten
empty_slice out = when_slice [] out [] (record { size = omega arith; parts = refl; each = tt }) ∙ with_room 50 [] out (omega arith)

-- ---- what is made

pub blocks_again : BlocksAgain
blocks_again slice out bytes success =
    let b = its_blocks slice out bytes success in
    let is = bytes-are slice b.0 bytes b.1 out success in (
      rw is (all-written slice b.0 bytes b.1 out success),
      (b.0, again b.0, record { bytes = bytes; success = success; given = b.1; made = rw is (made_slice slice b.0 bytes b.1) }),
    )

-- ---- bytes

-- a good block's record words are words
block_words : (b : List ℕ) (rs : List (List ℕ)) → Below 256 b → IsBlock b rs → Below 65536 (joined rs)
unfolding framed
block_words b rs bytes g = (all_parts (λ w. w < 65536) (joined rs) _ (rw (words_are b rs g) at (words_below b bytes)).1).0

-- so are those of all blocks of a slice
slice-words : (bs : List (List ℕ)) → Below 256 (joined bs) → All Good bs → Below 65536 (joined (records_in bs))
unfolding joined flatten
slice-words [] bytes good = tt
slice-words (b ∷ bs) bytes good =
    let p = all_parts (λ x. x < 256) b (joined bs) bytes in
    rw (joined-append (records_of b) (records_in bs))
    (all_append (λ w. w < 65536) (joined (records_of b)) (joined (records_in bs)) (block_words b (records_of b) p.0 good.0) (slice-words bs p.1 good.1))

-- and in whatever groups they stand, their blocks are bytes
groups_bytes : (gs : List Group) → Below 65536 (joined (flatten gs)) → All Whole gs → All (λ g. Below 256 (block_of g)) gs
unfolding joined flatten
groups_bytes [] below whole = tt
groups_bytes (g ∷ gs) below whole =
    let p = all_parts (λ w. w < 65536) (joined g) (joined (flatten gs)) (rw (joined-append g (flatten gs)) at below) in
    (framed_below (joined g) whole.0.most p.0, groups_bytes gs p.1 whole.1)

again_bytes : (slice : List ℕ) (bs : List (List ℕ)) → Below 256 slice → IsSlice slice bs → All (λ b. Below 256 b) (again bs)
unfolding again
again_bytes slice bs bytes given =
    let below : Below 256 (joined bs) = rw given.parts at bytes in
    let words = slice-words bs below (each_good bs below given.each) in
    all_mapped (λ b. Below 256 b) block_of (groups (records_in bs)) (groups_bytes (groups (records_in bs)) (rw groups_join words) (groups_are slice bs bytes given))

-- the result of a repacking
module _ {slice out : List ℕ} {blocks result : List (List ℕ)} (p : Repacking slice out blocks result) where
  result_again : result ≡ again blocks
  result_again = result-is slice blocks p.bytes p.given out p.success result p.made

  result_groups : map records_of result ≡ groups (records_in blocks)
  result_groups = ap (map records_of) result_again ∙ again-groups slice blocks p.bytes p.given

pub starts_anew : StartsAnew
starts_anew slice out blocks result p =
    all_both (λ b. Below 256 b) Accepted result (rw (result_again p) (again_bytes slice blocks p.bytes p.given)) p.made.each

pub same_records : SameRecords
same_records slice out blocks result p =
    let e = ap flatten (result_groups p) ∙ groups_join (records_in blocks) in
    (e, ap (λ rs. length (joined rs)) e)

pub fewest_blocks : FewestBlocks
fewest_blocks slice out blocks result p gs e h =
    let l = ap length (result_groups p) in
    omega (arith, length-map result records_of, fewest (records_in blocks) gs e h)

pub fits_else_new : FitsElseNew
fits_else_new slice out blocks result p front back rs b c r e first =
    let new = new_groups (records_in blocks) (records_are slice blocks p.bytes p.given) in
    let parts : groups (records_in blocks) ≡ map records_of front ++ (records_of b ∷ (r ∷ rs) ∷ map records_of back) =
    sym (result_groups p) ∙ ap (map records_of) e ∙ map-append records_of front (b ∷ c ∷ back) ∙ ap (λ g. map records_of front ++ (records_of b ∷ g ∷ map records_of back)) first in
    new_late most_record_words (map records_of front) (map records_of back) (records_of b) r rs (rw parts at new)

pub repacked_twice : RepackedTwice
repacked_twice slice out other bytes success room =
    let b = its_blocks slice out bytes success in
    let is = bytes-are slice b.0 bytes b.1 out success in
    rw is (again_same slice b.0 bytes b.1 other (rw is at room))

pub never_longer : NeverLonger
never_longer slice out blocks bytes h = (by (written_either 50 out needed), λ room. ap (λ w. w.answer.n) (it ∙ with_room 50 needed out (omega (arith, bound))))
  where
    needed : List ℕ
    needed = repacked (records_in blocks)

    bound : length needed ≤ length slice
    bound = repacked_bound slice blocks bytes h

    it : repack slice out ≡ written 50 out (passed needed)
    it = when_slice slice out blocks h

    by : {all : List ℕ} → (written 50 out (passed needed) ≡ leaves (answer 50 (length needed) 0 0) out) ⊎ (written 50 out (passed needed) ≡ leaves (answer 0 (length needed) 0 0) all) → (repack slice out).answer.a ≤ length slice
    by (inl e) = omega (arith, bound, ap (λ w. w.answer.a) (it ∙ e))
    by (inr e) = omega (arith, bound, ap (λ w. w.answer.a) (it ∙ e))
