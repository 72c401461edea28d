-- The blocks that are made of records: accepted, of the same records, and never longer than those that the records came from.
use mathlib.Core.Path.{◌≡◌, refl, ap, ap₂}
use mathlib.Core.List.{List, [], ◌∷◌, ◌++◌, map, flatten}
use Prim.Native.Nat.{ℕ, ◌+◌, ◌*◌, ◌≤◌, ◌<◌}
use native.Mathlib.Omega.{arith}
use lib.ListN.{length, length-append}
use Rattle.units.specs.Units.{bytes_of_words}
use Rattle.words.specs.Words.{joined, All, Below, most_record_words}
use Rattle.words.proofs.Laws.{joined-append}
use Rattle.words.proofs.Lists.{all_parts, all_map, all_mapped, all_both, all-flatten, flatten-all}
use Rattle.words.proofs.Sealing.{length-framed}
use Rattle.record.specs.Rules.{RecordOk}
use Rattle.block.specs.Judging.{Accepted}
use Rattle.block.specs.Records.{records_of}
use Rattle.block.specs.Rules.{block_of, BlockRecord, IsBlock}
use Rattle.block.proofs.Exact.{ok_long, only_good, every_good, its_records}
use Rattle.block_slice.specs.Blocks.{records_in}
use Rattle.packing.specs.Packing.{Group, groups, blocks_of, repacked}
use Rattle.packing.proofs.Groups.{Fits, NewGroups, groups_join, groups_new, new_each}
use Rattle.packing.proofs.Fewest.{fewest}

-- ---- the blocks given

-- a block of its own records
abbrev pub Good : List ℕ → Type 0
Good b = IsBlock b (records_of b)

pub each_good : (bs : List (List ℕ)) → Below 256 (joined bs) → All Accepted bs → All Good bs
unfolding joined
each_good [] bytes h = tt
each_good (b ∷ bs) bytes h =
    let p = all_parts (λ x. x < 256) b (joined bs) bytes in
    ((only_good b h.0.count p.0 h.0.is).0, each_good bs p.1 h.1)

-- each of a block's records is one that a block has room for
pub block_records : (rs : List (List ℕ)) → All RecordOk rs → length (joined rs) ≤ most_record_words → All BlockRecord rs
unfolding joined
block_records [] h k = tt
block_records (r ∷ rs) h k =
    let l = length-append r (joined rs) in
    (record { ok = h.0; most = omega arith }, block_records rs h.1 (omega arith))

pub records_good : (bs : List (List ℕ)) → All Good bs → All BlockRecord (records_in bs)
records_good bs h =
    flatten-all BlockRecord (map records_of bs) (all_mapped (All BlockRecord) records_of bs (all_map Good (λ b. All BlockRecord (records_of b)) (λ b g. block_records (records_of b) g.each g.most) bs h))

-- ---- the blocks made

-- a group that is a block's
abbrev pub Whole : Group → Type 0
Whole g = IsBlock (block_of g) g

pub new_groups : (rs : List (List ℕ)) → All BlockRecord rs → NewGroups most_record_words (groups rs)
new_groups rs h = groups_new rs (all_map BlockRecord Fits (λ r k. record { least = omega (arith, ok_long r k.ok); most = k.most }) rs h)

pub groups_whole : (rs : List (List ℕ)) → All BlockRecord rs → All Whole (groups rs)
groups_whole rs h =
    let ok = all-flatten BlockRecord (groups rs) (rw groups_join h) in
    let new = new_each most_record_words (groups rs) (λ g. (1 ≤ length g) × (length (joined g) ≤ most_record_words)) (λ m g k. (k.some, k.room)) (new_groups rs h) in
    all_map _ Whole (λ g k. record { bytes = refl; each = all_map BlockRecord RecordOk (λ r o. o.ok) g k.0; some = k.1.0; most = k.1.1 }) (groups rs) (all_both _ _ (groups rs) ok new)

pub made_accepted : (gs : List Group) → All Whole gs → All Accepted (map block_of gs)
made_accepted gs h =
    all_mapped Accepted block_of gs (all_map Whole (λ g. Accepted (block_of g)) (λ g k. record { count = length g; is = every_good (block_of g) g k }) gs h)

pub made_groups : (gs : List Group) → All Whole gs → map records_of (map block_of gs) ≡ gs
made_groups [] h = refl
made_groups (g ∷ gs) h = ap₂ (λ (x : Group) (y : List Group). x ∷ y) (its_records (block_of g) g h.0) (made_groups gs h.1)

-- ---- their bytes

length_blocks : (gs : List Group) → length (blocks_of gs) ≡ bytes_of_words (length (joined (flatten gs)) + length gs * 2)
unfolding joined flatten
length_blocks [] = refl
length_blocks (g ∷ gs) =
    omega (arith, length-append (block_of g) (blocks_of gs), length-framed (joined g), length_blocks gs, ap length (joined-append g (flatten gs)), length-append (joined g) (joined (flatten gs)))

-- the blocks given are one grouping of their records
given_blocks : (bs : List (List ℕ)) → All Good bs → joined bs ≡ blocks_of (map records_of bs)
unfolding joined
given_blocks [] h = refl
given_blocks (b ∷ bs) h = ap₂ (λ (x y : List ℕ). x ++ y) h.0.bytes (given_blocks bs h.1)

pub never_longer : (bs : List (List ℕ)) → All Accepted bs → Below 256 (joined bs) → length (repacked (records_in bs)) ≤ length (joined bs)
unfolding repacked
never_longer bs accepted bytes =
    let h = each_good bs bytes accepted in
    let gs = map records_of bs in
    let few = fewest (records_in bs) gs refl (all_mapped (λ g. length (joined g) ≤ most_record_words) records_of bs (all_map Good _ (λ b g. g.most) bs h)) in
    omega (arith, length_blocks (groups (records_in bs)), length_blocks gs, ap (λ l. length (joined l)) (groups_join (records_in bs)), ap length (given_blocks bs h))
