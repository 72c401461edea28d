use native.Mathlib.Omega.{arith}
use lib.ListN.{length}
use Rattle.words.specs.Words.{Below}
use Rattle.words.specs.Writing.{Room}
use Rattle.words.proofs.Laws.{all_below}
use Rattle.std.proofs.Common.{List, ℕ, ◌≤◌}
use Rattle.listed.specs.Listing.{listing_of}
use Rattle.listed.proofs.Sizes.{listing_bound}
use Rattle.listed.proofs.Outcome.{accepted_prints, refused_prints}
use Rattle.listed.proofs.print_listing.Goals as goal

-- a buffer of so many bytes has room
room : (b out : List ℕ) → Below 256 b → 32768 ≤ length out → Room out 0 (listing_of b)
room b out h sized = omega (arith, listing_bound b h)

pub write_listing-requires : goal.write_listing-requires
write_listing-requires c =
    let b = c.args.block.now in
    let p = accepted_prints _ _ (room b c.args.out.now (all_below 256 b (λ i. omega (arith, c.type_inv.block i))) (omega arith)) c.judge.ensures c.in-Ok.is in
    (p.0, p.1.room)

pub write_refusal-requires : goal.write_refusal-requires
write_refusal-requires c =
    let b = c.args.block.now in
    (refused_prints _ _ (room b c.args.out.now (all_below 256 b (λ i. omega (arith, c.type_inv.block i))) (omega arith)) c.judge.ensures c.in-Err.is c.numbers.ensures.0).room

pub returns-in-Ok : goal.returns-in-Ok
returns-in-Ok c =
    let b = c.args.block.now in
    (accepted_prints _ _ (room b c.args.out.now (all_below 256 b (λ i. omega (arith, c.type_inv.block i))) (omega arith)) c.judge.ensures c.in-Ok.is).1.printed c.write_listing.ensures

pub returns-in-Err : goal.returns-in-Err
returns-in-Err c =
    let b = c.args.block.now in
    (refused_prints _ _ (room b c.args.out.now (all_below 256 b (λ i. omega (arith, c.type_inv.block i))) (omega arith)) c.judge.ensures c.in-Err.is c.numbers.ensures.0).printed c.write_refusal.ensures
