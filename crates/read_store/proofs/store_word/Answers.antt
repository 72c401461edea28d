use Rattle.std.proofs.Common.{◌≡◌, ◌/◌, ◌%◌, add-one, arith}
use Rattle.words.specs.Words.{bytes_of}
use Rattle.read_store.proofs.store_word.Goals as goal

pub returns : goal.returns
unfolding bytes_of
returns c = let w = c.args.w in
    let high : w / 256 % 256 ≡ w / 256 = omega arith in
    rw (c.store_byte-2.ensures, c.store_byte.ensures, c.to_be_bytes.ensures, c.bytes_of_words-first.ensures, high, add-one)
