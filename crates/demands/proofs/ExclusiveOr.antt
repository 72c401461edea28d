-- The laws hold.
use lib.Bits.{xor_assoc, xor_comm}
use Rattle.words.proofs.Xor.{xor_twice, fold_patched}
use Rattle.demands.specs.ExclusiveOr.{XorLaws, Patched}

pub xor_laws : XorLaws
xor_laws = record { associative = xor_assoc; commutative = xor_comm; inverse = xor_twice }

pub xor_patched : Patched
xor_patched = fold_patched
