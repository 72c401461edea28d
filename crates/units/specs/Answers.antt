-- Document 01, "Answer numbers": the four numbers, their packing, and judgements that stop at the first refusal.
use Rattle.std.specs.Prelude.{ℕ, Result, Ok, Err, ◌+◌, ◌*◌, ◌/◌, ◌%◌, ◌^◌, ◌<◌}
use Rattle.units.specs.declared.Answer.{Answer}
use Rattle.units.specs.declared.Bytes.{Bytes}
use Rattle.units.specs.declared.Unwritten.{Unwritten}
use Rattle.units.specs.declared.Unwritten.TheVariants.{Refused, Short}

-- "Each answer is four numbers: n, a, b, c"
abbrev pub answer : ℕ → ℕ → ℕ → ℕ → Answer
answer n a b c = record { n = n; a = a; b = b; c = c }

-- a judgement goes on with a value, or stops: "A refusal is given exactly when its row holds and none before it in the order does"
pub data Verdict (A : Type 0) : Type 0 where
  passed : A → Verdict A
  refused : Answer → Verdict A

-- the first refusal stands
abbrev pub onward : {A B : Type 0} → Verdict A → (A → Verdict B) → Verdict B
onward (passed x) f = f x
onward (refused r) f = refused r

-- "Success is n = 0 with a = ...", the value; else the refusal's numbers
abbrev pub answered : Verdict ℕ → Answer
answered (passed a) = answer 0 a 0 0
answered (refused r) = r

-- what a function returns, as a judgement: its value, or its refusal's numbers
abbrev pub verdict_of : {A B E : Type 0} → (A → B) → (E → Answer) → Result A E → Verdict B
verdict_of value numbers (Ok x) = passed (value x)
verdict_of value numbers (Err e) = refused (numbers e)

-- a conversion's answer: the bytes written; the refusal's numbers; row `short` with the bytes needed
abbrev pub written_of : {R : Type 0} → ℕ → (R → Answer) → Result Bytes (Unwritten R) → Answer
written_of short numbers (Ok size) = answer 0 size.0 0 0
written_of short numbers (Err (Refused r)) = numbers r
written_of short numbers (Err (Short size)) = answer short size.0 0 0

-- "as one unsigned 64-bit number, 2^56 n + 2^32 a + 2^16 b + c"
abbrev pub packed_of : Answer → ℕ
packed_of r = r.n * 2 ^ 56 + r.a * 2 ^ 32 + r.b * 2 ^ 16 + r.c

-- the low 24 bits of a and the low 16 of b, which is what that has room for
abbrev pub fitted : Answer → Answer
fitted r = answer r.n (r.a % 2 ^ 24) (r.b % 2 ^ 16) r.c

-- the four numbers that a packed one holds
abbrev pub taken_apart : ℕ → Answer
taken_apart p = answer (p / 2 ^ 56) (p / 2 ^ 32 % 2 ^ 24) (p / 2 ^ 16 % 2 ^ 16) (p % 2 ^ 16)

-- an answer that the packing has room for
pub record Packs (r : Answer) : Type 0 where
  pub n_fits : r.n < 2 ^ 8
  pub a_fits : r.a < 2 ^ 24
  pub b_fits : r.b < 2 ^ 16
  pub c_fits : r.c < 2 ^ 16
