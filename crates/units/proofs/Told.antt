-- What is known of a judgement: the numbers of its refusal, or a fact of what it gives.
use Prim.Native.Nat.{ℕ}
use Rattle.units.specs.declared.Answer.{Answer}
use Rattle.units.specs.Answers.{Verdict, passed, refused, onward, Packs}

-- a refusal: its number is one of these rows, and the others have room in the packing
pub record Told (Row : ℕ → Type 0) (r : Answer) : Type 0 where
  pub listed : Row r.n
  pub packs : Packs r

-- a refusal is told, and P holds of what is given
abbrev pub Known : {A : Type 0} → (ℕ → Type 0) → (A → Type 0) → Verdict A → Type 0
Known Row P (passed x) = P x
Known Row P (refused r) = Told Row r

module _ (Row : ℕ → Type 0) where
  -- a judgement, and then another
  pub then_known : {A B : Type 0} (P : A → Type 0) (Q : B → Type 0) (v : Verdict A) (f : A → Verdict B) → Known Row P v → ((x : A) → P x → Known Row Q (f x)) → Known Row Q (onward v f)
  then_known P Q (passed x) f h on = on x h
  then_known P Q (refused r) f h on = h

  -- what holds of what is given may be said more weakly
  pub known_as : {A : Type 0} (P Q : A → Type 0) (v : Verdict A) → Known Row P v → ((x : A) → P x → Q x) → Known Row Q v
  known_as P Q (passed x) h f = f x h
  known_as P Q (refused r) h f = h
