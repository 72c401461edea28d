-- Document 01, "The binary block": 16-bit words, high byte first, and what stands around the records of a block.
use Rattle.std.specs.Prelude.{ℕ, ◌+◌, ◌-◌, ◌*◌, ◌/◌, ◌%◌, ◌<◌, List, [], ◌∷◌, ◌++◌, length, get_or, map}
use Rattle.std.proofs.Math.Seq.{slice}
use Rattle.std.specs.Int.{w16, from_be_bytes}
use Rattle.std.specs.Int.Bits.{bit_xor}

-- "Words are 16 bits, high byte first": each two bytes are a word
unfoldable pub words_of : List ℕ → List ℕ
words_of [] = []
words_of (h ∷ []) = []
words_of (h ∷ l ∷ t) = (h * 256 + l) ∷ words_of t

-- the words that pairs of bytes say, high byte first
abbrev pub pair_words : List (List ℕ) → List ℕ
pair_words pairs = map (from_be_bytes w16) pairs

-- the words' bytes
unfoldable pub bytes_of : List ℕ → List ℕ
bytes_of [] = []
bytes_of (w ∷ ws) = (w / 256) ∷ (w % 256) ∷ bytes_of ws

-- a word with its two bytes swapped: how a machine that has the low byte first reads it
unfoldable pub swapped : ℕ → ℕ
swapped w = w % 256 * 256 + w / 256

-- word k, counted from 1 as the paper does
abbrev pub word : List ℕ → ℕ → ℕ
word ws k = get_or ws (k - 1) 0

-- words k to m
abbrev pub words : List ℕ → ℕ → ℕ → List ℕ
words ws k m = slice (k - 1) m ws

-- "the exclusive or of all the other words", as a fold
unfoldable pub xor_all : List ℕ → ℕ
xor_all [] = 0
xor_all (w ∷ ws) = bit_xor w (xor_all ws)

-- lists one after the other
unfoldable pub joined : List (List ℕ) → List ℕ
joined [] = []
joined (r ∷ rs) = r ++ joined rs

-- "Word 1 is the count of all words of the block. The last word is the exclusive or of all the other words." Between them stand these
unfoldable pub framed : List ℕ → List ℕ
framed ws = (length ws + 2) ∷ ws ++ (xor_all ((length ws + 2) ∷ ws) ∷ [])

-- the block of these record words, as bytes
abbrev pub block_from : List ℕ → List ℕ
block_from ws = bytes_of (framed ws)

-- "A block has 18 to 8,000 words"
abbrev pub most_words : ℕ
most_words = 8000

-- and two of them are the length word and the checksum
abbrev pub most_record_words : ℕ
most_record_words = 7998

-- each element is such a one
abbrev pub All : {A : Type 0} → (A → Type 0) → List A → Type 0
All P [] = Unit {0}
All P (x ∷ xs) = P x × All P xs

-- each element is below n: 256 for bytes, 65536 for words
abbrev pub Below : ℕ → List ℕ → Type 0
Below n l = All (λ x. x < n) l
