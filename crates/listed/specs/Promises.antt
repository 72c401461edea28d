-- What the listing's printing promises.
use Rattle.std.specs.Prelude.{List, ℕ}
use Rattle.printed.specs.Printed.{Printed}
use Rattle.listed.specs.Listing.{listing_of}

-- `print_listing`: "It prints for each record", and the buffer afterwards with the place where that ends
abbrev pub PrintsListing : List ℕ → List ℕ → ℕ → List ℕ → Type 0
PrintsListing block out end after = Printed out (listing_of block) after end
