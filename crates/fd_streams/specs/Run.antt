-- A search or a listing over an input that tells its octets.
use Rattle.std.specs.Prelude.{◌≡◌, ◌++◌, ℕ, List, Option, Some, None, Ok}
use Rattle.fd_io.specs.Streams.{Takes}
use Rattle.fd_sections.specs.Message.{Sections}
use Rattle.fd_sections.specs.Progress.{Progress}
use Rattle.fd_sections.specs.Splitting.{start}
use Rattle.fd_sections.specs.Joining.{SplitsOn}
use Rattle.fd_key.specs.Pairs.{Pair}
use Rattle.fd_streams.specs.declared.picking.Last.{Last}
use Rattle.fd_outcome.specs.declared.listing.Listing.{Listing}
use Rattle.fd_outcome.specs.Picking.{keyless, last_wanted}
use Rattle.fd_outcome.specs.Listed.{alone, listed_messages}
use Rattle.fd_streams.specs.Found.{IsLast}

-- of an input of these octets so many were read, and P holds of those
abbrev pub Reads : Option (List ℕ) → Option (List ℕ) → (List ℕ → Type 0) → Type 0
Reads None left P = Unit {0}
Reads (Some octets) None P = ⊥
Reads (Some octets) (Some left) P = (seen : List ℕ) × (octets ≡ seen ++ left) × P seen

-- the search went over these messages of the octets seen: each has a key, and the last that is wanted was found last
pub record Searched (wanted : List Pair) (p : Progress) (last : Last) (seen : List ℕ) : Type 0 where
  pub messages : List Sections
  pub splits : SplitsOn start p seen messages
  pub keyed : keyless 1 messages ≡ None
  pub is_last : IsLast last (last_wanted wanted None messages)

-- the listing went over these messages of the octets seen; the output, which had taken a, took their lines, and has taken b
pub record Gone (listing : Listing) (p : Progress) (a b : Option (List ℕ)) (seen : List ℕ) : Type 0 where
  pub messages : List Sections
  pub splits : SplitsOn start p seen messages
  pub lines : List ℕ
  pub lists : listed_messages listing 1 None messages ≡ alone (Ok lines)
  pub took : Takes a b lines
