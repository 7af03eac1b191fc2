-- The commands that list a stream.
use Rattle.fd_words.specs.declared.command.Command.{Command}
use Rattle.fd_words.specs.declared.command.Command.TheVariants as commands
use Rattle.fd_outcome.specs.declared.listing.Listing.{Listing}
use Rattle.fd_outcome.specs.declared.listing.Listing.TheVariants as listings

-- the command that writes the listing
abbrev pub listing_command : Listing → Command
listing_command listings.Descriptions = commands.Describe
listing_command (listings.Points decimals) = commands.Values decimals
