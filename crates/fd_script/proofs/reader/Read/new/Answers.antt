use Rattle.std.proofs.Common.{◌≡◌, sym, subst, List, [], None}
use Rattle.fd_script.specs.declared.script.Lane.{Lane}
use Rattle.fd_script.specs.Scripts.{IsWithin}
use Rattle.fd_script.specs.Reading.{IsSaid}
use Rattle.fd_script.proofs.Lanes.{nothing_said, no_lanes}
use Rattle.fd_script.proofs.reader.Read.new.Goals as goal

pub returns : goal.returns
returns c = record {
  says = subst (λ (ls : List Lane). IsSaid None ls []) (sym c.new.ensures.items) nothing_said;
  within = subst IsWithin (sym c.new.ensures.items) no_lanes;
}
