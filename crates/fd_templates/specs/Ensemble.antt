-- The numbers of an ensemble member: what product definition template 4.1 has behind the numbers of 4.0 (FM 92 GRIB).
use Rattle.std.specs.Prelude.{ℕ, List, [], ◌++◌, Option, Some, None}
use Rattle.fd_templates.specs.declared.ensemble.Ensemble.{Ensemble}
use Rattle.fd_templates.specs.Octets as octets
use Rattle.fd_templates.specs.Octets.{octets_of}

abbrev pub ensemble_of : List ℕ → Ensemble
ensemble_of s = record {
  kind = octets.number 35 35 s;
  number = octets.number 36 36 s;
  size = octets.number 37 37 s;
}

-- ---- Their octets

unfoldable pub member_octets : Ensemble → List ℕ
member_octets e = octets_of 1 e.kind ++ octets_of 1 e.number ++ octets_of 1 e.size

abbrev pub ensemble_octets : Option Ensemble → List ℕ
ensemble_octets None = []
ensemble_octets (Some e) = member_octets e
