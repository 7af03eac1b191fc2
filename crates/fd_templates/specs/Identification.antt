-- The numbers of section 1, identification (FM 92 GRIB).
use Rattle.std.specs.Prelude.{List, ℕ, ◌++◌}
use Rattle.fd_templates.specs.declared.identification.Ident.{Ident}
use Rattle.fd_templates.specs.Octets.{number, octets_of}
use Rattle.fd_templates.specs.DateTime.{date_time_of, date_time_octets}

abbrev pub identification_of : List ℕ → Ident
identification_of s = record {
  centre = number 6 7 s;
  sub_centre = number 8 9 s;
  master_tables_version = number 10 10 s;
  local_tables_version = number 11 11 s;
  reference_time_significance = number 12 12 s;
  reference_time = date_time_of 13 s;
  production_status = number 20 20 s;
  data_type = number 21 21 s;
}

-- ---- A section 1 with these numbers

unfoldable pub origin_octets : Ident → List ℕ
origin_octets i =
    octets_of 2 i.centre ++ octets_of 2 i.sub_centre ++ octets_of 1 i.master_tables_version ++ octets_of 1 i.local_tables_version ++ octets_of 1 i.reference_time_significance

unfoldable pub identification_octets : Ident → List ℕ
identification_octets i =
    octets_of 4 21 ++ octets_of 1 1 ++ origin_octets i ++ date_time_octets i.reference_time ++ octets_of 1 i.production_status ++ octets_of 1 i.data_type
