-- What the code's values are.
use Rattle.std.specs.Prelude.{◌≡◌, ◌<◌, ℕ, true, List, length, string_bytes}
use Rattle.std.specs.List.{list_all}
use Rattle.fd_spelling.specs.Names.{is_value}
use Rattle.fd_spelling.specs.Texts.{texts}
use Rattle.fd_request.specs.declared.range.Range as code_range
use Rattle.fd_request.specs.declared.values.Values as code_values
use Rattle.fd_request.specs.declared.values.Values.TheVariants as variants
use Rattle.fd_request.specs.declared.values.ValueText as code_text
use Rattle.fd_request.specs.declared.values.ValueText.TheVariants as value_texts
use Rattle.fd_request.specs.Ranges.{values_from}
use Rattle.fd_request.specs.Seen.{seen_end}

unfoldable pub seen_range : code_range.Range → List (List ℕ)
seen_range r = values_from (seen_end r.first) r.step 0 r.count

abbrev pub seen_values : code_values.Values → List (List ℕ)
seen_values (variants.Listed vs) = texts vs.items
seen_values (variants.Stepped r) = seen_range r

-- a value's text, be it lent or made
abbrev pub seen_text : code_text.ValueText → List ℕ
seen_text (value_texts.Listed s) = s.now
seen_text (value_texts.Made s) = string_bytes s

-- one value or more, each in its one spelling
pub record AreValues (values : List (List ℕ)) : Type 0 where
  pub some : 0 < length values
  pub all : list_all is_value values ≡ true
