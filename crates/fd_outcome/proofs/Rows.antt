-- The worked rows, by computation.
use Rattle.std.proofs.Common.{refl}
use Rattle.std.specs.Fmt.{digits}
use Rattle.jiff_core.specs.Calendar.{days_of_years, days_of_months, day_count, days_from_civil}
use Rattle.fd_sections.specs.Reading.{indicator_at, section_at, local_use_at, end_at, reading}
use Rattle.fd_sections.specs.Stream.{first_at, stream}
use Rattle.fd_sections.specs.Frames.{frame_at, frames}
use Rattle.fd_split.specs.Reading.{grid_at, reading_rounds, round_at, rounds_at}
use Rattle.fd_templates.specs.Octets.{number, signed_number, signed_or_missing}
use Rattle.fd_templates.specs.AnyProduct.{any_product_is}
use Rattle.fd_spelling.specs.Canonical.{param_numbers, spelling, canonical, pair_of}
use Rattle.fd_spelling.specs.Civil.{date_text, time_text, date_in, date_spelling, time_in, time_spelling}
use Rattle.fd_key.specs.Given.{plain_pair, with_piece, pairs_from, given_of}
use Rattle.fd_key.specs.Keys.{message_pairs, within_limit, key_of}
use Rattle.fd_spelling.specs.Levels.{levtype_text, types_in, levtype_spelling, level_text, unsigned_level, level_spelling, levelist_spelling, scaled_text}
use Rattle.fd_key.specs.Fields.{surface_text}
use Rattle.fd_spelling.specs.Numerals.{number_up_to, cut}
use Rattle.fd_spelling.specs.Steps.{step_text, unit_of, unsigned_step, step_spelling}
use Rattle.fd_schema.specs.Grammar.{each_of as schema_each_of, value_of as schema_value_of, name_of as schema_name_of, want_of, item_of, level_of, rule_of, rules_of as schema_rules_of, version_of, rules_in, schema_of}
use Rattle.fd_schema.specs.Rules.{level_pairs, place_from}
use Rattle.fd_schema.specs.Plain.{plain}
use Rattle.fd_tokens.specs.Tokens.{tokens, parts}
use Rattle.fd_request.specs.Expansion.{each_before, expand}
use Rattle.fd_request.specs.Grammar.{each_of, verb_of, value_of, behind_words, up_to_behind, values_of, behind_name, name_of, keyword_of, request_in, keywords_of}
use Rattle.fd_request.specs.Limits.{too_many, longest_text, within_limits, within_size, request_of, partial_of}
use Rattle.fd_index.specs.Reading.{key_len_at, record_at, records_at, page_at, pages_at, counts_of, index_at}
use Rattle.fd_segment.specs.Held.{batch_of}
use Rattle.fd_entries.specs.Table.{listed}
use Rattle.fd_templates.specs.Octets.{octets_of}
use Rattle.fd_gen.specs.First.{first_indicator, first_identification, first_grid, first_product, first_representation, first_bit_map, first_values}
use Rattle.fd_gen.specs.Dates.{date_after}
use Rattle.fd_gen.specs.Generated.{identification, product, values}
use Rattle.fd_schema.specs.Printed.{values_text as schema_values_text, level_items_text, rules_text, schema_text}
use Rattle.fd_outcome.specs.Rows.{with_piece as with_stored_piece, with_pieces, stored_at, stored, list_text, axes_text, stats_text}
use Rattle.fd_outcome.specs.Worked.{Rows}

pub every : Rows
unfolding digits days_of_years days_of_months day_count days_from_civil indicator_at section_at local_use_at end_at reading first_at stream frame_at frames grid_at round_at rounds_at reading_rounds number signed_number signed_or_missing any_product_is param_numbers spelling canonical pair_of date_text time_text date_in date_spelling time_in time_spelling plain_pair with_piece pairs_from given_of message_pairs within_limit key_of levtype_text types_in levtype_spelling level_text unsigned_level level_spelling levelist_spelling scaled_text surface_text number_up_to cut step_text unit_of unsigned_step step_spelling schema_each_of schema_value_of schema_name_of want_of item_of level_of rule_of schema_rules_of version_of rules_in schema_of level_pairs place_from plain tokens parts each_before expand each_of verb_of value_of behind_words up_to_behind values_of behind_name name_of keyword_of request_in keywords_of too_many longest_text within_limits within_size request_of partial_of key_len_at record_at records_at page_at pages_at counts_of index_at batch_of listed octets_of first_indicator first_identification first_grid first_product first_representation first_bit_map first_values date_after identification product values schema_values_text level_items_text rules_text schema_text with_stored_piece with_pieces stored_at stored list_text axes_text stats_text
every = record { taken_one = refl; archived_one = refl; archived_none = refl; archived_two = refl; archived_fields = refl; archived_unmapped = refl; split_two = refl; split_one = refl; split_unmapped = refl; asked_for = refl; table = refl; retrieved_one = refl; missed_one = refl; retrieved_over = refl; no_layer = refl; newest_in_batch = refl; newest_batch = refl; partial_is = refl; lists = refl; axes = refl; stats = refl; created_new = refl; created_again = refl; no_schema = refl; damaged_schema = refl; planted_rules = refl; tried_two = refl; tried_over = refl; absent = refl; short = refl; bad_index = refl; beyond = refl; index_digest = refl; field_digest = refl; cut_table = refl }
