-- What the code's items and rules are.
use Rattle.std.specs.Prelude.{List, map, string_bytes}
use Rattle.fd_spelling.specs.Texts.{texts}
use Rattle.fd_schema.specs.declared.rule.Want as code_want
use Rattle.fd_schema.specs.declared.rule.Want.TheVariants as wants
use Rattle.fd_schema.specs.declared.rule.Item as code_item
use Rattle.fd_schema.specs.declared.rule.Rule as code_rule
use Rattle.fd_schema.specs.Rules.{Want, Needed, Optional, OneOf, Item, Rule}

abbrev pub seen_want : code_want.Want → Want
seen_want wants.Needed = Needed
seen_want wants.Optional = Optional
seen_want (wants.OneOf values) = OneOf (texts values.items)

abbrev pub seen_item : code_item.Item → Item
seen_item i = record { level = i.level; name = string_bytes i.name; want = seen_want i.want }

abbrev pub seen_items : List code_item.Item → List Item
seen_items is = map seen_item is

abbrev pub seen_rule : code_rule.Rule → Rule
seen_rule r = record { version = r.version; items = seen_items r.items.items }

abbrev pub seen_rules : List code_rule.Rule → List Rule
seen_rules rs = map seen_rule rs
