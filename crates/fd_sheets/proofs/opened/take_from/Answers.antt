use Rattle.std.proofs.Common.{rules, ◌<◌, ◌∙◌, ℕ, List, [], None, Ok, arith, length, refl, subst}
use Rattle.fd_sections.specs.Message.{Sections}
use Rattle.fd_sheets.specs.Sheets.{TookOne}
use Rattle.fd_sheets.proofs.Taking.{took_one}
use Rattle.fd_sheets.proofs.opened.take_from.Goals as goal

abbrev no_sections : Sections
no_sections = record { indicator = []; identification = []; local_use = None; grid = []; product = []; representation = []; bit_map = []; values = [] }

pub returns-then-is_part-clause-took : goal.returns-then-is_part-clause-took
returns-then-is_part-clause-took c =
    let lt : c.loop-i.i < length c.args.fields.now = search rules in
    took_one c.args.number _ c.args.fields.now c.loop-i.i no_sections c.args.sheets.now.items c.loop-i.sheets.items c.put_sheet.new.sheets.items c.loop-i.invariant.took lt c.requires.whole
    (subst (λ (octets : List ℕ). TookOne c.args.number octets c.loop-i.sheets.items c.put_sheet.new.sheets.items (Ok tt)) (c.from_vec.ensures ∙ c.in_ok-field.ensures no_sections) c.in_ok-put_sheet.ensures)

pub loop-i-preserved : goal.loop-i-preserved
loop-i-preserved c =
    let lt : c.loop-i.i < length c.args.fields.now = search rules in
    record {
      next = refl;
      inside = omega (arith, lt);
      took = took_one c.args.number _ c.args.fields.now c.loop-i.i no_sections c.args.sheets.now.items c.loop-i.sheets.items c.put_sheet.new.sheets.items c.loop-i.invariant.took lt c.requires.whole
          (subst (λ (octets : List ℕ). TookOne c.args.number octets c.loop-i.sheets.items c.put_sheet.new.sheets.items (Ok tt)) (c.from_vec.ensures ∙ c.in_ok-field.ensures no_sections) c.in_ok-put_sheet.ensures);
    }
