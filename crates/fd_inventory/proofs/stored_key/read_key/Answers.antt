use Rattle.std.proofs.Common.{rules, ◌≡◌, ◌∙◌, ℕ, Option, List, Some, None, length, sym, ap, subst, arith}
use Rattle.fd_spelling.specs.Numerals.{◌>>=◌}
use Rattle.fd_outcome.specs.Rows.{Stored, stored, stored_at}
use Rattle.fd_inventory.specs.Keys.{IsKey, whole_behind}
use Rattle.fd_inventory.proofs.Keyed.{lead_first, read_behind, texts_short, told}
use Rattle.fd_inventory.proofs.Wholes.{ends_behind, none_behind}
use Rattle.fd_inventory.proofs.stored_key.read_key.Goals as goal

pub returns-in_default-clause-key : goal.returns-in_default-clause-key
returns-in_default-clause-key c = told c.args.dataset.now c.args.key.now ∙ ap (λ (o : Option (List ℕ × List ℕ)). o >>= λ p. stored_at c.args.dataset.now p.0 p.1) (sym c.in_default.ensures)

pub lead_of-requires-clause-short : goal.lead_of-requires-clause-short
lead_of-requires-clause-short c = omega (arith, c.requires.short, texts_short c.args.key.now (c.in-Some.index.now, c.in-Some.datum.now) (sym c.in-Some.ensures))

pub behind-requires : goal.behind-requires
behind-requires c =
    let both = texts_short c.args.key.now (c.in-Some.index.now, c.in-Some.datum.now) (sym c.in-Some.ensures) in
    lead_first c.args.dataset.now c.in-Some.datum.now c.in_ok-lead.lead c.in_ok-lead.ensures.lead c.requires.short (omega (arith, both, ap length c.in_ok-lead.ensures.index))

pub returns-then-not-is_one-clause-key : goal.returns-then-not-is_one-clause-key
returns-then-not-is_one-clause-key c =
    let none : whole_behind c.in_ok-lead.lead.pairs c.in-Some.datum.now ≡ None = search rules in
    read_behind c.args.dataset.now c.args.key.now c.in-Some.index.now c.in-Some.datum.now c.in_ok-lead.lead (sym c.in-Some.ensures) c.in_ok-lead.ensures.lead c.in_ok-lead.ensures.index
    ∙ none_behind c.in_ok-lead.lead.pairs c.in-Some.index.now c.in-Some.datum.now none

pub returns-clause-key : goal.returns-clause-key
returns-clause-key c =
    let some : whole_behind c.in_ok-lead.lead.pairs c.in-Some.datum.now ≡ Some c.behind.new.room = search rules in
    subst (λ (o : Option Stored). IsKey o c.in-Some.index.now c.in-Some.datum.now c.behind.new.room)
    (sym (read_behind c.args.dataset.now c.args.key.now c.in-Some.index.now c.in-Some.datum.now c.in_ok-lead.lead (sym c.in-Some.ensures) c.in_ok-lead.ensures.lead c.in_ok-lead.ensures.index))
    (ends_behind c.in_ok-lead.lead.pairs c.behind.new.room c.in-Some.index.now c.in-Some.datum.now some)
