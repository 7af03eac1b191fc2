use Rattle.std.proofs.Common.{◌<◌, ◌∙◌, List, length, ap, subst, arith}
use Rattle.std.proofs.lemmas.List.{length-map}
use Rattle.fd_index.specs.Held.{Held}
use Rattle.fd_index.specs.Records.{Record}
use Rattle.fd_index.specs.Position.{HasKeyAt}
use Rattle.fd_index.specs.Slots.{record_of, records_of}
use Rattle.fd_index.proofs.Placing.{key_there}
use Rattle.fd_index.proofs.builder.IndexBuilder.key_at.Goals as goal

pub returns : goal.returns
returns c =
    let p = c.self.inside in
    let within : c.args.i < length p.slots.items = omega (arith, c.requires, ap (λ (h : Held). length h.records) c.self.view_is, length-map p.slots.items (record_of p.texts.texts)) in
    subst (λ (h : Held). HasKeyAt h.records c.args.i c.text.result.now) c.self.view_is
    (key_there p.texts.texts p.slots.items c.args.i c.index.result.now c.text.result.now within c.index.ensures c.text.ensures)
