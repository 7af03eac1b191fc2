use Rattle.std.proofs.Common.{◌≡◌, ◌∙◌, sym, subst, map, string_bytes}
use Rattle.std.proofs.lemmas.List.{length-map}
use Rattle.fd_io.specs.Streams.{Takes, TakesFront}
use Rattle.fd_segment.specs.Held.{Standing}
use Rattle.fd_inventory.specs.Counted.{AreKeys}
use Rattle.fd_outcome.specs.Rows.{keys_in, stats_text}
use Rattle.fd_inventory.proofs.Counts.{are_stats}
use Rattle.fd_inventory.proofs.Recording.{of_told, text_by}
use Rattle.fd_inventory.proofs.counting.stats.Goals as goal

pub returns-in-Ok-write_all-clause-took : goal.returns-in-Ok-write_all-clause-took
returns-in-Ok-write_all-clause-took g c = λ t tells.
    let es = map (λ (s : Standing). s.files.entry) c.args.snapshot.now in
    let line : string_bytes c.in-Ok-line_of.line ≡ stats_text c.args.dataset.now es t =
    c.in-Ok-line_of.ensures ∙ are_stats c.args.dataset.now es t c.in-Ok.keys.entries c.len.result c.sums-fields.result.0 c.len-2.result c.sums-fields.result.1
    (c.len.ensures.count ∙ sym (length-map c.args.snapshot.now (λ (s : Standing). s.files.entry))) c.sums-fields.ensures.fields c.sums-fields.ensures.bytes c.len-2.ensures.len (of_told c.args.snapshot.now (λ t. AreKeys c.in-Ok.keys.entries (keys_in t)) c.in-Ok.ensures.keys t tells) in
    subst (Takes (g.K.Sink.taken c.args.sink.now) (g.K.Sink.taken c.write_all.new.sink)) (c.as_bytes.ensures.value ∙ line) c.in-Ok-write_all.ensures.took

pub returns-in-Ok-write_all-clause-recorded : goal.returns-in-Ok-write_all-clause-recorded
returns-in-Ok-write_all-clause-recorded g c =
    let es = map (λ (s : Standing). s.files.entry) c.args.snapshot.now in
    let x = c.as_bytes.result.now in (
      x,
      text_by (stats_text c.args.dataset.now es) c.args.snapshot.now x (λ t. AreKeys c.in-Ok.keys.entries (keys_in t)) c.in-Ok.ensures.keys
          (λ t are. c.as_bytes.ensures.value ∙ c.in-Ok-line_of.ensures ∙ are_stats c.args.dataset.now es t c.in-Ok.keys.entries c.len.result c.sums-fields.result.0 c.len-2.result c.sums-fields.result.1
          (c.len.ensures.count ∙ sym (length-map c.args.snapshot.now (λ (s : Standing). s.files.entry))) c.sums-fields.ensures.fields c.sums-fields.ensures.bytes c.len-2.ensures.len are),
      c.in-Ok-write_all.ensures.took,
    )

pub returns-clause-front : goal.returns-clause-front
returns-clause-front g c = λ t tells.
    let es = map (λ (s : Standing). s.files.entry) c.args.snapshot.now in
    let line : string_bytes c.in-Ok-line_of.line ≡ stats_text c.args.dataset.now es t =
    c.in-Ok-line_of.ensures ∙ are_stats c.args.dataset.now es t c.in-Ok.keys.entries c.len.result c.sums-fields.result.0 c.len-2.result c.sums-fields.result.1
    (c.len.ensures.count ∙ sym (length-map c.args.snapshot.now (λ (s : Standing). s.files.entry))) c.sums-fields.ensures.fields c.sums-fields.ensures.bytes c.len-2.ensures.len (of_told c.args.snapshot.now (λ t. AreKeys c.in-Ok.keys.entries (keys_in t)) c.in-Ok.ensures.keys t tells) in
    subst (TakesFront (g.K.Sink.taken c.args.sink.now) (g.K.Sink.taken c.write_all.new.sink)) (c.as_bytes.ensures.value ∙ line) c.in-Err-write_all.ensures.front
