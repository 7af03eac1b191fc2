use Rattle.std.proofs.Common.{refl, ap, ◌∙◌, Option}
use Rattle.std.specs.Prelude.{option_map}
use Rattle.fd_entries.specs.declared.table.Entry.{Entry}
use Rattle.fd_disk.specs.declared.file.File.{File}
use Rattle.fd_index.specs.Pages.{index_of}
use Rattle.fd_index.proofs.ReadBack.{reads_back}
use Rattle.fd_segment.proofs.Sealing.{sealed}
use Rattle.fd_segment.proofs.draft.Draft.seal.Goals as goal

pub returns-in-Ok-clause-sealed : goal.returns-in-Ok-clause-sealed
returns-in-Ok-clause-sealed g c = λ b puts.
    sealed _ _ b c.new.result (g.H.File.Disk.file c.self.inside.field_file) (g.H.File.Disk.file c.self.inside.index_file) (index_of c.self.inside.records.records) c.self.view_is puts refl refl
    (c.new.ensures.fields ∙ (c.seal.ensures.bytes ∙ ap (λ (o : Option File). option_map (λ f. f.reads) o) c.in-Ok.ensures.fields))
    (c.new.ensures.index ∙ (c.seal-in-Ok.ensures.bytes ∙ ap (λ (o : Option File). option_map (λ f. f.reads) o) c.in-Ok.ensures.index))
    c.in-Ok.ensures.format
    (reads_back c.self.inside.records.records (index_of c.self.inside.records.records) c.in-Ok.ensures.format)
    (ap (λ (e : Entry). e.fields) c.new.ensures.entry ∙ c.len.ensures.count)
    (ap (λ (e : Entry). e.index_len) c.new.ensures.entry ∙ c.in-Ok.ensures.len)
    (ap (λ (e : Entry). e.fields_len) c.new.ensures.entry)
    (ap (λ (e : Entry). e.digest) c.new.ensures.entry ∙ c.in-Ok.ensures.digest)
