use Rattle.std.proofs.Common.{rules, ◌≡◌, ◌∙◌, ℕ, Bool, true, List, [], Option, Some, Ok, Err, length, ap, arith, refl, subst, sym}
use Rattle.std.specs.Prelude.{is_some}
use Rattle.fd_bytes.specs.Causes.{Rose}
use Rattle.fd_disk.specs.Folders.{Holdings}
use Rattle.fd_library.specs.Open.{among}
use Rattle.fd_bulk.proofs.Finishing.{can_end, deals_none, disk_of, few_open, input_of, read_of, starved_first, told, whole}
use Rattle.fd_bulk.proofs.Sparing.{parts_of, parts_spared, same_spared}
use Rattle.fd_bulk.proofs.Standing.{causes_stand, end_stands}
use Rattle.fd_bulk.proofs.bulk.Terms.archive_all.Goals as goal

pub returns-in_default-clause-archived : goal.returns-in_default-clause-archived
returns-in_default-clause-archived g c = starved_first _ g.S.Folder.Folder.has c.args.workers c.args.self.now.schema.now c.args.self.now.given.now (g.I.Source.left c.args.input.now) (g.I.Source.left c.args.input.now) (g.S.Store.has c.args.store.now) c.args.library.now.each c.requires.none.0

pub returns-in_default-clause-spares : goal.returns-in_default-clause-spares
returns-in_default-clause-spares g c = same_spared (g.S.Store.has c.args.store.now)

pub returns-in_default-clause-causes : goal.returns-in_default-clause-causes
returns-in_default-clause-causes g c = record { calm = tt; read = tt; disk = tt; later = omega arith }

pub deal_input-dealt-requires-clause-begun : goal.deal_input-dealt-requires-clause-begun
deal_input-dealt-requires-clause-begun g c κs within =
    let n = c.in-Ok.ensures in
    deals_none g.S.Folder.Folder.has g.S.Folder.Shelf.Shelf.kept (g.S.Store.has c.args.store.now) c.args.workers c.args.library.now c.in-Ok.crew.passes.items c.in-Ok.crew.jobs.items c.in-Ok.crew.parcels.items c.requires.workers.0 c.requires.workers.1 n.workers n.met_none n.none.0 n.none.1 c.requires.none.0 c.requires.none.1

pub store_dealt-stored-requires-clause-dealt : goal.store_dealt-stored-requires-clause-dealt
store_dealt-stored-requires-clause-dealt g c κs within = record {
  rules = c.args.self.now.schema.now;
  given = c.args.self.now.given.now;
  left = g.I.Source.left c.args.input.now;
  after = g.I.Source.left c.deal_input-dealt.new.input;
  start = g.S.Store.has c.args.store.now;
  dealt = c.deal_input-dealt.ensures.deals;
}

pub list_stored-found-requires-clause-stored : goal.list_stored-found-requires-clause-stored
list_stored-found-requires-clause-stored g c κs within = record {
  rules = c.args.self.now.schema.now;
  given = c.args.self.now.given.now;
  left = g.I.Source.left c.args.input.now;
  after = g.I.Source.left c.deal_input-dealt.new.input;
  start = g.S.Store.has c.args.store.now;
  stored = c.store_dealt-stored.ensures.stores c.args.self.now.schema.now c.args.self.now.given.now (g.I.Source.left c.args.input.now) (g.I.Source.left c.deal_input-dealt.new.input) (g.S.Store.has c.args.store.now) c.deal_input-dealt.ensures.deals;
}

pub overflow_cast-datasets : goal.overflow_cast-datasets
overflow_cast-datasets g c =
    let few = few_open g.S.Folder.Folder.has g.S.Folder.Shelf.Shelf.kept c.args.self.now.schema.now c.args.self.now.given.now (g.I.Source.left c.args.input.now) (g.I.Source.left c.deal_input-dealt.new.input) (g.S.Store.has c.args.store.now) (g.S.Store.has c.list_stored-found.new.store) c.deal_input-dealt.new.library c.list_stored-found.new.crew.passes.items c.list_stored-found.new.crew.jobs.items c.list_stored-found.result (c.list_stored-found.ensures.lists c.args.self.now.schema.now c.args.self.now.given.now (g.I.Source.left c.args.input.now) (g.I.Source.left c.deal_input-dealt.new.input) (g.S.Store.has c.args.store.now) (c.store_dealt-stored.ensures.stores c.args.self.now.schema.now c.args.self.now.given.now (g.I.Source.left c.args.input.now) (g.I.Source.left c.deal_input-dealt.new.input) (g.S.Store.has c.args.store.now) c.deal_input-dealt.ensures.deals)) in
    let is : length c.datasets.result.now ≡ length c.deal_input-dealt.new.library.boards = ap length c.datasets.ensures in
    search (rules, few, is)

pub end-requires-clause-can : goal.end-requires-clause-can
end-requires-clause-can g c κs within = can_end g.S.Folder.Folder.has g.S.Folder.Shelf.Shelf.kept c.args.self.now.schema.now c.args.self.now.given.now (g.I.Source.left c.args.input.now) (g.I.Source.left c.deal_input-dealt.new.input) (g.S.Store.has c.args.store.now) (g.S.Store.has c.list_stored-found.new.store) c.deal_input-dealt.new.library c.list_stored-found.new.crew.passes.items c.list_stored-found.new.crew.jobs.items c.list_stored-found.result (c.list_stored-found.ensures.lists c.args.self.now.schema.now c.args.self.now.given.now (g.I.Source.left c.args.input.now) (g.I.Source.left c.deal_input-dealt.new.input) (g.S.Store.has c.args.store.now) (c.store_dealt-stored.ensures.stores c.args.self.now.schema.now c.args.self.now.given.now (g.I.Source.left c.args.input.now) (g.I.Source.left c.deal_input-dealt.new.input) (g.S.Store.has c.args.store.now) c.deal_input-dealt.ensures.deals))

pub returns-in-Ok-found-clause-archived : goal.returns-in-Ok-found-clause-archived
returns-in-Ok-found-clause-archived g c =
    let e = c.end.ensures in
    let counts = c.in-Ok-found.field-0 in
    whole g.S.Folder.Folder.has g.S.Folder.Shelf.Shelf.kept c.args.self.now.schema.now c.args.self.now.given.now (g.I.Source.left c.args.input.now) (g.I.Source.left c.deal_input-dealt.new.input) (g.S.Store.has c.args.store.now) (g.S.Store.has c.list_stored-found.new.store) c.deal_input-dealt.new.library c.list_stored-found.new.crew.passes.items c.list_stored-found.new.crew.jobs.items c.args.workers (c.list_stored-found.ensures.jobs ∙ c.store_dealt-stored.ensures.jobs ∙ c.deal_input-dealt.ensures.jobs ∙ c.in-Ok.ensures.workers) c.end.new.library.each e.grows e.all e.full {Z = g.row.X.Denot} counts (record { fields = counts.fields; datasets = length c.datasets.result.now; junk = counts.junk }) (c.in-Ok-found.ensures.lists c.args.self.now.schema.now c.args.self.now.given.now (g.I.Source.left c.args.input.now) (g.I.Source.left c.deal_input-dealt.new.input) (g.S.Store.has c.args.store.now) (c.store_dealt-stored.ensures.stores c.args.self.now.schema.now c.args.self.now.given.now (g.I.Source.left c.args.input.now) (g.I.Source.left c.deal_input-dealt.new.input) (g.S.Store.has c.args.store.now) c.deal_input-dealt.ensures.deals)) refl refl (ap length c.datasets.ensures)

pub returns-in-Ok-found-clause-spares : goal.returns-in-Ok-found-clause-spares
returns-in-Ok-found-clause-spares g c =
    let each = c.end.new.library.each in
    parts_spared each (g.S.Store.has c.args.store.now) (g.S.Store.has c.list_stored-found.new.store) (parts_of g.S.Folder.Folder.has c.args.workers c.args.self.now.schema.now c.args.self.now.given.now (g.I.Source.left c.args.input.now) (g.I.Source.left c.deal_input-dealt.new.input) (g.S.Store.has c.args.store.now) (g.S.Store.has c.list_stored-found.new.store) each {X = g.row.X.Denot} (Ok (record { fields = c.in-Ok-found.field-0.fields; datasets = length c.datasets.result.now; junk = c.in-Ok-found.field-0.junk })) (returns-in-Ok-found-clause-archived g c))

pub returns-in-Ok-found-clause-to_end : goal.returns-in-Ok-found-clause-to_end
returns-in-Ok-found-clause-to_end g c =
    let left = g.I.Source.left c.args.input.now in
    let e = g.I.Source.left c.deal_input-dealt.new.input ≡ Some [] in
    end_stands left e _ _ c.store_dealt-stored.result (Ok c.in-Ok-found.field-0) c.in-Ok-found.ensures.stands
    (end_stands left e _ _ c.deal_input-dealt.result c.store_dealt-stored.result c.store_dealt-stored.ensures.stands c.deal_input-dealt.ensures.to_end)

pub returns-in-Ok-found-clause-causes : goal.returns-in-Ok-found-clause-causes
returns-in-Ok-found-clause-causes g c =
    let h = causes_stand _ _ _ _ _ c.store_dealt-stored.result (Ok c.in-Ok-found.field-0)
    (causes_stand _ _ _ _ _ c.deal_input-dealt.result c.store_dealt-stored.result c.deal_input-dealt.ensures.causes c.store_dealt-stored.ensures.stands) c.in-Ok-found.ensures.stands in
    record { calm = h.calm; read = tt; disk = tt; later = h.later }

pub returns-clause-archived : goal.returns-clause-archived
returns-clause-archived g c =
    let e = c.end.ensures in
    told g.S.Folder.Folder.has g.S.Folder.Shelf.Shelf.kept c.args.self.now.schema.now c.args.self.now.given.now (g.I.Source.left c.args.input.now) (g.I.Source.left c.deal_input-dealt.new.input) (g.S.Store.has c.args.store.now) (g.S.Store.has c.list_stored-found.new.store) c.deal_input-dealt.new.library c.list_stored-found.new.crew.passes.items c.list_stored-found.new.crew.jobs.items c.args.workers (c.list_stored-found.ensures.jobs ∙ c.store_dealt-stored.ensures.jobs ∙ c.deal_input-dealt.ensures.jobs ∙ c.in-Ok.ensures.workers) c.end.new.library.each e.grows e.all e.full c.in-Err.fault (c.in-Err.ensures.lists c.args.self.now.schema.now c.args.self.now.given.now (g.I.Source.left c.args.input.now) (g.I.Source.left c.deal_input-dealt.new.input) (g.S.Store.has c.args.store.now) (c.store_dealt-stored.ensures.stores c.args.self.now.schema.now c.args.self.now.given.now (g.I.Source.left c.args.input.now) (g.I.Source.left c.deal_input-dealt.new.input) (g.S.Store.has c.args.store.now) c.deal_input-dealt.ensures.deals))

pub returns-clause-spares : goal.returns-clause-spares
returns-clause-spares g c =
    let each = c.end.new.library.each in
    parts_spared each (g.S.Store.has c.args.store.now) (g.S.Store.has c.list_stored-found.new.store) (parts_of g.S.Folder.Folder.has c.args.workers c.args.self.now.schema.now c.args.self.now.given.now (g.I.Source.left c.args.input.now) (g.I.Source.left c.deal_input-dealt.new.input) (g.S.Store.has c.args.store.now) (g.S.Store.has c.list_stored-found.new.store) each {X = g.row.X.Denot} (Err c.in-Err.fault) (returns-clause-archived g c))

pub returns-clause-causes : goal.returns-clause-causes
returns-clause-causes g c =
    let h = causes_stand _ _ _ _ _ c.store_dealt-stored.result (Err c.in-Err.fault)
    (causes_stand _ _ _ _ _ c.deal_input-dealt.result c.store_dealt-stored.result c.deal_input-dealt.ensures.causes c.store_dealt-stored.ensures.stands) c.in-Err.ensures.stands in
    record {
      calm = read_of (g.I.Source.faults c.deal_input-dealt.new.input ≡ g.I.Source.faults c.args.input.now) c.in-Err.fault h.read_quiet;
      read = input_of (Rose (g.I.Source.faults c.args.input.now) (g.I.Source.faults c.deal_input-dealt.new.input)) c.in-Err.fault h.read;
      disk = disk_of (Rose (g.S.Store.faults c.args.store.now) (g.S.Store.faults c.list_stored-found.new.store)) c.in-Err.fault h.cause;
      later = h.later;
    }

pub returns-in-Ok-found-clause-out : goal.returns-in-Ok-found-clause-out
returns-in-Ok-found-clause-out g c = λ n is.
    subst (λ (ns : List (List ℕ)). among n ns ≡ true) (sym c.end.ensures.names)
    (c.deal_input-dealt.ensures.out n (subst (λ (out : List ℕ → Bool). out n ≡ true) (c.list_stored-found.ensures.out ∙ c.store_dealt-stored.ensures.out) is))

pub returns-in-Ok-found-clause-told : goal.returns-in-Ok-found-clause-told
returns-in-Ok-found-clause-told g c = ap (λ (h : Option Holdings). is_some h) (c.list_stored-found.ensures.has ∙ c.store_dealt-stored.ensures.has) ∙ c.deal_input-dealt.ensures.told

pub returns-clause-out : goal.returns-clause-out
returns-clause-out g c = λ n is.
    subst (λ (ns : List (List ℕ)). among n ns ≡ true) (sym c.end.ensures.names)
    (c.deal_input-dealt.ensures.out n (subst (λ (out : List ℕ → Bool). out n ≡ true) (c.list_stored-found.ensures.out ∙ c.store_dealt-stored.ensures.out) is))

pub returns-clause-told : goal.returns-clause-told
returns-clause-told g c = ap (λ (h : Option Holdings). is_some h) (c.list_stored-found.ensures.has ∙ c.store_dealt-stored.ensures.has) ∙ c.deal_input-dealt.ensures.told

pub returns-clause-to_end : goal.returns-clause-to_end
returns-clause-to_end g c =
    let left = g.I.Source.left c.args.input.now in
    let e = g.I.Source.left c.deal_input-dealt.new.input ≡ Some [] in
    end_stands left e _ _ c.store_dealt-stored.result (Err c.in-Err.fault) c.in-Err.ensures.stands
    (end_stands left e _ _ c.deal_input-dealt.result c.store_dealt-stored.result c.store_dealt-stored.ensures.stands c.deal_input-dealt.ensures.to_end)
