use Rattle.std.proofs.Common.{◌≡◌, [], Some, refl, arith}
use Rattle.fd_sections.specs.Splitting.{start}
use Rattle.fd_split.specs.Positions.{at_message}
use Rattle.fd_bulk.proofs.Readings.{begun, ended_at_end, none_behind, some_end, starved}
use Rattle.fd_bulk.proofs.Standing.{causes_end, causes_starved, causes_told}
use Rattle.fd_bulk.proofs.bulk.Terms.deal_input.Goals as goal

pub returns-in_default-clause-deals : goal.returns-in_default-clause-deals
returns-in_default-clause-deals g c =
    starved g.S.Folder.Folder.has g.S.Folder.Shelf.Shelf.kept c.args.self.now.schema.now c.args.self.now.given.now (g.I.Source.left c.args.input.now) (g.S.Store.has c.args.store.now) (g.S.Store.has c.args.store.now) (g.I.Source.left c.args.input.now) c.args.library.now c.args.crew.now.passes.items c.args.crew.now.jobs.items c.args.crew.now.parcels.items (at_message start 0) (begun g.S.Folder.Folder.has g.S.Folder.Shelf.Shelf.kept c.args.self.now.schema.now c.args.self.now.given.now (g.I.Source.left c.args.input.now) (g.S.Store.has c.args.store.now) c.args.library.now c.args.crew.now.passes.items c.args.crew.now.jobs.items c.args.crew.now.parcels.items (at_message start 0) refl c.requires.begun) _ _ (omega arith)

pub end_of-requires : goal.end_of-requires
end_of-requires g c = c.in-Ok-deal_all.ensures.deals.waits

pub returns-in-Ok-deal_all-clause-deals : goal.returns-in-Ok-deal_all-clause-deals
returns-in-Ok-deal_all-clause-deals g c =
    let r = c.in-Ok-deal_all.ensures.deals in
    ended_at_end g.S.Folder.Folder.has g.S.Folder.Shelf.Shelf.kept c.args.self.now.schema.now c.args.self.now.given.now (g.I.Source.left c.args.input.now) (g.S.Store.has c.args.store.now) (g.S.Store.has c.deal_all.new.store) r.mid c.deal_all.new.library c.deal_all.new.crew.passes.items c.deal_all.new.crew.jobs.items c.deal_all.new.crew.parcels.items c.deal_all.new.reader r.midway c.end_of.result r.at_end r.few r.waits c.end_of.ensures (g.I.Source.left c.deal_all.new.input)

pub returns-in-Ok-deal_all-clause-to_end : goal.returns-in-Ok-deal_all-clause-to_end
returns-in-Ok-deal_all-clause-to_end g c =
    let r = c.in-Ok-deal_all.ensures.deals in
    some_end (g.I.Source.left c.args.input.now) (g.I.Source.left c.deal_all.new.input ≡ Some []) c.end_of.result (none_behind g.S.Folder.Folder.has g.S.Folder.Shelf.Shelf.kept c.args.self.now.schema.now c.args.self.now.given.now (g.I.Source.left c.args.input.now) (g.S.Store.has c.args.store.now) (g.S.Store.has c.deal_all.new.store) r.mid c.deal_all.new.library c.deal_all.new.crew.passes.items c.deal_all.new.crew.jobs.items c.deal_all.new.crew.parcels.items c.deal_all.new.reader r.midway (g.I.Source.left c.deal_all.new.input) r.at_end r.nothing)

pub returns-in_default-clause-causes : goal.returns-in_default-clause-causes
returns-in_default-clause-causes g c = causes_starved (g.I.Source.faults c.args.input.now) (g.S.Store.faults c.args.store.now)

pub returns-in-Ok-deal_all-clause-causes : goal.returns-in-Ok-deal_all-clause-causes
returns-in-Ok-deal_all-clause-causes g c = causes_end _ _ _ _ _ c.deal_all.new.reader c.end_of.result c.in-Ok-deal_all.ensures.causes c.end_of.ensures

pub returns-in-Err-clause-causes : goal.returns-in-Err-clause-causes
returns-in-Err-clause-causes g c = causes_told _ _ _ _ c.in-Err.fault c.in-Err.ensures.causes
