use Rattle.std.proofs.Common.{rules, arith, ◌≡◌, ◌∙◌, ◌++◌, ◌∷◌, [], ℕ, List, All, Some, is_some, ap, sym, subst, length, slice_get}
use Rattle.std.specs.Prelude.{IsSome}
use Rattle.std.proofs.lemmas.List.Elements.{All-nil, All-cons}
use Rattle.fd_archiver.specs.Writing.{Writing}
use Rattle.fd_library.specs.Open.{OpenDataset, among, names_of}
use Rattle.fd_play.proofs.Handing.{all_middle, halfway_more, halfway_none, handed_back, no_elements}
use Rattle.fd_play.proofs.Staffing.{sole_same}
use Rattle.fd_play.proofs.staff.hand_back.Goals as goal

pub loop-archiver-init : goal.loop-archiver-init
loop-archiver-init g c = λ b h s lent. halfway_none g.S.Folder.Folder.has g.S.Folder.Shelf.Shelf.kept b h c.args.library c.args.archivers.items s lent

pub take_back-requires-after_bounds : goal.take_back-requires-after_bounds
take_back-requires-after_bounds g c κs within =
    let r = c.requires.sole in
    let hw = c.loop-archiver.invariant r.0 r.1 r.2 r.4 in
    let ws = c.pop.new.self.items in
    let w = c.in-Some.archiver in
    let popped : c.loop-archiver.archivers.items ≡ ws ++ w ∷ [] = search rules in (
      hw.now,
      ap (λ (hs : List (OpenDataset g.row.S-Folder.Denot)). slice_get hs 0) hw.sole.each,
      all_middle (λ (x : Writing g.row.S-Folder-Shelf.Denot). x.dataset ≡ r.1.name) c.args.archivers.items c.loop-archiver.archivers.items ws hw.done w popped hw.every_is r.5 ∙ sym hw.name,
    )

pub loop-archiver-preserved : goal.loop-archiver-preserved
loop-archiver-preserved g c = λ b h s lent.
    let ws = c.pop.new.self.items in
    let w = c.in-Some.archiver in
    let popped : c.loop-archiver.archivers.items ≡ ws ++ w ∷ [] = search rules in
    halfway_more g.S.Folder.Folder.has g.S.Folder.Shelf.Shelf.kept g.S.Folder.Folder.faults b h c.loop-archiver.library c.take_back.new.self c.args.archivers.items c.loop-archiver.archivers.items ws w popped (c.loop-archiver.invariant b h s lent) c.take_back.ensures.took

pub give_back-requires-clause-seated : goal.give_back-requires-clause-seated
give_back-requires-clause-seated g c κs within =
    let r = c.requires.sole in
    let hw = c.loop-archiver.invariant r.0 r.1 r.2 r.4 in
    let some : IsSome hw.now.pass = ap is_some hw.pass ∙ r.3 in
    subst (λ (hs : List (OpenDataset g.row.S-Folder.Denot)). All (λ (h : OpenDataset g.row.S-Folder.Denot). IsSome h.pass) hs) (sym hw.sole.each) (All-cons (λ (h : OpenDataset g.row.S-Folder.Denot). IsSome h.pass) hw.now [] some (All-nil (λ (h : OpenDataset g.row.S-Folder.Denot). IsSome h.pass)))

pub give_back-requires-clause-none : goal.give_back-requires-clause-none
give_back-requires-clause-none g c κs within =
    let r = c.requires.sole in
    let hw = c.loop-archiver.invariant r.0 r.1 r.2 r.4 in
    let zero : length c.loop-archiver.archivers.items ≡ 0 = search rules in
    subst (λ (hs : List (OpenDataset g.row.S-Folder.Denot)). All (λ (h : OpenDataset g.row.S-Folder.Denot). h.lent ≡ 0) hs) (sym hw.sole.each) (All-cons (λ (h : OpenDataset g.row.S-Folder.Denot). h.lent ≡ 0) hw.now [] (hw.lent ∙ zero) (All-nil (λ (h : OpenDataset g.row.S-Folder.Denot). h.lent ≡ 0)))

pub give_back-requires-clause-out : goal.give_back-requires-clause-out
give_back-requires-clause-out g c κs within = λ n is.
    let r = c.requires.sole in
    let hw = c.loop-archiver.invariant r.0 r.1 r.2 r.4 in
    let names : names_of c.loop-archiver.library.each ≡ names_of c.args.library.each = ap names_of hw.sole.each ∙ (ap (λ (m : List ℕ). m ∷ []) hw.name ∙ sym (ap names_of r.2.each)) in
    ap (among n) names ∙ c.requires.out n is

pub returns-clause-back : goal.returns-clause-back
returns-clause-back g c = λ b h s.
    let r = c.requires.sole in
    let same = sole_same c.args.library r.0 b r.1 h r.2 s in
    let lent : h.lent ≡ length c.args.archivers.items = ap (λ (d : OpenDataset g.row.S-Folder.Denot). d.lent) (sym same) ∙ r.4 in
    let zero : length c.loop-archiver.archivers.items ≡ 0 = search rules in
    handed_back g.S.Folder.Folder.has g.S.Folder.Shelf.Shelf.kept b h c.loop-archiver.library c.args.archivers.items c.loop-archiver.archivers.items (g.S.Store.has c.args.store.now) (g.S.Store.has c.give_back.new.store)
    (c.loop-archiver.invariant b h s lent) (no_elements c.loop-archiver.archivers.items zero) c.give_back.ensures.given c.give_back.ensures.kept
