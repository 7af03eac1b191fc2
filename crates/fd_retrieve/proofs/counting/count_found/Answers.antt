use Rattle.std.proofs.Common.{rules, ◌≡◌, List, ℕ, Option, Some, map, subst}
use Rattle.std.specs.Prelude.{IfSome}
use Rattle.std.proofs.lemmas.Result.{IfErr-weaker, IfOk-weaker}
use Rattle.fd_disk.specs.Folders.{WhereTold}
use Rattle.fd_schema.specs.Reading.{seen_place}
use Rattle.fd_spelling.specs.Texts.{texts}
use Rattle.fd_stored.specs.Store.{Stays}
use Rattle.fd_outcome.specs.Trying.{tally_of}
use Rattle.fd_retrieve.specs.Counting.{IsLostIn, IsTally, finds}
use Rattle.fd_retrieve.specs.Open.{table_in}
use Rattle.fd_retrieve.specs.Ready.{AreOpen, IsBrokenOf}
use Rattle.fd_retrieve.specs.Tables.{AreTables, datasets_in}
use Rattle.fd_retrieve.proofs.CountingLemmas.{counted_told, dataset_keys, lost_keys, lost_told, refused_keys, unopened_told}
use Rattle.fd_retrieve.proofs.PrepareLemmas.{broken_all}
use Rattle.fd_retrieve.proofs.counting.count_found.Goals as goal

pub returns-in-Err-open_all-clause-broken : goal.returns-in-Err-open_all-clause-broken
returns-in-Err-open_all-clause-broken g c =
    let has = g.S.Store.has c.args.store.now in
    let names = texts c.in-Ok.names.items in
    let mid = g.S.Store.has c.tables_of.new.store in
    let tables : IfSome has (λ h. AreTables h (datasets_in c.args.places.now) names) = search rules in
    let stays : WhereTold has mid Stays = search rules in
    let broken : IfSome mid (λ h. IsBrokenOf c.in-Err-open_all.stop h names) = search rules in
    unopened_told c.in-Err-open_all.stop has c.args.places.now names tables (broken_all c.in-Err-open_all.stop has mid names stays broken)

pub returns-clause-counted : goal.returns-clause-counted
returns-clause-counted g c =
    let has = g.S.Store.has c.args.store.now in
    let names = texts c.in-Ok.names.items in
    let mid = g.S.Store.has c.tables_of.new.store in
    let opened = c.in-Ok-open_all.opened.items in
    let tables : IfSome has (λ h. AreTables h (datasets_in c.args.places.now) names) = search rules in
    let stays : WhereTold has mid Stays = search rules in
    let opens : IfSome mid (λ h. AreOpen h names opened) = search rules in
    IfOk-weaker c.count_in.result _ _
    (λ r h. counted_told r has mid c.args.places.now names opened stays tables opens (subst (λ os. (xs : List (Option (List ℕ))) → finds (table_in os) (map seen_place c.args.places.now) ≡ Some xs → IsTally r (tally_of xs)) c.deref-2.ensures.value h))
    c.count_in.ensures.counted

pub returns-clause-broken : goal.returns-clause-broken
returns-clause-broken g c =
    let has = g.S.Store.has c.args.store.now in
    let names = texts c.in-Ok.names.items in
    let mid = g.S.Store.has c.tables_of.new.store in
    let opened = c.in-Ok-open_all.opened.items in
    let tables : IfSome has (λ h. AreTables h (datasets_in c.args.places.now) names) = search rules in
    let stays : WhereTold has mid Stays = search rules in
    let opens : IfSome mid (λ h. AreOpen h names opened) = search rules in
    IfErr-weaker c.count_in.result _ _
    (λ e h. lost_told e has mid c.args.places.now names opened stays tables opens (subst (λ os. IsLostIn os e) c.deref-2.ensures.value h))
    c.count_in.ensures.broken

pub returns-clause-of : goal.returns-clause-of
returns-clause-of g c = IfErr-weaker c.count_in.result _ _ (λ e h. lost_keys _ e h) c.count_in.ensures.broken

pub returns-in-Err-clause-of : goal.returns-in-Err-clause-of
returns-in-Err-clause-of g c = refused_keys c.in-Err.stop c.in-Err.ensures.stops

pub returns-in-Err-open_all-clause-of : goal.returns-in-Err-open_all-clause-of
returns-in-Err-open_all-clause-of g c = dataset_keys c.in-Err-open_all.stop c.in-Err-open_all.ensures.of
