use Rattle.std.proofs.Common.{rules, ◌≡◌, ◌≤◌, ◌<◌, filter, subst, IfSome, Ok, length, string_bytes, arith}
use Rattle.std.proofs.lemmas.List.{length-map}
use Rattle.fd_disk.specs.Folders.{WhereTold}
use Rattle.fd_request.specs.Expansion.{expand}
use Rattle.fd_spelling.specs.Texts.{texts}
use Rattle.fd_stored.specs.Distinct.{count_distinct}
use Rattle.fd_stored.specs.Store.{Stays, has_table}
use Rattle.fd_telling.specs.Stops.{OnTooMany}
use Rattle.fd_retrieve.specs.Ready.{AreFirmOf, AreOpen, IsBrokenOf, NoneIsDamaged, asked_at, placed_of}
use Rattle.fd_retrieve.specs.Tables.{AreTables, datasets_in}
use Rattle.fd_retrieve.proofs.Firmly.{firm_all}
use Rattle.fd_retrieve.proofs.Looking.{looked_both, looked_unmoved}
use Rattle.fd_retrieve.proofs.PrepareLemmas.{broken_all, broken_told_says, many_of, many_told_says, ready_told}
use Rattle.fd_retrieve.proofs.preparing.prepared.Goals as goal

pub returns-in-Err-tables_of-clause-says : goal.returns-in-Err-tables_of-clause-says
returns-in-Err-tables_of-clause-says g c =
    let has = g.S.Store.has c.args.store.now in
    let left = g.I.Source.left c.args.input.now in
    let request = c.in-Ok.pair.0 in
    let places = c.in-Ok.pair.1.items in
    let long : length places ≡ length (expand request) = search rules in
    let is : IfSome has (λ h. IfSome left (λ octets. placed_of h octets ≡ Ok (asked_at request places))) = search rules in
    many_told_says c.in-Err-tables_of.stop has left request places long is c.in-Err-tables_of.ensures.stops (many_of c.in-Err-tables_of.stop (g.S.Store.has c.placed.new.store) has (datasets_in places) (search rules) (subst (λ ps. OnTooMany c.in-Err-tables_of.stop (IfSome (g.S.Store.has c.placed.new.store) (λ h. 2048 < count_distinct (filter (has_table h) (datasets_in ps))))) c.deref.ensures.value c.in-Err-tables_of.ensures.too_many))

pub returns-in-Ok-open_all-clause-prepared : goal.returns-in-Ok-open_all-clause-prepared
returns-in-Ok-open_all-clause-prepared g c =
    let has = g.S.Store.has c.args.store.now in
    let left = g.I.Source.left c.args.input.now in
    let request = c.in-Ok.pair.0 in
    let places = c.in-Ok.pair.1.items in
    let names = texts c.in-Ok-tables_of.names.items in
    let mid = g.S.Store.has c.tables_of.new.store in
    let long : length places ≡ length (expand request) = search rules in
    let is : IfSome has (λ h. IfSome left (λ octets. placed_of h octets ≡ Ok (asked_at request places))) = search rules in
    let tables : IfSome has (λ h. AreTables h (datasets_in places) names) = search rules in
    let few : length names ≤ 2048 = omega (arith, length-map c.in-Ok-tables_of.names.items string_bytes, c.in-Ok-tables_of.ensures.few) in
    let stays : WhereTold has mid Stays = search rules in
    let opens : IfSome mid (λ h. AreOpen h names c.in-Ok-open_all.opened.items) = search rules in
    let sound : IfSome mid (λ h. NoneIsDamaged h names) = search rules in
    ready_told has mid left request places names c.in-Ok-open_all.opened.items long is tables few stays opens sound

pub returns-in-Err-open_all-clause-says : goal.returns-in-Err-open_all-clause-says
returns-in-Err-open_all-clause-says g c =
    let has = g.S.Store.has c.args.store.now in
    let left = g.I.Source.left c.args.input.now in
    let request = c.in-Ok.pair.0 in
    let places = c.in-Ok.pair.1.items in
    let names = texts c.in-Ok-tables_of.names.items in
    let mid = g.S.Store.has c.tables_of.new.store in
    let long : length places ≡ length (expand request) = search rules in
    let is : IfSome has (λ h. IfSome left (λ octets. placed_of h octets ≡ Ok (asked_at request places))) = search rules in
    let tables : IfSome has (λ h. AreTables h (datasets_in places) names) = search rules in
    let few : length names ≤ 2048 = omega (arith, length-map c.in-Ok-tables_of.names.items string_bytes, c.in-Ok-tables_of.ensures.few) in
    let stays : WhereTold has mid Stays = search rules in
    let broken : IfSome mid (λ h. IsBrokenOf c.in-Err-open_all.stop h names) = search rules in
    broken_told_says c.in-Err-open_all.stop has left request places names long is tables few (broken_all c.in-Err-open_all.stop has mid names stays broken)

pub returns-in-Err-tables_of-clause-looks : goal.returns-in-Err-tables_of-clause-looks
returns-in-Err-tables_of-clause-looks g c =
    let old = g.S.Store.has c.args.store.now in
    let mid = g.S.Store.has c.placed.new.store in
    let same : mid ≡ old = search rules in
    looked_both old mid (g.S.Store.has c.tables_of.new.store) (looked_unmoved old mid same) c.in-Err-tables_of.ensures.looks

pub returns-in-Ok-open_all-clause-looks : goal.returns-in-Ok-open_all-clause-looks
returns-in-Ok-open_all-clause-looks g c =
    let old = g.S.Store.has c.args.store.now in
    let mid = g.S.Store.has c.placed.new.store in
    let same : mid ≡ old = search rules in
    let tables = looked_both old mid (g.S.Store.has c.tables_of.new.store) (looked_unmoved old mid same) c.in-Ok-tables_of.ensures.looks in
    looked_both old (g.S.Store.has c.tables_of.new.store) (g.S.Store.has c.open_all.new.store) tables c.in-Ok-open_all.ensures.looks

pub returns-in-Err-open_all-clause-looks : goal.returns-in-Err-open_all-clause-looks
returns-in-Err-open_all-clause-looks g c =
    let old = g.S.Store.has c.args.store.now in
    let mid = g.S.Store.has c.placed.new.store in
    let same : mid ≡ old = search rules in
    let tables = looked_both old mid (g.S.Store.has c.tables_of.new.store) (looked_unmoved old mid same) c.in-Ok-tables_of.ensures.looks in
    looked_both old (g.S.Store.has c.tables_of.new.store) (g.S.Store.has c.open_all.new.store) tables c.in-Err-open_all.ensures.looks

pub returns-in-Err-clause-looks : goal.returns-in-Err-clause-looks
returns-in-Err-clause-looks g c = looked_unmoved (g.S.Store.has c.args.store.now) (g.S.Store.has c.placed.new.store) c.in-Err.ensures.has

pub returns-in-Ok-open_all-clause-firm : goal.returns-in-Ok-open_all-clause-firm
returns-in-Ok-open_all-clause-firm g c =
    let old = g.S.Store.has c.args.store.now in
    let mid = g.S.Store.has c.placed.new.store in
    let new = g.S.Store.has c.open_all.new.store in
    let places = c.in-Ok.pair.1.items in
    let names = texts c.in-Ok-tables_of.names.items in
    let same : mid ≡ old = search rules in
    let tables : IfSome old (λ h. AreTables h (datasets_in places) names) = search rules in
    let looks = looked_both old (g.S.Store.has c.tables_of.new.store) new (looked_both old mid (g.S.Store.has c.tables_of.new.store) (looked_unmoved old mid same) c.in-Ok-tables_of.ensures.looks) c.in-Ok-open_all.ensures.looks in
    let firm : IfSome new (λ i. AreFirmOf i names) = search rules in
    firm_all old new (datasets_in places) names looks tables firm
