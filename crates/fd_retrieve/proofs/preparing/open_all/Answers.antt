use Rattle.std.proofs.Common.{rules, ◌≡◌, ◌∷◌, [], IfSome, string_bytes, subst, sym, arith, take}
use Rattle.std.proofs.lemmas.List.{length-map}
use Rattle.fd_disk.specs.Folders.{folder_at}
use Rattle.fd_recovery.specs.Crashing.{IsFirmTable}
use Rattle.fd_recovery.specs.Recovered.{IsUndamaged}
use Rattle.fd_spelling.specs.Texts.{texts}
use Rattle.fd_retrieve.specs.Ready.{AreFirmOf, AreOpen, IsBrokenOf, MayOpen, NoneIsDamaged}
use Rattle.fd_retrieve.proofs.Firmly.{firm_told_more}
use Rattle.fd_retrieve.proofs.Looking.{looked_both}
use Rattle.fd_retrieve.proofs.Staying.{told_both}
use Rattle.fd_retrieve.proofs.PrepareLemmas.{among_one_of, broken_told, none_told_more, open_told_more, take_end, take_more}
use Rattle.fd_retrieve.proofs.preparing.open_all.Goals as goal

pub returns-in-Err-clause-broken : goal.returns-in-Err-clause-broken
returns-in-Err-clause-broken g c =
    let text : c.deref.result.now ≡ string_bytes c.index-names-i.result = search rules in
    broken_told c.in-Err.stop (g.S.Store.has c.args.store.now) (g.S.Store.has c.loop-i.store) (string_bytes c.index-names-i.result ∷ []) (texts c.args.names.now) c.loop-i.invariant.stays
    (among_one_of string_bytes c.args.names.now c.loop-i.i c.index-names-i.result (omega (arith, c.loop-i-test.true)) c.index-names-i.is) (subst (λ n. IfSome (g.S.Store.has c.loop-i.store) (λ h. IsBrokenOf c.in-Err.stop h (n ∷ []))) text c.in-Err.ensures.broken)

pub loop-i-preserved : goal.loop-i-preserved
loop-i-preserved g c =
    let more = take_more string_bytes c.args.names.now c.loop-i.i c.index-names-i.result (omega (arith, c.loop-i-test.true)) c.index-names-i.is in
    let text : c.deref.result.now ≡ string_bytes c.index-names-i.result = search rules in
    let later = c.open_more.ensures.later in
    let before = c.loop-i.invariant.later in
    record {
      home = c.open_more.ensures.home;
      stays = told_both (g.S.Store.has c.args.store.now) (g.S.Store.has c.loop-i.store) (g.S.Store.has c.open_more.new.store) c.loop-i.invariant.stays c.open_more.ensures.stays;
      looks = looked_both (g.S.Store.has c.args.store.now) (g.S.Store.has c.loop-i.store) (g.S.Store.has c.open_more.new.store) c.loop-i.invariant.looks c.open_more.ensures.looks;
      opened = subst (λ l. IfSome (g.S.Store.has c.args.store.now) (λ h. AreOpen h l c.open_more.new.opened.items)) (sym more)
          (open_told_more (g.S.Store.has c.args.store.now) (g.S.Store.has c.loop-i.store) (take c.loop-i.i (texts c.args.names.now)) c.loop-i.opened.items c.open_more.new.opened.items (string_bytes c.index-names-i.result) c.loop-i.invariant.stays c.loop-i.invariant.opened (subst (λ n. IfSome (g.S.Store.has c.loop-i.store) (λ h. MayOpen h c.loop-i.opened.items n c.open_more.new.opened.items)) text c.in-Ok.ensures.opened));
      undamaged = subst (λ l. IfSome (g.S.Store.has c.args.store.now) (λ h. NoneIsDamaged h l)) (sym more)
          (none_told_more (g.S.Store.has c.args.store.now) (g.S.Store.has c.loop-i.store) (take c.loop-i.i (texts c.args.names.now)) (string_bytes c.index-names-i.result) c.loop-i.invariant.stays c.loop-i.invariant.undamaged (subst (λ n. IfSome (g.S.Store.has c.loop-i.store) (λ h. IsUndamaged n (folder_at h n))) text c.in-Ok.ensures.undamaged));
      firm = subst (λ l. IfSome (g.S.Store.has c.open_more.new.store) (λ i. AreFirmOf i l)) (sym more)
          (firm_told_more (g.S.Store.has c.loop-i.store) (g.S.Store.has c.open_more.new.store) (take c.loop-i.i (texts c.args.names.now)) (string_bytes c.index-names-i.result) c.open_more.ensures.looks c.loop-i.invariant.firm
          (subst (λ n. IfSome (g.S.Store.has c.open_more.new.store) (λ i. IsFirmTable (folder_at i n).table)) text c.in-Ok.ensures.firm));
      later = omega (arith, later, before);
    }

pub returns-clause-opened : goal.returns-clause-opened
returns-clause-opened g c =
    let long = length-map c.args.names.now string_bytes in
    subst (λ l. IfSome (g.S.Store.has c.args.store.now) (λ h. AreOpen h l c.loop-i.opened.items)) (take_end (texts c.args.names.now) c.loop-i.i (omega (arith, long, c.loop-i-test.false))) c.loop-i.invariant.opened

pub returns-clause-undamaged : goal.returns-clause-undamaged
returns-clause-undamaged g c =
    let long = length-map c.args.names.now string_bytes in
    subst (λ l. IfSome (g.S.Store.has c.args.store.now) (λ h. NoneIsDamaged h l)) (take_end (texts c.args.names.now) c.loop-i.i (omega (arith, long, c.loop-i-test.false))) c.loop-i.invariant.undamaged

pub returns-clause-firm : goal.returns-clause-firm
returns-clause-firm g c =
    let long = length-map c.args.names.now string_bytes in
    subst (λ l. IfSome (g.S.Store.has c.loop-i.store) (λ i. AreFirmOf i l)) (take_end (texts c.args.names.now) c.loop-i.i (omega (arith, long, c.loop-i-test.false))) c.loop-i.invariant.firm
