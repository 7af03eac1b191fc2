use Rattle.std.proofs.Common.{rules, ◌≡◌, ◌∷◌, [], IfSome, string_bytes, subst, sym, arith, take}
use Rattle.std.proofs.lemmas.List.{length-map}
use Rattle.fd_disk.specs.Folders.{folder_at}
use Rattle.fd_recovery.specs.Recovered.{IsUndamaged}
use Rattle.fd_spelling.specs.Texts.{texts}
use Rattle.fd_retrieve.specs.Ready.{IsBrokenOf, NoneIsDamaged}
use Rattle.fd_retrieve.proofs.PrepareLemmas.{among_one_of, broken_told, none_told_more, take_end, take_more}
use Rattle.fd_retrieve.proofs.Looking.{looked_both}
use Rattle.fd_contents.specs.Gathering.{FindsIn}
use Rattle.fd_contents.proofs.Looked.{stays_looked}
use Rattle.fd_contents.proofs.Gathered.{Gathered, one_gathered}
use Rattle.fd_contents.proofs.gathering.keys_in_each.Goals as goal

pub returns-in-Err-clause-broken : goal.returns-in-Err-clause-broken
returns-in-Err-clause-broken g c =
    let text : c.deref.result.now ≡ string_bytes c.index-names-i.result = search rules in
    broken_told c.in-Err.stop (g.S.Store.has c.args.store.now) (g.S.Store.has c.loop-i.store) (string_bytes c.index-names-i.result ∷ []) (texts c.args.names.now) (stays_looked (g.S.Store.has c.args.store.now) (g.S.Store.has c.loop-i.store) c.loop-i.invariant.looks)
    (among_one_of string_bytes c.args.names.now c.loop-i.i c.index-names-i.result (omega (arith, c.loop-i-test.true)) c.index-names-i.is)
    (subst (λ n. IfSome (g.S.Store.has c.loop-i.store) (λ h. IsBrokenOf c.in-Err.stop h (n ∷ []))) text c.in-Err.ensures.broken)

pub loop-i-preserved : goal.loop-i-preserved
loop-i-preserved g c =
    let more = take_more string_bytes c.args.names.now c.loop-i.i c.index-names-i.result (omega (arith, c.loop-i-test.true)) c.index-names-i.is in
    let text : c.deref.result.now ≡ string_bytes c.index-names-i.result = search rules in
    let later = c.keys_in.ensures.later in
    let before = c.loop-i.invariant.later in
    record {
      home = c.keys_in.ensures.home;
      looks = looked_both (g.S.Store.has c.args.store.now) (g.S.Store.has c.loop-i.store) (g.S.Store.has c.keys_in.new.store) c.loop-i.invariant.looks c.keys_in.ensures.looks;
      found = subst (λ l. Gathered c.args.partial.now (g.S.Store.has c.args.store.now) l c.in-Ok.more) (sym more)
          (one_gathered c.args.partial.now (g.S.Store.has c.args.store.now) (g.S.Store.has c.loop-i.store) (take c.loop-i.i (texts c.args.names.now)) (string_bytes c.index-names-i.result) c.loop-i.found c.in-Ok.more c.loop-i.invariant.looks c.loop-i.invariant.found
          (subst (λ n. IfSome (g.S.Store.has c.loop-i.store) (λ h. FindsIn c.args.partial.now h n c.loop-i.found c.in-Ok.more)) text c.in-Ok.ensures.found));
      undamaged = subst (λ l. IfSome (g.S.Store.has c.args.store.now) (λ h. NoneIsDamaged h l)) (sym more)
          (none_told_more (g.S.Store.has c.args.store.now) (g.S.Store.has c.loop-i.store) (take c.loop-i.i (texts c.args.names.now)) (string_bytes c.index-names-i.result) (stays_looked (g.S.Store.has c.args.store.now) (g.S.Store.has c.loop-i.store) c.loop-i.invariant.looks) c.loop-i.invariant.undamaged
          (subst (λ n. IfSome (g.S.Store.has c.loop-i.store) (λ h. IsUndamaged n (folder_at h n))) text c.in-Ok.ensures.undamaged));
      later = omega (arith, later, before);
    }

pub returns-clause-found : goal.returns-clause-found
returns-clause-found g c =
    let long = length-map c.args.names.now string_bytes in
    subst (λ l. Gathered c.args.partial.now (g.S.Store.has c.args.store.now) l c.loop-i.found) (take_end (texts c.args.names.now) c.loop-i.i (omega (arith, long, c.loop-i-test.false))) c.loop-i.invariant.found

pub returns-clause-undamaged : goal.returns-clause-undamaged
returns-clause-undamaged g c =
    let long = length-map c.args.names.now string_bytes in
    subst (λ l. IfSome (g.S.Store.has c.args.store.now) (λ h. NoneIsDamaged h l)) (take_end (texts c.args.names.now) c.loop-i.i (omega (arith, long, c.loop-i-test.false))) c.loop-i.invariant.undamaged
