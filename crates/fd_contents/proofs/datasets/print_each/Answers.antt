use Rattle.std.proofs.Common.{rules, ◌≡◌, ◌∙◌, ◌+◌, ◌∷◌, [], IfSome, List, ℕ, Some, string_bytes, subst, sym, arith, take, drop}
use Rattle.std.proofs.lemmas.List.{length-map}
use Rattle.fd_io.specs.Streams.{TakesFront}
use Rattle.fd_spelling.specs.Texts.{texts}
use Rattle.fd_disk.specs.Folders.{folder_at}
use Rattle.fd_recovery.specs.Crashing.{IsFirmTable}
use Rattle.fd_retrieve.specs.Ready.{AreFirmOf, IsBrokenOf}
use Rattle.fd_retrieve.proofs.Firmly.{firm_told_more}
use Rattle.fd_retrieve.proofs.PrepareLemmas.{among_one_of, broken_told, take_end, take_more}
use Rattle.fd_retrieve.proofs.Looking.{looked_both}
use Rattle.fd_contents.specs.Printed.{IsPrinted}
use Rattle.fd_contents.specs.Texts.{text_for, texts_for}
use Rattle.fd_contents.proofs.Looked.{stays_looked}
use Rattle.fd_contents.proofs.Opened.{on_stop}
use Rattle.fd_contents.proofs.Printing.{Printed, one_more, took_so_far}
use Rattle.fd_contents.proofs.Texts.{cut_at, split_at}
use Rattle.fd_contents.proofs.datasets.print_each.Goals as goal

pub returns-in-Err-clause-broken : goal.returns-in-Err-clause-broken
returns-in-Err-clause-broken g c =
    let text : c.deref.result.now ≡ string_bytes c.index-names-i.result = search rules in
    on_stop c.in-Err.halt (λ stop. IfSome (g.S.Store.has c.loop-i.store) (λ h. IsBrokenOf stop h (c.deref.result.now ∷ []))) (λ stop. IfSome (g.S.Store.has c.args.store.now) (λ h. IsBrokenOf stop h (texts c.args.names.now)))
    (λ stop b. broken_told stop (g.S.Store.has c.args.store.now) (g.S.Store.has c.loop-i.store) (string_bytes c.index-names-i.result ∷ []) (texts c.args.names.now) (stays_looked (g.S.Store.has c.args.store.now) (g.S.Store.has c.loop-i.store) c.loop-i.invariant.looks)
    (among_one_of string_bytes c.args.names.now c.loop-i.i c.index-names-i.result (omega (arith, c.loop-i-test.true)) c.index-names-i.is) (subst (λ n. IfSome (g.S.Store.has c.loop-i.store) (λ h. IsBrokenOf stop h (n ∷ []))) text b))
    c.in-Err.ensures.broken

pub returns-in-Err-clause-front : goal.returns-in-Err-clause-front
returns-in-Err-clause-front g c =
    let text : c.deref.result.now ≡ string_bytes c.index-names-i.result = search rules in
    let at = split_at string_bytes c.args.names.now c.loop-i.i c.index-names-i.result (omega (arith, c.loop-i-test.true)) c.index-names-i.is in
    subst (λ ns. IfSome (g.S.Store.has c.args.store.now) (λ h. (t : List ℕ) → texts_for c.args.lines.now h ns ≡ Some t → TakesFront (g.K.Sink.taken c.args.output.now) (g.K.Sink.taken c.print_one.new.output) t)) (sym at)
    (cut_at c.args.lines.now (g.S.Store.has c.args.store.now) (g.S.Store.has c.loop-i.store) (take c.loop-i.i (texts c.args.names.now)) (drop (c.loop-i.i + 1) (texts c.args.names.now)) (string_bytes c.index-names-i.result)
    (g.K.Sink.taken c.args.output.now) (g.K.Sink.taken c.loop-i.output) (g.K.Sink.taken c.print_one.new.output) (stays_looked (g.S.Store.has c.args.store.now) (g.S.Store.has c.loop-i.store) c.loop-i.invariant.looks)
    (took_so_far c.args.lines.now (g.S.Store.has c.args.store.now) (take c.loop-i.i (texts c.args.names.now)) (g.K.Sink.taken c.args.output.now) (g.K.Sink.taken c.loop-i.output) c.loop-i.invariant.printed)
    (subst (λ n. IfSome (g.S.Store.has c.loop-i.store) (λ h. (t : List ℕ) → text_for c.args.lines.now h n ≡ Some t → TakesFront (g.K.Sink.taken c.loop-i.output) (g.K.Sink.taken c.print_one.new.output) t)) text c.in-Err.ensures.front))

pub loop-i-preserved : goal.loop-i-preserved
loop-i-preserved g c =
    let more = take_more string_bytes c.args.names.now c.loop-i.i c.index-names-i.result (omega (arith, c.loop-i-test.true)) c.index-names-i.is in
    let text : c.deref.result.now ≡ string_bytes c.index-names-i.result = search rules in
    let later = c.print_one.ensures.later in
    let before = c.loop-i.invariant.later in
    record {
      home = c.print_one.ensures.home;
      looks = looked_both (g.S.Store.has c.args.store.now) (g.S.Store.has c.loop-i.store) (g.S.Store.has c.print_one.new.store) c.loop-i.invariant.looks c.print_one.ensures.looks;
      printed = subst (λ l. Printed c.args.lines.now (g.S.Store.has c.args.store.now) l (g.K.Sink.taken c.args.output.now) (g.K.Sink.taken c.print_one.new.output)) (sym more)
          (one_more c.args.lines.now (g.S.Store.has c.args.store.now) (g.S.Store.has c.loop-i.store) (take c.loop-i.i (texts c.args.names.now)) (string_bytes c.index-names-i.result) (g.K.Sink.taken c.args.output.now) (g.K.Sink.taken c.loop-i.output) (g.K.Sink.taken c.print_one.new.output)
          c.loop-i.invariant.looks c.loop-i.invariant.printed
          (subst (λ n. IfSome (g.S.Store.has c.loop-i.store) (λ h. IsPrinted c.args.lines.now h n (g.K.Sink.taken c.loop-i.output) (g.K.Sink.taken c.print_one.new.output))) text c.in-Ok.ensures.printed));
      firm = subst (λ l. IfSome (g.S.Store.has c.print_one.new.store) (λ i. AreFirmOf i l)) (sym more)
          (firm_told_more (g.S.Store.has c.loop-i.store) (g.S.Store.has c.print_one.new.store) (take c.loop-i.i (texts c.args.names.now)) (string_bytes c.index-names-i.result) c.print_one.ensures.looks c.loop-i.invariant.firm
          (subst (λ n. IfSome (g.S.Store.has c.print_one.new.store) (λ i. IsFirmTable (folder_at i n).table)) text c.in-Ok.ensures.firm));
      calm = c.in-Ok.ensures.cause.calm ∙ c.loop-i.invariant.calm;
      later = omega (arith, later, before);
    }

pub returns-clause-printed : goal.returns-clause-printed
returns-clause-printed g c =
    let long = length-map c.args.names.now string_bytes in
    subst (λ l. Printed c.args.lines.now (g.S.Store.has c.args.store.now) l (g.K.Sink.taken c.args.output.now) (g.K.Sink.taken c.loop-i.output)) (take_end (texts c.args.names.now) c.loop-i.i (omega (arith, long, c.loop-i-test.false))) c.loop-i.invariant.printed

pub returns-clause-firm : goal.returns-clause-firm
returns-clause-firm g c =
    let long = length-map c.args.names.now string_bytes in
    subst (λ l. IfSome (g.S.Store.has c.loop-i.store) (λ i. AreFirmOf i l)) (take_end (texts c.args.names.now) c.loop-i.i (omega (arith, long, c.loop-i-test.false))) c.loop-i.invariant.firm
