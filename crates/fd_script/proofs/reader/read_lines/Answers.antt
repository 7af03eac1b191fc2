use Rattle.std.proofs.Common.{◌≡◌, ◌∙◌, ◌+◌, ◌-◌, ◌∷◌, [], ◌++◌, length, refl, sym, ap, subst, arith, Err, Ok, None}
use Rattle.std.specs.Option.{option_copied}
use Rattle.std.specs.List.{AllZip}
use Rattle.std.proofs.lemmas.List.{length-append}
use Rattle.fd_script.specs.Lines.{lines_if, lines_of, said}
use Rattle.fd_script.specs.Grammar.{goes_on, is_messages, lanes_from, line_wrong, or_dataset, script_from, unended, unless_wrong}
use Rattle.fd_script.specs.Reading.{Gives, IsLane}
use Rattle.fd_script.proofs.Groups.{dataset_more, or_first}
use Rattle.fd_script.proofs.Turns.{done, ends, later, named, refused, some_dataset}
use Rattle.fd_script.proofs.reader.read_lines.Goals as goal

pub returns-in-None-clause-script : goal.returns-in-None-clause-script
returns-in-None-clause-script c =
    let st = c.lines.invariant.0 in
    let line = c.first_line.result.0.now in
    let e : lines_of c.lines.rest.now ≡ line ∷ [] = c.first_line.ensures.lines ∙ ap (λ o. line ∷ lines_if (option_copied o)) c.in-None.is in
    subst (λ r. Gives r (Err c.cut_short.result)) (sym (st.same ∙ ap (script_from st.at st.lines) e ∙ ends st.at st.lines line)) (c.cut_short.ensures st.lines st.number_is)

pub finish-requires-clause-named : goal.finish-requires-clause-named
finish-requires-clause-named c =
    let st = c.lines.invariant.0 in
    let line = c.first_line.result.0.now in
    let d = named st.lines line (c.in-Ok.ensures.wrong st.lines st.reads) (sym c.in-Ok.ensures.ends ∙ c.if-ends.true) in
    let n = c.in-Ok.ensures.next st.lines st.reads st.number_is in
    some_dataset c.in-Ok.next.dataset d.0 (n.says.dataset_is ∙ dataset_more st.lines (said line) ∙ ap (λ o. or_first o (or_dataset (said line) None)) d.1)

pub returns-then-ends-clause-script : goal.returns-then-ends-clause-script
returns-then-ends-clause-script c =
    let st = c.lines.invariant.0 in
    let line = c.first_line.result.0.now in
    let n = c.in-Ok.ensures.next st.lines st.reads st.number_is in
    let e : lines_of c.lines.rest.now ≡ line ∷ lines_of c.in-Some.others.now = c.first_line.ensures.lines ∙ ap (λ o. line ∷ lines_if (option_copied o)) c.in-Some.is in
    let lengths : length c.lines.rest.now ≡ length line + length c.in-Some.others.now + 1 = rw c.in-Some.is at c.first_line.ensures.lengths in
    let place : st.at + length line + 1 ≡ length c.args.text.now - length c.in-Some.others.now = omega (arith, lengths, st.place) in
    record {
      lines = st.lines ++ said line ∷ [];
      is = st.same ∙ ap (script_from st.at st.lines) e ∙ done st.at st.lines line c.in-Some.others.now (c.in-Ok.ensures.wrong st.lines st.reads) (sym c.in-Ok.ensures.ends ∙ c.if-ends.true)
          ∙ ap (λ p. Ok (record { lines = st.lines ++ said line ∷ []; place = p })) place;
      says = record {
        dataset_is = c.finish.ensures.dataset ∙ n.says.dataset_is;
        lanes_are = subst (λ ls. AllZip IsLane ls (lanes_from 1 (st.lines ++ said line ∷ []))) (sym c.finish.ensures.lanes) n.says.lanes_are;
      };
    }

pub returns-in-Err-clause-script : goal.returns-in-Err-clause-script
returns-in-Err-clause-script c =
    let st = c.lines.invariant.0 in
    let line = c.first_line.result.0.now in
    let e : lines_of c.lines.rest.now ≡ line ∷ lines_of c.in-Some.others.now = c.first_line.ensures.lines ∙ ap (λ o. line ∷ lines_if (option_copied o)) c.in-Some.is in
    let rest = goes_on (is_messages (said line)) (record { lines = st.lines ++ said line ∷ []; place = st.at + length line + 1 }) (script_from (st.at + length line + 1) (st.lines ++ said line ∷ []) (lines_of c.in-Some.others.now)) in
    subst (λ r. Gives r (Err c.fault_at.result))
    (sym (st.same ∙ ap (script_from st.at st.lines) e ∙ refused st.at st.lines line c.in-Some.others.now ∙ ap (λ k. unless_wrong k (line_wrong st.lines line) rest) (sym st.number_is)))
    (c.fault_at.ensures (line_wrong st.lines line) rest (c.in-Err.ensures.wrong st.lines st.reads))

pub lines-preserved : goal.lines-preserved
lines-preserved c =
    let st = c.lines.invariant.0 in
    let line = c.first_line.result.0.now in
    let n = c.in-Ok.ensures.next st.lines st.reads st.number_is in
    let e : lines_of c.lines.rest.now ≡ line ∷ lines_of c.in-Some.others.now = c.first_line.ensures.lines ∙ ap (λ o. line ∷ lines_if (option_copied o)) c.in-Some.is in
    let lengths : length c.lines.rest.now ≡ length line + length c.in-Some.others.now + 1 = rw c.in-Some.is at c.first_line.ensures.lengths in (
      record {
        lines = st.lines ++ said line ∷ [];
        reads = n;
        number_is = omega (arith, st.number_is, length-append st.lines (said line ∷ []));
        at = st.at + length line + 1;
        place = omega (arith, lengths, st.place);
        few = omega (arith, st.few);
        same = st.same ∙ ap (script_from st.at st.lines) e ∙ later st.at st.lines line c.in-Some.others.now (c.in-Ok.ensures.wrong st.lines st.reads) (sym c.in-Ok.ensures.ends ∙ c.if-ends.false);
      },
      c.lines.invariant.1,
    )
