use Rattle.std.proofs.Common.{◌≡◌, ◌∙◌, ℕ, List, length, true, false, refl, sym, ap, subst, arith, None}
use Rattle.std.specs.Prelude.{string_bytes}
use Rattle.std.specs.List.{list_any}
use Rattle.std.specs.Str.{bytes_eq}
use Rattle.std.proofs.lemmas.Slice.Zip.{AllZip-long}
use Rattle.fd_key.specs.Given.{given_of}
use Rattle.fd_script.specs.declared.script.Lane.{Lane}
use Rattle.fd_script.specs.Grammar.{few_or, given_wrong, is_lane_name}
use Rattle.fd_script.specs.Reading.{IsLane, Refuses}
use Rattle.fd_script.proofs.Lanes.{begun, few_over, few_under, lane_begun, named_before, named_right, not_named, refuse_first, then_second, within_begun}
use Rattle.fd_script.proofs.reader.begin_lane.Goals as goal

pub returns-then-not-is_lane_name-clause-wrong : goal.returns-then-not-is_lane_name-clause-wrong
returns-then-not-is_lane_name-clause-wrong c = λ gs z.
    (not_named gs c.args.name.now c.args.pairs.now (ap is_lane_name (sym c.as_bytes.ensures.value) ∙ sym c.is_lane_name.ensures ∙ c.if-not-is_lane_name.true), refl)

pub returns-then-has_lane-clause-wrong : goal.returns-then-has_lane-clause-wrong
returns-then-has_lane-clause-wrong c = λ gs z. (
  named_before c.args.lanes.items gs c.args.name.now c.args.pairs.now (ap is_lane_name (sym c.as_bytes.ensures.value) ∙ sym c.is_lane_name.ensures ∙ c.if-not-is_lane_name.false)
      (ap (list_any (λ (l : Lane). bytes_eq c.args.name.now (string_bytes l.name))) (sym c.deref.ensures.value) ∙ sym c.has_lane.ensures ∙ c.if-has_lane.true) z,
  refl,
)

pub returns-in-Err-clause-wrong : goal.returns-in-Err-clause-wrong
returns-in-Err-clause-wrong c =
    let e : is_lane_name c.args.name.now ≡ true = ap is_lane_name (sym c.as_bytes.ensures.value) ∙ sym c.is_lane_name.ensures ∙ c.if-not-is_lane_name.false in
    let f : list_any (λ (l : Lane). bytes_eq c.args.name.now (string_bytes l.name)) c.args.lanes.items ≡ false =
    ap (list_any (λ (l : Lane). bytes_eq c.args.name.now (string_bytes l.name))) (sym c.deref.ensures.value) ∙ sym c.has_lane.ensures ∙ c.if-has_lane.false in
    λ gs z. subst (Refuses c.in-Err.refusal) (sym (named_right c.args.lanes.items gs c.args.name.now c.args.pairs.now e f z))
    (refuse_first c.in-Err.refusal (given_wrong (given_of c.args.pairs.now)) (few_or (length gs) 8) c.in-Err.ensures.wrong)

pub returns-then-len-ge-LANES-clause-wrong : goal.returns-then-len-ge-LANES-clause-wrong
returns-then-len-ge-LANES-clause-wrong c =
    let e : is_lane_name c.args.name.now ≡ true = ap is_lane_name (sym c.as_bytes.ensures.value) ∙ sym c.is_lane_name.ensures ∙ c.if-not-is_lane_name.false in
    let f : list_any (λ (l : Lane). bytes_eq c.args.name.now (string_bytes l.name)) c.args.lanes.items ≡ false =
    ap (list_any (λ (l : Lane). bytes_eq c.args.name.now (string_bytes l.name))) (sym c.deref.ensures.value) ∙ sym c.has_lane.ensures ∙ c.if-has_lane.false in
    λ gs z. (
      named_right c.args.lanes.items gs c.args.name.now c.args.pairs.now e f z ∙ then_second (given_wrong (given_of c.args.pairs.now)) (few_or (length gs) 8) c.in-Ok.ensures.wrong
          ∙ few_over (length gs) 8 (omega (arith, AllZip-long IsLane c.args.lanes.items gs z, c.args.lanes.ok.0, c.len.ensures, c.if-len-ge-LANES.true)),
      refl,
    )

pub returns-clause-wrong : goal.returns-clause-wrong
returns-clause-wrong c =
    let e : is_lane_name c.args.name.now ≡ true = ap is_lane_name (sym c.as_bytes.ensures.value) ∙ sym c.is_lane_name.ensures ∙ c.if-not-is_lane_name.false in
    let f : list_any (λ (l : Lane). bytes_eq c.args.name.now (string_bytes l.name)) c.args.lanes.items ≡ false =
    ap (list_any (λ (l : Lane). bytes_eq c.args.name.now (string_bytes l.name))) (sym c.deref.ensures.value) ∙ sym c.has_lane.ensures ∙ c.if-has_lane.false in
    λ gs z. named_right c.args.lanes.items gs c.args.name.now c.args.pairs.now e f z ∙ then_second (given_wrong (given_of c.args.pairs.now)) (few_or (length gs) 8) c.in-Ok.ensures.wrong
    ∙ few_under (length gs) 8 (omega (arith, AllZip-long IsLane c.args.lanes.items gs z, c.args.lanes.ok.0, c.len.ensures, c.if-len-ge-LANES.false))

pub returns-clause-lanes : goal.returns-clause-lanes
returns-clause-lanes c = λ gs z. lane_begun c.args.lanes.items c.push.new.self.items c.args.name.now c.args.pairs.now gs
    (begun c.args.lanes.items c.push.new.self.items _ c.args.name.now c.args.pairs.now c.in_ok-push.ensures.items c.in_ok-from_str.ensures.ok c.in-Ok.ensures.given c.new.ensures c.new-2.ensures
    (omega (arith, c.args.lanes.ok.0, c.len.ensures, c.if-len-ge-LANES.false))) z

pub returns-clause-within : goal.returns-clause-within
returns-clause-within c = within_begun c.args.lanes.items c.push.new.self.items c.args.name.now c.args.pairs.now
    (begun c.args.lanes.items c.push.new.self.items _ c.args.name.now c.args.pairs.now c.in_ok-push.ensures.items c.in_ok-from_str.ensures.ok c.in-Ok.ensures.given c.new.ensures c.new-2.ensures
    (omega (arith, c.args.lanes.ok.0, c.len.ensures, c.if-len-ge-LANES.false))) c.requires.within
