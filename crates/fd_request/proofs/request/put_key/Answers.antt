use Rattle.std.proofs.Common.{◌≡◌, ◌+◌, ◌/◌, ◌∷◌, [], ◌++◌, List, ℕ, length, Some, ap, sym, ◌∙◌, arith, length-append}
use Rattle.fd_spelling.specs.Names.{is_value}
use Rattle.fd_key.specs.Pairs.{Pair, text_of, with_pair}
use Rattle.fd_request.specs.Expansion.{expand}
use Rattle.fd_request.specs.Keywords.{seen_keyword, seen_keywords}
use Rattle.fd_request.specs.Values.{seen_text, seen_values}
use Rattle.fd_request.proofs.Choices.{next_block, some_block, value_place, front_more, rest_less, front_all, differ_more, pair_behind, absent_more, name_absent, value_in_list}
use Rattle.fd_request.proofs.Spelling.{spelled_more}
use Rattle.fd_request.proofs.request.put_key.Goals as goal

pub nonzero_div-rest : goal.nonzero_div-rest
nonzero_div-rest c =
    let next = next_block c.args.keywords.now c.loop-keyword.keyword-index c.keyword-item.result c.loop-keyword.block c.count-block.result c.loop-keyword-test.true c.keyword-item.is c.loop-keyword.invariant.block c.count-block.ensures in
    some_block c.args.keywords.now (c.loop-keyword.keyword-index + 1) (c.loop-keyword.block / c.count-block.result) next

pub text-requires : goal.text-requires
text-requires c =
    let next = next_block c.args.keywords.now c.loop-keyword.keyword-index c.keyword-item.result c.loop-keyword.block c.count-block.result c.loop-keyword-test.true c.keyword-item.is c.loop-keyword.invariant.block c.count-block.ensures in
    value_place c.args.keywords.now c.loop-keyword.keyword-index c.keyword-item.result c.loop-keyword.block (c.loop-keyword.block / c.count-block.result) c.loop-keyword.rest c.loop-keyword-test.true c.keyword-item.is
    c.loop-keyword.invariant.block next c.loop-keyword.invariant.rest

pub set-requires-clause-value : goal.set-requires-clause-value
set-requires-clause-value c =
    ap is_value c.as_str-in-loop-keyword.ensures
    ∙ value_in_list (seen_values c.keyword-item.result.values) (c.loop-keyword.rest / (c.loop-keyword.block / c.count-block.result)) (seen_text c.in_ok-text.text) c.keyword-item.result.values_are.all c.in_ok-text.ensures

pub nonzero_rem-rest : goal.nonzero_rem-rest
nonzero_rem-rest c =
    let next = next_block c.args.keywords.now c.loop-keyword.keyword-index c.keyword-item.result c.loop-keyword.block c.count-block.result c.loop-keyword-test.true c.keyword-item.is c.loop-keyword.invariant.block c.count-block.ensures in
    some_block c.args.keywords.now (c.loop-keyword.keyword-index + 1) (c.loop-keyword.block / c.count-block.result) next

pub loop-keyword-preserved : goal.loop-keyword-preserved
loop-keyword-preserved c =
    let ks = c.args.keywords.now in
    let i = c.loop-keyword.keyword-index in
    let k = c.keyword-item.result in
    let key = c.loop-keyword.key in
    let lt = c.loop-keyword-test.true in
    let is = c.keyword-item.is in
    let text = seen_text c.in_ok-text.text in
    let block = next_block ks i k c.loop-keyword.block c.count-block.result lt is c.loop-keyword.invariant.block c.count-block.ensures in
    let some = some_block ks (i + 1) (c.loop-keyword.block / c.count-block.result) block in
    let pushed : c.set.new.self ≡ key ++ ((seen_keyword k).name, text) ∷ [] =
    c.in_ok-set.ensures.ok ∙ ap (λ (n : List ℕ). with_pair key n c.as_str-in-loop-keyword.result.now) c.as_str.ensures.value ∙ ap (with_pair key (seen_keyword k).name) c.as_str-in-loop-keyword.ensures
    ∙ pair_behind ks i k key text lt is c.loop-keyword.invariant.differ c.loop-keyword.invariant.absent in
    record {
      size = omega (arith, ap length pushed, length-append key (((seen_keyword k).name, text) ∷ []), c.loop-keyword.invariant.size);
      block = block;
      rest = rest_less c.loop-keyword.rest (c.loop-keyword.block / c.count-block.result) some;
      differ = differ_more ks i k lt is c.loop-keyword.invariant.differ;
      spelled = spelled_more key c.set.new.self (seen_keyword k).name text pushed k.name_is
          (value_in_list (seen_values k.values) (c.loop-keyword.rest / (c.loop-keyword.block / c.count-block.result)) text k.values_are.all c.in_ok-text.ensures)
          (name_absent ks i k key lt is c.loop-keyword.invariant.differ c.loop-keyword.invariant.absent) c.loop-keyword.invariant.spelled;
      absent = λ name h. ap (λ (ps : List Pair). text_of ps name) pushed ∙ absent_more ks i k key text lt is c.loop-keyword.invariant.absent name h;
      front = λ d h. front_more ks i k (c.loop-keyword.block / c.count-block.result) c.loop-keyword.rest c.args.number text (expand (seen_keywords ks)) key d lt is block c.in_ok-text.ensures c.loop-keyword.invariant.front h
          ∙ ap (λ (ps : List Pair). Some (ps ++ d)) (sym pushed);
    }

pub returns-clause-key : goal.returns-clause-key
returns-clause-key c =
    front_all c.args.keywords.now c.loop-keyword.keyword-index c.loop-keyword.rest c.args.number (expand (seen_keywords c.args.keywords.now)) c.loop-keyword.key c.loop-keyword-test.false
    (let rest = c.loop-keyword.invariant.rest in let block = c.loop-keyword.invariant.block in omega arith) c.loop-keyword.invariant.front
