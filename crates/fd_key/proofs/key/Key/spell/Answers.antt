use Rattle.std.proofs.Common.{rules, ◌≡◌, ◌≤◌, ◌<◌, ◌-◌, ◌∙◌, ◌++◌, ℕ, List, [], ap, ap₂, sym, subst, arith, length, string_bytes}
use Rattle.std.specs.Prelude.{◌^◌}
use Rattle.std.specs.Str.{IsUtf8}
use Rattle.std.proofs.lemmas.List.{length-map}
use Rattle.std.proofs.lemmas.Str.{IsUtf8-string_bytes}
use Rattle.indexmap.specs.IndexMap.{insert_entry}
use Rattle.fd_key.specs.Pairs.{Pair, with_pair}
use Rattle.fd_key.specs.Spans.{AreKept, Entry, pair_at, pairs_at}
use Rattle.fd_key.specs.Values.{value_text}
use Rattle.fd_key.specs.declared.span.Span.{Span}
use Rattle.fd_key.proofs.PairLaws.{key_text_grows}
use Rattle.fd_key.proofs.SpanLaws.{none_kept, put_kept, put_pairs, same_name, stay_kept}
use Rattle.fd_key.proofs.key.Key.spell.Goals as goal

pub returns-clause-ok : goal.returns-clause-ok
returns-clause-ok c =
    let before : List ℕ = string_bytes c.self.inside.values in
    let es : List Entry = c.self.inside.spans.entries in
    let s : Span = record { start = c.len-start.result; end = c.len-end.result } in
    let text : string_bytes c.push_value.new.out ≡ before ++ value_text c.args.value.now = c.in-Ok.ensures in
    let start : c.len-start.result ≡ length before = search rules in
    let there : c.len-end.result ≡ length (string_bytes c.push_value.new.out) = search rules in
    let end : c.len-end.result ≡ length (before ++ value_text c.args.value.now) = there ∙ ap length text in
    let entries : c.insert.new.self.entries ≡ insert_entry same_name es c.in_place.result s = c.in_ok-insert.ensures.entries in
    ap₂ (λ (v : List ℕ) (fs : List Entry). pairs_at v fs) text entries
    ∙ put_pairs before (value_text c.args.value.now) es c.in_place.result s c.self.invariant.each start end
    ∙ ap₂ (λ (ps : List Pair) (n : List ℕ). with_pair ps n (value_text c.args.value.now)) c.self.view_is c.in_place.ensures

pub invariant_of-self-2 : goal.invariant_of-self-2
invariant_of-self-2 c =
    let before : List ℕ = string_bytes c.self.inside.values in
    let es : List Entry = c.self.inside.spans.entries in
    let s : Span = record { start = c.len-start.result; end = c.len-end.result } in
    let text : string_bytes c.push_value.new.out ≡ before ++ value_text c.args.value.now = c.in-Ok.ensures in
    let start : c.len-start.result ≡ length before = search rules in
    let there : c.len-end.result ≡ length (string_bytes c.push_value.new.out) = search rules in
    let end : c.len-end.result ≡ length (before ++ value_text c.args.value.now) = there ∙ ap length text in
    let entries : c.insert.new.self.entries ≡ insert_entry same_name es c.in_place.result s = c.in_ok-insert.ensures.entries in
    let long : length c.args.self.now ≡ length es = ap length (sym c.self.view_is) ∙ length-map es (pair_at before) in
    let room : length es < 2 ^ 32 - 1 = omega (arith, c.requires.room, long) in
    let fits : length c.in_place.result.bytes ≤ 16 = omega (arith, ap length c.in_place.ensures, c.requires.fits) in
    let whole : IsUtf8 (before ++ value_text c.args.value.now) = subst IsUtf8 text (IsUtf8-string_bytes c.push_value.new.out) in
    subst (λ (v : List ℕ). AreKept v c.insert.new.self.entries) (sym text) (subst (λ (fs : List Entry). AreKept (before ++ value_text c.args.value.now) fs) (sym entries)
    (put_kept before (value_text c.args.value.now) es c.in_place.result s c.self.invariant room fits (IsUtf8-string_bytes c.self.inside.values) whole start end))

pub invariant_of-self-in_err-insert : goal.invariant_of-self-in_err-insert
invariant_of-self-in_err-insert c =
    let before : List ℕ = string_bytes c.self.inside.values in
    let es : List Entry = c.self.inside.spans.entries in
    let text : string_bytes c.push_value.new.out ≡ before ++ value_text c.args.value.now = c.in-Ok.ensures in
    let whole : IsUtf8 (before ++ value_text c.args.value.now) = subst IsUtf8 text (IsUtf8-string_bytes c.push_value.new.out) in
    subst (λ (v : List ℕ). AreKept v c.insert.new.self.entries) (sym text) (subst (λ (fs : List Entry). AreKept (before ++ value_text c.args.value.now) fs) (sym c.in_err-insert.ensures.err)
    (stay_kept before (value_text c.args.value.now) es c.self.invariant (IsUtf8-string_bytes c.self.inside.values) whole))

pub invariant_of-self : goal.invariant_of-self
invariant_of-self c =
    subst (λ (v : List ℕ). AreKept v c.clear-in-Err.new.self.entries) (sym c.clear.ensures.bytes) (subst (λ (fs : List Entry). AreKept [] fs) (sym c.clear-in-Err.ensures.empty) none_kept)

pub returns-clause-short : goal.returns-clause-short
returns-clause-short c =
    let new : pairs_at (string_bytes c.push_value.new.out) c.insert.new.self.entries ≡ with_pair c.args.self.now c.args.name.now (value_text c.args.value.now) = returns-clause-ok c in
    rw new (key_text_grows c.args.self.now c.args.name.now (value_text c.args.value.now))
