use Rattle.std.proofs.Common.{rules, ◌≡◌, ◌≤◌, ◌<◌, ◌-◌, ◌∙◌, ◌++◌, ℕ, List, ap, ap₂, sym, subst, arith, length, string_bytes}
use Rattle.std.specs.Prelude.{◌^◌}
use Rattle.std.specs.Str.{IsUtf8}
use Rattle.std.proofs.lemmas.List.{length-map}
use Rattle.std.proofs.lemmas.Str.{IsUtf8-string_bytes}
use Rattle.indexmap.specs.IndexMap.{insert_entry}
use Rattle.fd_key.specs.Pairs.{Pair, with_pair}
use Rattle.fd_key.specs.Spans.{AreKept, Entry, pair_at, pairs_at}
use Rattle.fd_key.specs.declared.span.Span.{Span}
use Rattle.fd_key.proofs.PairLaws.{key_text_grows}
use Rattle.fd_key.proofs.SpanLaws.{either_way, pairs_stay, put_kept, put_pairs, same_name, stay_kept}
use Rattle.fd_key.proofs.key.Key.put.Goals as goal

pub returns-clause-ok : goal.returns-clause-ok
returns-clause-ok c =
    let before : List ℕ = string_bytes c.self.inside.values in
    let es : List Entry = c.self.inside.spans.entries in
    let s : Span = record { start = c.len-start.result; end = c.len-end.result } in
    let text : string_bytes c.push_str.new.self ≡ before ++ c.args.text.now = c.in_ok-push_str.ensures.bytes in
    let start : c.len-start.result ≡ length before = search rules in
    let there : c.len-end.result ≡ length (string_bytes c.push_str.new.self) = search rules in
    let end : c.len-end.result ≡ length (before ++ c.args.text.now) = there ∙ ap length text in
    let entries : c.insert.new.self.entries ≡ insert_entry same_name es c.in_place.result s = c.in_ok-insert.ensures.entries in
    ap₂ (λ (v : List ℕ) (fs : List Entry). pairs_at v fs) text entries
    ∙ put_pairs before c.args.text.now es c.in_place.result s c.self.invariant.each start end
    ∙ ap₂ (λ (ps : List Pair) (n : List ℕ). with_pair ps n c.args.text.now) c.self.view_is c.in_place.ensures

pub invariant_of-self : goal.invariant_of-self
invariant_of-self c = subst (λ (v : List ℕ). AreKept v c.self.inside.spans.entries) (sym c.in_err-push_str.ensures.bytes) c.self.invariant

pub invariant_of-self-2 : goal.invariant_of-self-2
invariant_of-self-2 c =
    let before : List ℕ = string_bytes c.self.inside.values in
    let es : List Entry = c.self.inside.spans.entries in
    let s : Span = record { start = c.len-start.result; end = c.len-end.result } in
    let text : string_bytes c.push_str.new.self ≡ before ++ c.args.text.now = c.in_ok-push_str.ensures.bytes in
    let start : c.len-start.result ≡ length before = search rules in
    let there : c.len-end.result ≡ length (string_bytes c.push_str.new.self) = search rules in
    let end : c.len-end.result ≡ length (before ++ c.args.text.now) = there ∙ ap length text in
    let entries : c.insert.new.self.entries ≡ insert_entry same_name es c.in_place.result s = c.in_ok-insert.ensures.entries in
    let long : length c.args.self.now ≡ length es = ap length (sym c.self.view_is) ∙ length-map es (pair_at before) in
    let room : length es < 2 ^ 32 - 1 = omega (arith, c.requires.room, long) in
    let fits : length c.in_place.result.bytes ≤ 16 = omega (arith, ap length c.in_place.ensures, c.requires.fits) in
    let whole : IsUtf8 (before ++ c.args.text.now) = subst IsUtf8 text (IsUtf8-string_bytes c.push_str.new.self) in
    subst (λ (v : List ℕ). AreKept v c.insert.new.self.entries) (sym text) (subst (λ (fs : List Entry). AreKept (before ++ c.args.text.now) fs) (sym entries)
    (put_kept before c.args.text.now es c.in_place.result s c.self.invariant room fits (IsUtf8-string_bytes c.self.inside.values) whole start end))

pub returns-in_err-insert-clause-err : goal.returns-in_err-insert-clause-err
returns-in_err-insert-clause-err c =
    let before : List ℕ = string_bytes c.self.inside.values in
    let text : string_bytes c.push_str.new.self ≡ before ++ c.args.text.now = c.in_ok-push_str.ensures.bytes in
    let same : pairs_at (string_bytes c.push_str.new.self) c.insert.new.self.entries ≡ c.args.self.now =
    ap₂ (λ (v : List ℕ) (fs : List Entry). pairs_at v fs) text c.in_err-insert.ensures.err
    ∙ pairs_stay before c.args.text.now c.self.inside.spans.entries c.self.invariant.each ∙ c.self.view_is in
    either_way c.from_residual-in_err-insert.result same

pub invariant_of-self-in_err-insert : goal.invariant_of-self-in_err-insert
invariant_of-self-in_err-insert c =
    let before : List ℕ = string_bytes c.self.inside.values in
    let es : List Entry = c.self.inside.spans.entries in
    let text : string_bytes c.push_str.new.self ≡ before ++ c.args.text.now = c.in_ok-push_str.ensures.bytes in
    let whole : IsUtf8 (before ++ c.args.text.now) = subst IsUtf8 text (IsUtf8-string_bytes c.push_str.new.self) in
    subst (λ (v : List ℕ). AreKept v c.insert.new.self.entries) (sym text) (subst (λ (fs : List Entry). AreKept (before ++ c.args.text.now) fs) (sym c.in_err-insert.ensures.err)
    (stay_kept before c.args.text.now es c.self.invariant (IsUtf8-string_bytes c.self.inside.values) whole))

pub returns-clause-short : goal.returns-clause-short
returns-clause-short c =
    let new : pairs_at (string_bytes c.push_str.new.self) c.insert.new.self.entries ≡ with_pair c.args.self.now c.args.name.now c.args.text.now = returns-clause-ok c in
    rw new (key_text_grows c.args.self.now c.args.name.now c.args.text.now)
