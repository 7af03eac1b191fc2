use Rattle.std.proofs.Common.{rules, ◌≡◌, ◌∙◌, ◌+◌, ◌<◌, true, arith, ap, length, sym}
use Rattle.std.specs.Ordering.{is_gt, is_lt, nat_cmp}
use Rattle.std.specs.Cmp.Lexicographic.{slice_cmp}
use Rattle.fd_index.specs.StoredRecords.{record_of, records_of}
use Rattle.fd_index.proofs.Searching.{gone_before, gone_behind, kept_at, length_kept}
use Rattle.fd_index.proofs.stored.is_outside.Goals as goal

pub returns-then-is_lt : goal.returns-then-is_lt
returns-then-is_lt c =
    let ss = c.args.records.now in
    let key = c.args.key.now in
    let s = c.index-records-0.result in
    let some : 0 < length ss = search rules in
    let before : is_lt (slice_cmp nat_cmp key s.key.items) ≡ true =
    ap (λ k. is_lt (slice_cmp nat_cmp key k)) (sym c.as_slice.ensures.value) ∙ ap is_lt (sym c.cmp.ensures) ∙ sym c.is_lt.ensures ∙ c.if-is_lt.true in
    λ _. gone_before key (records_of ss) (record_of s) c.requires (kept_at ss 0 s some c.index-records-0.is) before

pub returns : goal.returns
returns c =
    let ss = c.args.records.now in
    let key = c.args.key.now in
    let s = c.index-records-records.result in
    let some : 0 < length ss = search rules in
    λ is.
    let behind : is_gt (slice_cmp nat_cmp key s.key.items) ≡ true =
    ap (λ k. is_gt (slice_cmp nat_cmp key k)) (sym c.as_slice-2.ensures.value) ∙ ap is_gt (sym c.cmp-2.ensures) ∙ sym c.is_gt.ensures ∙ is in
    gone_behind key (records_of ss) _ (record_of s) c.requires (omega (arith, some, length_kept ss)) (kept_at ss _ s (omega (arith, some)) c.index-records-records.is) behind
