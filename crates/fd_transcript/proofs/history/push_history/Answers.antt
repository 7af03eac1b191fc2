use Rattle.std.proofs.Common.{rules, ◌≡◌, ◌∙◌, ◌+◌, ◌++◌, ◌∷◌, [], ℕ, List, length, map, ap, ap₂, string_bytes, append_assoc, arith}
use Rattle.std.specs.Prelude.{codes, flat_map}
use Rattle.std.proofs.lemmas.List.{length-map}
use Rattle.fd_transcript.specs.History.{Flushed, flushed_text, flushed_within, in_order}
use Rattle.fd_transcript.specs.Seen.{entry_number, seen_flush}
use Rattle.fd_transcript.proofs.Entries.{history_is, rises_map, rises_of}
use Rattle.fd_transcript.proofs.history.push_history.Goals as goal

pub returns : goal.returns
returns c =
    let old = c.args.listed.now in
    let new = c.sort_listed.new.listed in
    let b = c.args.before in
    let up = rises_map seen_flush (λ (f : Flushed). f.entry) new (rises_of entry_number new c.in_ok-sort_listed.ensures.sorted) in
    let many : b + length new ≡ b + length (map seen_flush old) = omega (arith, length-map old seen_flush, c.in_ok-sort_listed.ensures.many) in
    let text = history_is (map seen_flush old) (map seen_flush new) b (b + length new) up c.in_ok-sort_listed.ensures.same many in
    let begun : string_bytes c.push_str.new.self ≡ string_bytes c.args.line.now ++ codes "history" = search rules in
    let pushed = c.in_ok-push_within.ensures ∙ ap (λ (n : ℕ). string_bytes c.push_str.new.self ++ flat_map (flushed_within n (n + length new)) (map seen_flush new)) c.from-first.ensures in
    let ended : string_bytes c.push.new.self ≡ string_bytes c.push_within.new.line ++ 10 ∷ [] = search rules in
    ended
    ∙ ap (λ (t : List ℕ). t ++ 10 ∷ []) (pushed ∙ ap₂ (λ (s : List ℕ) (t : List ℕ). s ++ t) begun text ∙ append_assoc (string_bytes c.args.line.now) (codes "history") (flat_map flushed_text (in_order b (map seen_flush old))))
    ∙ append_assoc (string_bytes c.args.line.now) (codes "history" ++ flat_map flushed_text (in_order b (map seen_flush old))) (10 ∷ [])
