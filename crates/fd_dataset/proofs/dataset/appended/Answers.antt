use Rattle.std.proofs.Common.{rules, ◌≡◌, ◌∙◌, ◌⊎◌, inl, inr, false, true, true≢false, Option, Some, None, ap, refl, sym, subst, List, ℕ}
use Rattle.fd_entries.specs.declared.table.Entry.{Entry}
use Rattle.fd_segment.specs.Shared.{AreOf}
use Rattle.fd_dataset.proofs.Same.{entries_refl, entries_same, same_entries}
use Rattle.fd_dataset.proofs.dataset.appended.Goals.{in-None, in-Some, in-Some-2}
use Rattle.fd_dataset.proofs.dataset.appended.Goals as goal

-- another entry than this one is in doubt, so it was before
still : (now old : Option Entry) (found entry : Entry) → now ≡ Some found → same_entries found entry ≡ false → (now ≡ old) ⊎ ((now ≡ None) ⊎ (now ≡ Some entry)) → old ≡ now
still now old found entry is other (inl same) = sym same
still now old found entry is other (inr (inl none)) = absurd (cc (is, none))
still now old found entry is other (inr (inr some)) =
    let same : found ≡ entry = cc (is, some) in
    absurd (true≢false (sym (entries_refl entry) ∙ ap (λ (e : Entry). same_entries e entry) (sym same) ∙ other))

pub invariant_of-result-in-Err-Disk-clause-doubt_is : goal.invariant_of-result-in-Err-Disk-clause-doubt_is
invariant_of-result-in-Err-Disk-clause-doubt_is g c = elim c.match-in_doubt.branch [
  | in-None w ↦ search rules
  | in-Some w ↦
      let yes : w.eq.result ≡ true = search rules in
      let same : w.in-Some.found ≡ c.entry-entry.result = entries_same _ _ (sym w.eq.ensures ∙ yes) in
      search rules
  | in-Some-2 w ↦
      let no : w.eq.result ≡ false = search rules in
      let doubt : c.append.new.self.doubt ≡ Some w.in-Some.found = search rules in
      let how : (c.append.new.self.doubt ≡ c.args.desk.toc.doubt) ⊎ ((c.append.new.self.doubt ≡ None) ⊎ (c.append.new.self.doubt ≡ Some c.entry-entry.result)) = search rules in
      let before : c.args.desk.toc.doubt ≡ c.append.new.self.doubt = still c.append.new.self.doubt c.args.desk.toc.doubt w.in-Some.found c.entry-entry.result doubt (sym w.eq.ensures ∙ no) how in
      search rules
]

pub invariant_of-result-in-Err-Disk-clause-own : goal.invariant_of-result-in-Err-Disk-clause-own
invariant_of-result-in-Err-Disk-clause-own g c = subst (λ (n : List ℕ). AreOf n c.args.desk.segments.items) (sym c.append.ensures.dataset) c.args.desk.own
