use Rattle.std.proofs.Common.{ℕ, List, [], ◌∷◌, ◌++◌, sym, ◌∙◌, ap, arith}
use Rattle.std.proofs.lemmas.List.{append-nil}
use Rattle.fd_entries.specs.Table.{header}
use Rattle.fd_entries.proofs.Slots.{listed_table}
use Rattle.fd_toc.proofs.toc.Toc.create_bytes.Goals as goal

pub returns-clause-none : goal.returns-clause-none
returns-clause-none g c =
    listed_table c.args.dataset.now [] c.push.new.self.items (record {
      gate = 0;
      tail = [];
      shut = omega arith;
      is = c.in_ok-push.ensures.items
          ∙ ap (λ (l : List ℕ). l ++ 0 ∷ []) (c.in_ok-bytes.ensures.bytes ∙ ap header c.as_bytes.ensures.value)
          ∙ ap (λ (l : List ℕ). l ++ 0 ∷ []) (sym (append-nil (header c.args.dataset.now)));
      short = c.requires;
      fit = tt;
      few = omega arith;
    })
