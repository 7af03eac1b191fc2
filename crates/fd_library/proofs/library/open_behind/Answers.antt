use Rattle.std.proofs.Common.{rules, ◌≡◌, ◌++◌, ◌∷◌, [], List, ℕ, subst, length, IfSome, string_bytes}
use Rattle.fd_disk.specs.Folders.{SameBut, WhereTold}
use Rattle.fd_library.specs.Answers.{HoldsAs, IsOpened}
use Rattle.fd_library.proofs.library.open_behind.Goals as goal

pub returns-in-Ok-Some-clause-opened : goal.returns-in-Ok-Some-clause-opened
returns-in-Ok-Some-clause-opened g c =
    let b = c.in-Ok-Some.dataset in
    let h = c.in-Ok-Some.it in
    let text : string_bytes c.in-Some.text ≡ c.args.name.now = search rules in
    let opened : IsOpened (string_bytes c.in-Some.text) b h = search rules in
    let items : c.push_reserved-in-Ok-Some.new.self.items ≡ c.args.held.now.items ++ h ∷ [] = search rules in
    let boards : c.push_reserved.new.self.items ≡ c.args.datasets.now.items ++ b ∷ [] = search rules in
    let holds : IfSome (g.S.Store.has c.args.store.now) (λ s. HoldsAs g.S.Folder.Folder.has s h) = search rules in
    let store : WhereTold (g.S.Store.has c.args.store.now) (g.S.Store.has c.opened.new.store) (SameBut (string_bytes c.in-Some.text)) = search rules in
    let number : c.len-number.result ≡ length c.args.held.now.items = search rules in
    record {
      board = b;
      held = h;
      adds = record { boards = boards; each = items };
      number = number;
      opened = subst (λ (n : List ℕ). IsOpened n b h) text opened;
      holds = holds;
      store = subst (λ (n : List ℕ). WhereTold (g.S.Store.has c.args.store.now) (g.S.Store.has c.opened.new.store) (SameBut n)) text store;
    }
