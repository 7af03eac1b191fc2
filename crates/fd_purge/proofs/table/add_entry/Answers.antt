use Rattle.std.proofs.Common.{rules, ◌≡◌, length, vec_len}
use Rattle.fd_purge.proofs.DivideLemmas.{entry_added}
use Rattle.fd_purge.proofs.table.add_entry.Goals as goal

pub returns : goal.returns
returns c = λ front es was.
    let count : vec_len c.args.bytes.now ≡ length c.args.bytes.now.items = search rules in
    entry_added front c.args.bytes.now.items c.pop.new.self.items c.push.new.self.items c.extend_from_slice.new.self.items _ _ es c.args.entry.now was count c.pop.ensures.rest c.in_ok-push.ensures.items c.body.ensures c.in_ok-extend_from_slice.ensures.items
