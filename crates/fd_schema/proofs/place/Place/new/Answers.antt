use Rattle.std.proofs.Common.{rules, ◌≡◌, ◌++◌, string_bytes, subst}
use Rattle.std.specs.Str.{IsUtf8}
use Rattle.std.proofs.lemmas.Str.{IsUtf8-string_bytes}
use Rattle.fd_schema.proofs.Texts.{Joined, are_cut}
use Rattle.fd_schema.proofs.place.Place.new.Goals as goal

pub invariant_of-result : goal.invariant_of-result
invariant_of-result c =
    let a = c.args.dataset.now in
    let b = c.args.index.now in
    let d = c.args.datum.now in
    let first : string_bytes c.push_str.new.self ≡ a = search rules in
    let second : string_bytes c.push_str-2.new.self ≡ a ++ b = search rules in
    let joined : Joined (string_bytes c.push_str-3.new.self) c.len-second.result c.len-third.result a b d = record { is = search rules; first = search rules; both = search rules } in
    are_cut (string_bytes c.push_str-3.new.self) c.len-second.result c.len-third.result a b d (subst IsUtf8 first (IsUtf8-string_bytes c.push_str.new.self)) (subst IsUtf8 second (IsUtf8-string_bytes c.push_str-2.new.self))
    (IsUtf8-string_bytes c.push_str-3.new.self) joined
