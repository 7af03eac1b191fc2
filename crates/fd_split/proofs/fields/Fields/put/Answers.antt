use Rattle.std.proofs.Common.{rules, ◌≡◌, ◌<◌, ◌≤◌, ◌++◌, ◌∙◌, ℕ, List, length, map, take, drop, ap, arith}
use Rattle.std.specs.Prelude.{slice_index_or}
use Rattle.std.proofs.lemmas.List.{length-map}
use Rattle.byteorder.specs.Endian.{big_bytes}
use Rattle.fd_sections.specs.Message.{Sections, message_octets}
use Rattle.fd_split.specs.Seen.{seen_parts}
use Rattle.fd_split.proofs.Opening.{measured_long}
use Rattle.fd_split.proofs.Writing.{writes_measured, writes_single}
use Rattle.fd_split.proofs.fields.Fields.put.Goals as goal

pub returns-then-len-gt1 : goal.returns-then-len-gt1
returns-then-len-gt1 c s =
    let s0 = c.self.inside.indicator.now in
    let s1 = c.self.inside.identification.now in
    let parts = c.self.inside.parts.items in
    let p = c.index-parts.result.now in
    let inside = c.requires.inside in
    let lt : c.args.i < length parts = omega (arith, inside, ap length c.self.view_is, measured_long (map (seen_parts s0 s1) parts), length-map parts (seen_parts s0 s1)) in
    let some : 1 < length parts = omega (arith, c.len.ensures, c.if-len-gt1.true) in
    let head : length s0 ≡ 16 = c.self.invariant.0 in
    let is : p ≡ slice_index_or parts c.args.i p = search rules in
    c.measure.ensures
    ∙ ap (λ (t : List ℕ). take 8 t ++ (big_bytes 8 (length t) ++ drop 16 t)) c.in_ok-put_sections.ensures
    ∙ writes_measured s0 s1 parts c.args.i p s head some lt is
    ∙ ap (λ (fs : List Sections). message_octets (slice_index_or fs c.args.i s)) c.self.view_is

pub returns-else-len-gt1 : goal.returns-else-len-gt1
returns-else-len-gt1 c s =
    let s0 = c.self.inside.indicator.now in
    let s1 = c.self.inside.identification.now in
    let parts = c.self.inside.parts.items in
    let p = c.index-parts.result.now in
    let inside = c.requires.inside in
    let lt : c.args.i < length parts = omega (arith, inside, ap length c.self.view_is, measured_long (map (seen_parts s0 s1) parts), length-map parts (seen_parts s0 s1)) in
    let few : length parts ≤ 1 = omega (arith, c.len.ensures, c.if-len-gt1.false) in
    let is : p ≡ slice_index_or parts c.args.i p = search rules in
    c.in_ok-put_sections.ensures
    ∙ writes_single s0 s1 parts c.args.i p s few lt is
    ∙ ap (λ (fs : List Sections). message_octets (slice_index_or fs c.args.i s)) c.self.view_is
