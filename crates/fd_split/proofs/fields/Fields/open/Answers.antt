use Rattle.std.proofs.Common.{◌≡◌, ◌≤◌, ◌<◌, ◌∙◌, [], ℕ, List, Option, Some, None, Ok, Err, length, map, ap, sym, arith}
use Rattle.std.proofs.lemmas.List.{length-map}
use Rattle.fd_sections.specs.Reading.{indicator_at, section_at}
use Rattle.fd_split.specs.Rounds.{fields_in, no_force, unmapped, unmapped_field}
use Rattle.fd_split.specs.Seen.{all_seen, seen, seen_parts}
use Rattle.fd_split.proofs.Opening.{all_whole, are_rounds, err_opened, lacks_none, lacks_one, lacks_single, measured_long, no_identification, no_indicator, read_lacking, read_whole, shorter}
use Rattle.fd_split.proofs.fields.Fields.open.Goals.{in-Some+else-len-gt1, in-None}
use Rattle.fd_split.proofs.fields.Fields.open.Goals as goal

pub returns-in-Err-clause-opened : goal.returns-in-Err-clause-opened
returns-in-Err-clause-opened c = no_indicator c.args.bytes.now c.in-Err.bad c.in-Err.ensures.read

pub returns-in-Err-section-clause-opened : goal.returns-in-Err-section-clause-opened
returns-in-Err-section-clause-opened c = no_identification c.args.bytes.now c.in-Ok.read.0.now c.in-Ok.read.1.now c.in-Err-section.bad c.in-Ok.ensures.read c.in-Err-section.ensures.read

pub read_all-requires-clause-fits : goal.read_all-requires-clause-fits
read_all-requires-clause-fits c =
    let m = c.args.bytes.now in
    let s0 = c.in-Ok.read.0.now in
    let r0 = c.in-Ok.read.1.now in
    let s1 = c.in-Ok-section.read.0.now in
    let r1 = c.in-Ok-section.read.1.now in
    let a : indicator_at m ≡ Ok (s0, r0) = c.in-Ok.ensures.read in
    let b : section_at 1 21 r0 ≡ Ok (s1, r1) = c.in-Ok-section.ensures.read in
    (shorter m s0 r0 s1 r1 a b).rest

pub returns-in-Err-read_all-clause-opened : goal.returns-in-Err-read_all-clause-opened
returns-in-Err-read_all-clause-opened c =
    let m = c.args.bytes.now in
    let s0 = c.in-Ok.read.0.now in
    let r0 = c.in-Ok.read.1.now in
    let s1 = c.in-Ok-section.read.0.now in
    let r1 = c.in-Ok-section.read.1.now in
    let a : indicator_at m ≡ Ok (s0, r0) = c.in-Ok.ensures.read in
    let b : section_at 1 21 r0 ≡ Ok (s1, r1) = c.in-Ok-section.ensures.read in
    err_opened m s0 r0 s1 r1 [] c.read_all.new.rounds.items c.in-Err-read_all.fault a b c.in-Err-read_all.ensures.read

pub cut-requires-clause-few : goal.cut-requires-clause-few
cut-requires-clause-few c =
    let m = c.args.bytes.now in
    let s0 = c.in-Ok.read.0.now in
    let r0 = c.in-Ok.read.1.now in
    let s1 = c.in-Ok-section.read.0.now in
    let r1 = c.in-Ok-section.read.1.now in
    let a : indicator_at m ≡ Ok (s0, r0) = c.in-Ok.ensures.read in
    let b : section_at 1 21 r0 ≡ Ok (s1, r1) = c.in-Ok-section.ensures.read in
    let s = shorter m s0 r0 s1 r1 a b in
    let limit = s.limit in
    let rest = s.rest in
    omega (arith, limit, rest, ap length c.deref.ensures.value, c.in-Ok-read_all.ensures.few)

pub returns-then-len-gt1-clause-opened : goal.returns-then-len-gt1-clause-opened
returns-then-len-gt1-clause-opened c =
    let m = c.args.bytes.now in
    let s0 = c.in-Ok.read.0.now in
    let r0 = c.in-Ok.read.1.now in
    let s1 = c.in-Ok-section.read.0.now in
    let r1 = c.in-Ok-section.read.1.now in
    let a : indicator_at m ≡ Ok (s0, r0) = c.in-Ok.ensures.read in
    let b : section_at 1 21 r0 ≡ Ok (s1, r1) = c.in-Ok-section.ensures.read in
    let rd = c.in-Ok-read_all.ensures.read in
    let rs = rd.0 in
    let seen_is : all_seen c.deref.result.now ≡ rs = ap all_seen c.deref.ensures.value ∙ rd.2 in
    let x = are_rounds m s0 r0 s1 r1 rs a b rd.1 in
    let parts = c.cut.new.parts.items in
    let count : length parts ≡ length rs = c.in-Ok-cut.ensures.long ∙ sym (length-map c.deref.result.now seen) ∙ ap length seen_is in
    let some : 1 < length rs = omega (arith, c.len.ensures, c.if-len-gt1.true, count) in
    let lacks : Some c.in-Some.field ≡ unmapped 1 no_force rs = sym c.in-Some.is ∙ c.in-Ok-cut.ensures.lacks ∙ ap (unmapped 1 no_force) seen_is in
    read_lacking m s0 s1 rs c.in-Some.field x (lacks_one rs c.in-Some.field some lacks)

pub invariant_of-result : goal.invariant_of-result
invariant_of-result c =
    let m = c.args.bytes.now in
    let s0 = c.in-Ok.read.0.now in
    let r0 = c.in-Ok.read.1.now in
    let s1 = c.in-Ok-section.read.0.now in
    let r1 = c.in-Ok-section.read.1.now in
    let a : indicator_at m ≡ Ok (s0, r0) = c.in-Ok.ensures.read in
    let b : section_at 1 21 r0 ≡ Ok (s1, r1) = c.in-Ok-section.ensures.read in
    let s = shorter m s0 r0 s1 r1 a b in
    let limit = s.limit in
    let rest = s.rest in
    (s.size, omega (arith, limit, rest, ap length c.deref.ensures.value, c.in-Ok-read_all.ensures.few, c.in-Ok-cut.ensures.long))

pub returns-clause-opened : goal.returns-clause-opened
returns-clause-opened c =
    let m = c.args.bytes.now in
    let s0 = c.in-Ok.read.0.now in
    let r0 = c.in-Ok.read.1.now in
    let s1 = c.in-Ok-section.read.0.now in
    let r1 = c.in-Ok-section.read.1.now in
    let a : indicator_at m ≡ Ok (s0, r0) = c.in-Ok.ensures.read in
    let b : section_at 1 21 r0 ≡ Ok (s1, r1) = c.in-Ok-section.ensures.read in
    let rd = c.in-Ok-read_all.ensures.read in
    let rs = rd.0 in
    let seen_is : all_seen c.deref.result.now ≡ rs = ap all_seen c.deref.ensures.value ∙ rd.2 in
    let x = are_rounds m s0 r0 s1 r1 rs a b rd.1 in
    let parts = c.cut.new.parts.items in
    let fields : map (seen_parts s0 s1) parts ≡ fields_in s0 s1 no_force rs = c.in-Ok-cut.ensures.parts s0 s1 ∙ ap (fields_in s0 s1 no_force) seen_is in
    let count : length parts ≡ length rs = c.in-Ok-cut.ensures.long ∙ sym (length-map c.deref.result.now seen) ∙ ap length seen_is in
    let none : unmapped_field rs ≡ None = elim c.match-lacking.branch [
      | in-Some+else-len-gt1 w ↦ lacks_single rs (omega (arith, w.len.ensures, w.if-len-gt1.false, count))
      | in-None w ↦ lacks_none rs (sym w.in-None.is ∙ c.in-Ok-cut.ensures.lacks ∙ ap (unmapped 1 no_force) seen_is)
    ] in
    read_whole m s0 s1 rs (map (seen_parts s0 s1) parts) x none fields

pub returns-clause-whole : goal.returns-clause-whole
returns-clause-whole c =
    let m = c.args.bytes.now in
    let s0 = c.in-Ok.read.0.now in
    let r0 = c.in-Ok.read.1.now in
    let s1 = c.in-Ok-section.read.0.now in
    let r1 = c.in-Ok-section.read.1.now in
    let a : indicator_at m ≡ Ok (s0, r0) = c.in-Ok.ensures.read in
    let b : section_at 1 21 r0 ≡ Ok (s1, r1) = c.in-Ok-section.ensures.read in
    let rd = c.in-Ok-read_all.ensures.read in
    let rs = rd.0 in
    let seen_is : all_seen c.deref.result.now ≡ rs = ap all_seen c.deref.ensures.value ∙ rd.2 in
    let x = are_rounds m s0 r0 s1 r1 rs a b rd.1 in
    let parts = c.cut.new.parts.items in
    let fields : map (seen_parts s0 s1) parts ≡ fields_in s0 s1 no_force rs = c.in-Ok-cut.ensures.parts s0 s1 ∙ ap (fields_in s0 s1 no_force) seen_is in
    all_whole m s0 s1 rs (map (seen_parts s0 s1) parts) x fields

pub returns-clause-few : goal.returns-clause-few
returns-clause-few c =
    let m = c.args.bytes.now in
    let s0 = c.in-Ok.read.0.now in
    let r0 = c.in-Ok.read.1.now in
    let s1 = c.in-Ok-section.read.0.now in
    let r1 = c.in-Ok-section.read.1.now in
    let a : indicator_at m ≡ Ok (s0, r0) = c.in-Ok.ensures.read in
    let b : section_at 1 21 r0 ≡ Ok (s1, r1) = c.in-Ok-section.ensures.read in
    let s = shorter m s0 r0 s1 r1 a b in
    let rest = s.rest in
    let parts = c.cut.new.parts.items in
    omega (arith, rest, ap length c.deref.ensures.value, c.in-Ok-read_all.ensures.few, c.in-Ok-cut.ensures.long, measured_long (map (seen_parts s0 s1) parts), length-map parts (seen_parts s0 s1))
