use Rattle.std.proofs.Common.{rules, ◌≡◌, ap, refl, Ok, Err}
use Rattle.fd_schema.specs.Rules.{file_key}
use Rattle.fd_schema.specs.Reading.{seen_place}
use Rattle.fd_archiver.specs.declared.fault.ArchiveFault.TheVariants as archives
use Rattle.fd_lanes.proofs.Keeping.{doubt_same, put_kept}
use Rattle.fd_lanes.proofs.Stepping.{moves_put, moves_put_fault, moves_put_unlisted}
use Rattle.fd_lanes.proofs.steps.put_step.Goals as goal

pub returns-in-Ok-clause-moves : goal.returns-in-Ok-clause-moves
returns-in-Ok-clause-moves g c = λ v s f.
    let done : c.archive.result ≡ Ok tt = search rules in
    moves_put _ _ c.args.archiver.now c.archive.new.self v s (record { key = file_key (seen_place c.args.place.now); bytes = c.args.bytes.now }) (search rules) (ap (λ w. w.unlisted) c.archive.ensures.rest) (λ some. cc (c.archive.ensures.unlisted.1 some, done)) f

pub returns-in-Err-Unlisted-clause-moves : goal.returns-in-Err-Unlisted-clause-moves
returns-in-Err-Unlisted-clause-moves g c = λ v s f.
    let refused : c.archive.result ≡ Err archives.Unlisted = search rules in
    moves_put_unlisted _ _ c.args.archiver.now c.archive.new.self v s (record { key = file_key (seen_place c.args.place.now); bytes = c.args.bytes.now }) (c.archive.ensures.unlisted.0 refused) (search rules) (ap (λ w. w.unlisted) c.archive.ensures.rest) f

pub returns-in-Err-Disk-clause-moves : goal.returns-in-Err-Disk-clause-moves
returns-in-Err-Disk-clause-moves g c = λ v s f.
    let failed : c.archive.result ≡ Err (archives.Disk c.in-Err-Disk.fault) = search rules in
    moves_put_fault _ _ c.args.archiver.now c.archive.new.self v s (record { key = file_key (seen_place c.args.place.now); bytes = c.args.bytes.now }) c.in-Err-Disk.fault (search rules) (ap (λ w. w.unlisted) c.archive.ensures.rest) (λ some. cc (c.archive.ensures.unlisted.1 some, failed)) f

pub returns-in-Ok-clause-kept : goal.returns-in-Ok-clause-kept
returns-in-Ok-clause-kept g c = λ history. put_kept _ _ g.H.Shelf.kept c.args.archiver.now c.archive.new.self history _ c.archive.ensures.rest c.archive.ensures.origin tt

pub returns-in-Err-Unlisted-clause-kept : goal.returns-in-Err-Unlisted-clause-kept
returns-in-Err-Unlisted-clause-kept g c = λ history. put_kept _ _ g.H.Shelf.kept c.args.archiver.now c.archive.new.self history _ c.archive.ensures.rest c.archive.ensures.origin tt

pub returns-in-Ok-clause-doubted : goal.returns-in-Ok-clause-doubted
returns-in-Ok-clause-doubted g c = λ doubts d. doubt_same _ c.args.archiver.now c.archive.new.self doubts doubts (ap (λ w. w.unlisted) c.archive.ensures.rest) (ap (λ w. w.is_kept) c.archive.ensures.rest) refl d

pub returns-in-Err-Unlisted-clause-doubted : goal.returns-in-Err-Unlisted-clause-doubted
returns-in-Err-Unlisted-clause-doubted g c = λ doubts d. doubt_same _ c.args.archiver.now c.archive.new.self doubts doubts (ap (λ w. w.unlisted) c.archive.ensures.rest) (ap (λ w. w.is_kept) c.archive.ensures.rest) refl d

pub returns-in-Err-Disk-clause-doubted : goal.returns-in-Err-Disk-clause-doubted
returns-in-Err-Disk-clause-doubted g c = λ doubts d. doubt_same _ c.args.archiver.now c.archive.new.self doubts doubts (ap (λ w. w.unlisted) c.archive.ensures.rest) (ap (λ w. w.is_kept) c.archive.ensures.rest) refl d
