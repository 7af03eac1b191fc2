use Rattle.std.proofs.Common.{drop, sym, subst, List, ℕ}
use Rattle.fd_session.specs.Splits.{HasGiven}
use Rattle.fd_session.proofs.Parting.{given_nothing, refused_now}
use Rattle.fd_session.proofs.splitting.split_stream.Goals as goal

pub returns-in-Ok : goal.returns-in-Ok
returns-in-Ok c =
    let octets = drop c.args.place c.args.octets.items in
    let p = c.in_ok-splitter.splitter in
    let none = subst (λ (ms : List (List ℕ)). HasGiven octets p ms) (sym c.new-messages.ensures) (given_nothing octets p c.in_ok-splitter.ensures) in
    c.ended.ensures octets (c.in-Ok.ensures.given octets none)

pub returns-in-Err : goal.returns-in-Err
returns-in-Err c =
    let octets = drop c.args.place c.args.octets.items in
    let p = c.in_ok-splitter.splitter in
    let none = subst (λ (ms : List (List ℕ)). HasGiven octets p ms) (sym c.new-messages.ensures) (given_nothing octets p c.in_ok-splitter.ensures) in
    refused_now octets p c.new-messages.result none c.in-Err.unsplit c.args.past c.in-Err.ensures.refused
