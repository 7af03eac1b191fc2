use Rattle.std.proofs.Common.{subst}
use mathlib.Core.List.{IsPrefix}
use Rattle.fd_dataset.proofs.Closing.{seen_entries, doubt_entry}
use Rattle.fd_dataset.proofs.dataset.Dataset.close.Goals as goal

pub returns-clause-seen : goal.returns-clause-seen
returns-clause-seen g c = seen_entries _ c.close-desk.result.1.segments.items _ _ c.close-desk.result.1.listed (subst (IsPrefix c.args.pass.seat.me.0.history) c.close-desk.ensures.same c.close-desk.ensures.seen)

pub returns-clause-doubt : goal.returns-clause-doubt
returns-clause-doubt g c = λ e is. doubt_entry _ c.close-desk.result.1.doubted _ e _ c.close-desk.result.1.doubt_is is c.close-desk.ensures.doubt
