use Rattle.std.proofs.Common.{rules, arith, ◌<◌, ◌≤◌, ◌∙◌, ℕ, sym, subst, length, refl}
use Rattle.fd_shares.specs.Sharing.{ListedTo, listed_below}
use Rattle.fd_shares.proofs.Listing.{listing_begins, listing_ends, listing_turns, next_fills}
use Rattle.fd_shares.proofs.Shares.{met_on, same_met}
use Rattle.fd_shares.proofs.round.list_share.Goals as goal

pub loop-n-init : goal.loop-n-init
loop-n-init g c = record {
  running = c.requires.can.running;
  met = same_met c.args.job.now.desks.items;
  long = refl;
  goes = λ names pairs all. listing_begins g.H.Shelf.kept pairs c.args.datasets.now names c.args.job.now.desks.items all;
}

pub list_desk-requires-clause-can : goal.list_desk-requires-clause-can
list_desk-requires-clause-can g c κs within =
    let r = c.requires.can in
    let inv = c.loop-n.invariant in
    let n : ℕ = c.loop-n.n in
    let lt : n < length c.args.job.now.desks.items = search rules in
    record {
      names = r.names;
      stages = listed_below n;
      pairs = r.pairs;
      works = inv.goes r.names r.pairs r.works;
      filling = next_fills n;
      inside = omega (arith, lt, inv.long);
      few = omega (arith, r.few, inv.long);
    }

pub loop-n-preserved : goal.loop-n-preserved
loop-n-preserved g c =
    let inv = c.loop-n.invariant in
    let n : ℕ = c.loop-n.n in
    record {
      running = c.in-Ok.ensures.halt ∙ inv.running;
      met = met_on c.args.job.now.desks.items c.loop-n.job.desks.items c.list_desk.new.job.desks.items inv.met c.in-Ok.ensures.met;
      long = c.in-Ok.ensures.long ∙ inv.long;
      goes = λ names pairs all. listing_turns g.H.Shelf.kept n pairs c.args.datasets.now names c.list_desk.new.job.desks.items (c.in-Ok.ensures.lists names (listed_below n) pairs (inv.goes names pairs all) (next_fills n));
    }

pub returns-in-Err : goal.returns-in-Err
returns-in-Err g c =
    let inv = c.loop-n.invariant in
    let n : ℕ = c.loop-n.n in
    record {
      listed = record {
        met = met_on c.args.job.now.desks.items c.loop-n.job.desks.items c.list_desk.new.job.desks.items inv.met c.in-Err.ensures.met;
        goes = λ names pairs all. c.in-Err.ensures.lists names (listed_below n) pairs (inv.goes names pairs all) (next_fills n);
      };
    }

pub returns : goal.returns
returns g c =
    let inv = c.loop-n.invariant in
    let n : ℕ = c.loop-n.n in
    let le : length c.args.job.now.desks.items ≤ n = search rules in
    record {
      listed = record {
        met = inv.met;
        goes = λ names pairs all.
            subst (ListedTo g.H.Shelf.kept c.args.datasets.now names pairs c.loop-n.job.desks.items) (sym inv.running)
            (listing_ends g.H.Shelf.kept n pairs c.args.datasets.now names c.loop-n.job.desks.items (omega (arith, le, inv.long)) (inv.goes names pairs all));
      };
    }
