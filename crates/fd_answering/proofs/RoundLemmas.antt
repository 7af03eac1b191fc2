-- Keys that are answered in steps.
use Rattle.std.proofs.Common.{◌≡◌, ◌∙◌, ◌≤◌, ◌<◌, ◌+◌, ◌-◌, ℕ, List, [], length, Option, Ok, Err, refl, sym, ap, subst, arith}
use Rattle.fd_bytes.specs.Causes.{Rose}
use Rattle.fd_io.specs.Streams.{Takes, TakesFront}
use Rattle.fd_key.specs.Pairs as keys
use Rattle.fd_ahead.specs.declared.located.Located.{Located}
use Rattle.fd_ahead.specs.Reading.{AreJoined}
use Rattle.fd_outcome.specs.Objects.{object}
use Rattle.fd_answering.specs.declared.answering.Halt.{Halt}
use Rattle.fd_answering.specs.declared.answering.Halt.TheVariants as halts
use Rattle.fd_answering.specs.Finding.{OnUnwritten}
use Rattle.fd_ahead.specs.Places.{Open}
use Rattle.fd_answering.specs.Rounds.{IsRound}
use Rattle.fd_answering.proofs.AnsweringLemmas.{took_both, took_nothing}
use Rattle.fd_answering.proofs.JoinedLemmas.{joined_answered, joined_in_part}

-- a count that rose later rose since before, too
rose_since : (a b c : ℕ) → a ≤ b → Rose b c → Rose a c
rose_since a b c le rose = λ small. let lt = rose small in omega (arith, le, lt)

module _ {F X : Type 0} where
  cause_since : (e : Halt F X) (k m n u v w : ℕ) → k ≤ m → u ≤ v → OnUnwritten e (Rose m n) (Rose v w) → OnUnwritten e (Rose k n) (Rose u w)
  cause_since (halts.Disk f) k m n u v w le up is = tt
  cause_since (halts.Unwritten x) k m n u v w le up is = rose_since k m n le is
  cause_since (halts.Untold x) k m n u v w le up is = rose_since u v w up is
  cause_since (halts.Damaged d damage) k m n u v w le up is = tt
  cause_since halts.NoMemory k m n u v w le up is = tt

  module _ (os : List Open) (ks : List (List keys.Pair)) (located : List (Option Located)) where
    -- no key yet
    pub round_none : (from found : ℕ) (a c : Option (List ℕ)) (m u : ℕ) → found ≤ from → IsRound {F = F} {X = X} os ks located from from found (object a a m m) (object c c u u) (Ok found)
    round_none from found a c m u few = record {
      answered = λ xs a0 c0 there so_far. so_far;
      counted = few;
      halted = tt;
      output_later = omega arith;
      calm = refl;
      report_later = omega arith;
      cause = tt;
      damaged = tt;
      grew = took_nothing c;
    }

    module _ (from mid to f0 f1 : ℕ) (a b b' c d d' : Option (List ℕ)) (k m n u v w : ℕ) (first : IsRound {F = F} {X = X} os ks located from mid f0 (object a b k m) (object c d u v) (Ok f1)) where
      -- keys, and those after them
      pub rounds_both : (f2 : ℕ) → IsRound {F = F} {X = X} os ks located mid to f1 (object b b' m n) (object d d' v w) (Ok f2)
          → IsRound {F = F} {X = X} os ks located from to f0 (object a b' k n) (object c d' u w) (Ok f2)
      rounds_both f2 second =
          let p = first.output_later in let q = second.output_later in let s = first.report_later in let t = second.report_later in
          record {
            answered = λ xs a0 c0 there so_far. second.answered xs a0 c0 there (first.answered xs a0 c0 there so_far);
            counted = second.counted;
            halted = tt;
            output_later = omega (arith, p, q);
            calm = second.calm ∙ first.calm;
            report_later = omega (arith, s, t);
            cause = tt;
            damaged = tt;
            grew = took_both c d d' first.grew second.grew;
          }

      -- the same where not all of those after them were answered; how far they were to go makes no difference
      pub rounds_halted : (e : Halt F X) (end : ℕ) → IsRound {F = F} {X = X} os ks located mid end f1 (object b b' m n) (object d d' v w) (Err e)
          → IsRound {F = F} {X = X} os ks located from to f0 (object a b' k n) (object c d' u w) (Err e)
      rounds_halted e end second =
          let p = first.output_later in let q = second.output_later in let s = first.report_later in let t = second.report_later in
          record {
            answered = tt;
            counted = tt;
            halted = λ xs a0 c0 there so_far. second.halted xs a0 c0 there (first.answered xs a0 c0 there so_far);
            output_later = omega (arith, p, q);
            calm = tt;
            report_later = omega (arith, s, t);
            cause = cause_since e k m n u v w p s second.cause;
            damaged = second.damaged;
            grew = took_both c d d' first.grew second.grew;
          }

    module _ (from n found : ℕ) (bytes : List ℕ) (few : found ≤ from) (within : from + n ≤ length ks) (joined : AreJoined os located from n [] bytes) (a b c : Option (List ℕ)) (k m u : ℕ) where
      -- keys whose bytes were joined, and written
      pub joined_round : Takes a b bytes → m ≡ k → IsRound {F = F} {X = X} os ks located from (from + n) found (object a b k m) (object c c u u) (Ok (found + n))
      joined_round took calm = record {
        answered = λ xs a0 c0 there so_far. joined_answered os ks xs located there from n bytes within joined a0 a b c0 c found few so_far took;
        counted = omega (arith, few);
        halted = tt;
        output_later = omega (arith, calm);
        calm = calm;
        report_later = omega arith;
        cause = tt;
        damaged = tt;
        grew = took_nothing c;
      }

      -- a write of them failed
      pub joined_halted : (fault : X) (to : ℕ) → TakesFront a b bytes → k ≤ m → Rose k m → IsRound {F = F} {X = X} os ks located from to found (object a b k m) (object c c u u) (Err (halts.Unwritten fault))
      joined_halted fault to front later rose = record {
        answered = tt;
        counted = tt;
        halted = λ xs a0 c0 there so_far. joined_in_part os ks xs located there from n bytes within joined a0 a b c0 c found so_far front;
        output_later = later;
        calm = tt;
        report_later = omega arith;
        cause = rose;
        damaged = tt;
        grew = took_nothing c;
      }
