-- What a look-up finds, and what is known of a key after it.
use Rattle.std.proofs.Common.{◌≡◌, ◌≤◌, ◌<◌, ◌+◌, ◌-◌, ℕ, zero, suc, List, [], ◌∷◌, map, take, drop, length, Option, None, Some, All, refl, sym, ap, ◌∙◌, subst, arith, slice_get}
use Rattle.std.specs.Prelude.{IfSome, IsSome}
use Rattle.std.proofs.lemmas.List.{length-map}
use Rattle.std.proofs.lemmas.Option.{slice_get_within, same_Some}
use Rattle.fd_entries.specs.declared.batch.Pair.{Pair}
use Rattle.fd_entries.specs.Batches.{newest, of_batch, or_older}
use Rattle.fd_segment.specs.Copying.{IsOfBatch, bytes_at}
use Rattle.fd_segment.specs.Held.{Files, Standing, batch_of, batch_told, behind}
use Rattle.fd_dataset.specs.Listed.{listing}
use Rattle.fd_retriever.specs.Kept.{IsNumbered}
use Rattle.fd_retriever.specs.Answers.{LackBehind, Tells}
use Rattle.fd_retriever.proofs.Copying.{missed}
use Rattle.fd_retriever.proofs.Newest.{here, missed_here, none_at_end}
use Rattle.fd_retriever.proofs.Saying.{lack_at_end, lack_more}
use Rattle.fd_finding.specs.declared.spot.Sought.{Sought}
use Rattle.fd_retriever.specs.declared.spot.Spot.{Spot}
use Rattle.fd_finding.specs.Spots.{AllSayOf, IsAnswer, IsNewestAt, IsShown, IsWithin, SaysAt}
use Rattle.fd_finding.specs.Searching.{Finds, FindsAt, FindsMore, IsFound, IsSoFar, Lacks, Looked, SoFar}

-- before the last segment is searched
pub lacks_at_end : (ss : List Standing) (key : List ℕ) (n : ℕ) → length ss ≤ n → Lacks ss key n
lacks_at_end ss key n long = record {
  index = lack_at_end ss key n long;
  batch = λ t told. none_at_end (map listing ss) t key n told (omega (arith, long, length-map ss listing));
}

-- one more segment was searched
pub found_more : (ss : List Standing) (n : ℕ) (s : Standing) (key : List ℕ) (old new : Option Spot) → IsNumbered ss n s → FindsMore s.files n key old new → SoFar ss n key old → SoFar ss (n - 1) key new
found_more ss n s key (Some p) new at more so_far = subst (SoFar ss (n - 1) key) (sym more) so_far
found_more ss n s key None (Some p) at more lacks = record {
  segment = s;
  numbered = subst (λ (m : ℕ). IsNumbered ss m s) (sym more.here) at;
  found = record { here = refl; inside = more.inside; says = more.says; batch = more.batch };
  lacks = subst (Lacks ss key) (sym more.here) lacks;
}
found_more ss n s key None None at more lacks = record {
  index = lack_more ss key key n (n - 1) s refl refl at more.0 lacks.index;
  batch = λ t told. missed_here ss t n s key None None told at (lacks.batch t told) (λ b is. missed s.files key None b more.1 is);
}

pub so_far_more : (ss : List Standing) (n : ℕ) (s : Standing) (old new : Sought) → IsNumbered ss n s → Looked s.files n old new → IsSoFar ss n old → IsSoFar ss (n - 1) new
so_far_more ss n s old new at looked so_far = subst (λ (k : List ℕ). SoFar ss (n - 1) k new.spot) (sym looked.key) (found_more ss n s old.key old.spot new.spot at looked.more so_far)

-- what is found stays found
pub found_stays : (ss : List Standing) (n m : ℕ) (key : List ℕ) (o : Option Spot) → IsSome o → SoFar ss n key o → SoFar ss m key o
found_stays ss n m key (Some p) some so_far = so_far
found_stays ss n m key None some so_far = absurd (cc some)

-- what the indexes say of a key that was looked for in all segments
pub all_say : (ss : List Standing) (key : List ℕ) (o : Option Spot) → SoFar ss 0 key o → AllSayOf ss key o
all_say ss key (Some p) f = record { segment = f.segment; numbered = f.numbered; inside = f.found.inside; says = f.found.says; behind = f.lacks.index }
all_say ss key None f = f.index

-- the fields are told where the files stand for a batch
told_fields : (f : Files) (b : List Pair) → batch_of f ≡ Some b → (fields : List ℕ) × (f.fields ≡ Some fields)
unfolding batch_of
told_fields f b is = go f.index f.fields is
  where
    go : (index fields : Option (List ℕ)) → batch_told f.entry index fields ≡ Some b → (bytes : List ℕ) × (fields ≡ Some bytes)
    go (Some index) (Some fields) is = (fields, refl)
    go (Some index) None is = absurd (cc is)
    go None fields is = absurd (cc is)

newest_some : (t : List (List Pair)) (i : ℕ) (k x : List ℕ) → newest (drop i t) k ≡ Some x → newest t k ≡ Some x
newest_some t zero k x h = h
newest_some [] (suc i) k x h = h
newest_some (b ∷ bs) (suc i) k x h = ap (λ (o : Option (List ℕ)). or_older o (of_batch b k)) (newest_some bs i k x h)

-- and what the batches have
pub is_answer : (ss : List Standing) (t : List (List Pair)) (key : List ℕ) (o : Option Spot) → Tells (map listing ss) t → SoFar ss 0 key o → IsAnswer ss t key o
is_answer ss t key None told f = f.batch t told
is_answer ss t key (Some p) told f =
    let above = f.lacks.batch t told in
    let w = here ss t p.number f.segment key told f.numbered above in
    let fields = told_fields f.segment.files w.batch w.told in
    let bytes : Some (take p.len (drop p.at fields.0)) ≡ of_batch w.batch key = subst (λ (o : Option (List ℕ)). IfSome o (λ all. bytes_at all (Some (p.at, p.len)) ≡ of_batch w.batch key)) fields.1 (f.found.batch w.batch w.told) in
    record {
      segment = f.segment;
      numbered = f.numbered;
      fields = fields.0;
      told = fields.1;
      bytes = newest_some t (p.number - 1) key (take p.len (drop p.at fields.0)) (w.newest_is ∙ sym bytes);
      behind = above;
    }

-- and its bytes can be copied
pub is_within : (ss : List Standing) (key : List ℕ) (o : Option Spot) → SoFar ss 0 key o → IfSome o (IsWithin ss)
is_within ss key None f = tt
is_within ss key (Some p) f = record {
  from = f.numbered.0;
  to = let lt = slice_get_within ss (p.number - 1) f.segment f.numbered.1 in omega (arith, lt, f.numbered.0);
  ends = λ s is.
      let own : f.segment ≡ s = same_Some f.segment s (sym f.numbered.1 ∙ is) in
      subst (λ (u : Standing). p.at + p.len + behind u.files.entry ≤ u.files.entry.fields_len) own f.found.inside;
  key = key;
  said = λ s is.
      let own : f.segment ≡ s = same_Some f.segment s (sym f.numbered.1 ∙ is) in
      subst (λ (u : Standing). SaysAt u.files key p.at p.len) own f.found.says;
}
