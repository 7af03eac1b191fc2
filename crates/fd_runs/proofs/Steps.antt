-- One step of the machine, from where a writer stands to where it stands then.
use Rattle.std.proofs.Common.{◌≡◌, ◌≢◌, ◌&&◌, if◌then◌else◌, ℕ, ◌+◌, ◌-◌, ◌^◌, ◌<◌, Bool, true, false, not, nat_lt, List, [], ◌∷◌, ◌++◌, length, refl, sym, ◌∙◌, ap, subst, arith, Option, Some, None, is_none, is_some}
use Rattle.std.proofs.lemmas.Bool.Decides.{nat_tests}
use Rattle.fd_disk.specs.declared.file.File.{File}
use Rattle.fd_disk.specs.Images.{synced}
use Rattle.fd_entries.specs.declared.table.Entry.{Entry}
use Rattle.fd_entries.specs.declared.batch.Pair.{Pair}
use Rattle.fd_entries.specs.Table.{body_of, with_body, with_gate, with_closed}
use Rattle.fd_entries.specs.Standing.{IsSettled}
use Rattle.fd_entries.specs.Batches.{is_empty, with_pair}
use Rattle.fd_entries.proofs.StandingLemmas.{written_settled}
use Rattle.fd_machine.specs.declared.machine.Phase.{Phase}
use Rattle.fd_machine.specs.declared.machine.Phase.TheVariants.{Filling, Synced, Written, Sealed, Holding, BodyLoose, BodyFirm, GateLoose, Listed, Posted}
use Rattle.fd_machine.specs.declared.machine.Step.{Step}
use Rattle.fd_machine.specs.declared.machine.Step.TheVariants.{Put, SyncData, WriteIndex, SyncIndex, Take, Body, SyncBody, Gate, SyncGate, Post, Release, Fail}
use Rattle.fd_machine.specs.declared.machine.Took.TheVariants.{No, Yes}
use Rattle.fd_machine.specs.declared.machine.Writer.{Writer}
use Rattle.fd_machine.specs.World.{World}
use Rattle.fd_machine.specs.Machine.{after, back, can_fail, can_put, effect, entry_of, failed, filled, fresh, gone_to, is_in_phase, possible, put_writer, writer_in, writer_of}
use Rattle.fd_machine.specs.Took.{IsReached, took_by}
use Rattle.fd_machine.proofs.Holds.{HoldsUp}
use Rattle.fd_machine.proofs.Updates.{writer_elsewhere, writer_there}
use Rattle.fd_machine.proofs.Keeping.{id_is}
use Rattle.fd_machine.proofs.Fetching.{same_count}
use Rattle.fd_machine.proofs.Reached.{done, reached_step, reached_up}
use Rattle.fd_machine.proofs.Steps.{gate_numbers, owned, same_numbers}
use Rattle.fd_runs.specs.Runs.{Told, Takes, ran, taken}

-- a writer with these pairs
abbrev pub made : ℕ → List Pair → Phase → ℕ → Writer
made w b p q = record { id = w; pairs = b; phase = p; seq = q }

-- the machine is up, nothing is in doubt, and the writer stands so
pub record At (s : World) (w : ℕ) (x : Writer) (o : Option ℕ) (h : List (List Pair)) : Type 0 where
  pub reached : IsReached s
  pub up : s.down ≡ false
  pub sure : s.doubt ≡ None
  pub owner : s.owner ≡ o
  pub history : s.history ≡ h
  pub here : writer_of s w ≡ x

-- the other writers stand as before
abbrev pub Others : World → World → ℕ → Type 0
Others s t w = (v : ℕ) → v ≢ w → writer_of t v ≡ writer_of s v

-- the steps are taken, and leave the writer so
pub record Goes (s : World) (w : ℕ) (xs : List Told) (x : Writer) (o : Option ℕ) (h : List (List Pair)) : Type 0 where
  pub takes : Takes s xs
  pub at : At (ran xs s) w x o h
  pub others : Others s (ran xs s) w

-- a step more in front
pub next : (s : World) (w : ℕ) (y : Told) (ys : List Told) (x x' : Writer) (o o' : Option ℕ) (h h' : List (List Pair)) → Goes s w (y ∷ []) x o h → (At (after s y.0) w x o h → Goes (after s y.0) w ys x' o' h') → Goes s w (y ∷ ys) x' o' h'
next s w y ys x x' o o' h h' g rest = let r = rest g.at in record { takes = (g.takes.0, r.takes); at = r.at; others = λ v d. r.others v d ∙ g.others v d }

pub ran_more : (xs ys : List Told) (s : World) → ran (xs ++ ys) s ≡ ran ys (ran xs s)
ran_more [] ys s = refl
ran_more (x ∷ xs) ys s = ran_more xs ys (after s x.0)

pub takes_more : (xs ys : List Told) (s : World) → Takes s xs → Takes (ran xs s) ys → Takes s (xs ++ ys)
takes_more [] ys s a b = b
takes_more (x ∷ xs) ys s a b = (a.0, takes_more xs ys (after s x.0) a.1 b)

-- some steps, and then others
pub on : (s : World) (w : ℕ) (xs ys : List Told) (x x' : Writer) (o o' : Option ℕ) (h h' : List (List Pair)) → Goes s w xs x o h → (At (ran xs s) w x o h → Goes (ran xs s) w ys x' o' h') → Goes s w (xs ++ ys) x' o' h'
on s w xs ys x x' o o' h h' g rest = let r = rest g.at in record {
  takes = takes_more xs ys s g.takes r.takes;
  at = subst (λ (t : World). At t w x' o' h') (sym (ran_more xs ys s)) r.at;
  others = subst (λ (t : World). Others s t w) (sym (ran_more xs ys s)) (λ v d. r.others v d ∙ g.others v d);
}

-- none
pub still : (s : World) (w : ℕ) (x : Writer) (o : Option ℕ) (h : List (List Pair)) → At s w x o h → Goes s w [] x o h
still s w x o h a = record { takes = tt; at = a; others = λ v d. refl }

-- a possible step, by what it makes of the machine
pub one : (s t : World) (w : ℕ) (step : Step) (x : Writer) (o : Option ℕ) (h : List (List Pair)) → IsReached s → possible s step ≡ true → took_by s step ≡ Yes → effect s step ≡ t
    → t.down ≡ false → t.doubt ≡ None → t.owner ≡ o → t.history ≡ h → writer_of t w ≡ x → Others s t w → Goes s w (taken step ∷ []) x o h
one s t w step x o h r may did is up sure owner history here others =
    let so : after s step ≡ t = done s step may ∙ is in
    record {
      takes = (ap (λ (b : Bool). if b then took_by s step else No) may ∙ did, tt);
      at = record {
        reached = reached_step s step r;
        up = subst (λ (u : World). u.down ≡ false) (sym so) up;
        sure = subst (λ (u : World). u.doubt ≡ None) (sym so) sure;
        owner = subst (λ (u : World). u.owner ≡ o) (sym so) owner;
        history = subst (λ (u : World). u.history ≡ h) (sym so) history;
        here = subst (λ (u : World). writer_of u w ≡ x) (sym so) here;
      };
      others = subst (λ (u : World). Others s u w) (sym so) others;
    }

-- another writer's record was put
put_others : (s : World) (w : ℕ) (x : Writer) (t : File) → x.id ≡ w → ((v : ℕ) → v ≢ w → writer_in s.writers v (fresh t v) ≡ writer_of s v) → (v : ℕ) → v ≢ w → writer_in (put_writer s.writers x) v (fresh t v) ≡ writer_of s v
put_others s w x t is same v differs = writer_elsewhere s.writers x (fresh t v) v (λ e. differs (sym e ∙ is)) ∙ same v differs

module _ (s : World) (w : ℕ) (b : List Pair) (q : ℕ) (o : Option ℕ) (h : List (List Pair)) where
  -- the writer is in another phase
  there : (p p' : Phase) (t : File) → At s w (made w b p q) o h → writer_in (put_writer s.writers (gone_to (writer_of s w) p')) w (fresh t w) ≡ made w b p' q
  there p p' t a = writer_there s.writers (gone_to (writer_of s w) p') (fresh t w) w (id_is s w) ∙ ap (λ (y : Writer). gone_to y p') a.here

  pub put_one : (key bytes : List ℕ) → can_put (made w b Filling q) key bytes ≡ true → At s w (made w b Filling q) o h → Goes s w (taken (Put w key bytes) ∷ []) (made w (with_pair b key bytes) Filling q) o h
  put_one key bytes fits a =
      let x = writer_of s w in
      let x' : Writer = filled x (with_pair x.pairs key bytes) in
      let may : possible s (Put w key bytes) ≡ can_put (made w b Filling q) key bytes = λ i. not (a.up i) && can_put (a.here i) key bytes in
      one s (effect s (Put w key bytes)) w (Put w key bytes) (made w (with_pair b key bytes) Filling q) o h a.reached
      (may ∙ fits) refl refl a.up a.sure a.owner a.history
      (writer_there s.writers x' (fresh s.table w) w (id_is s w) ∙ ap (λ (y : Writer). filled y (with_pair y.pairs key bytes)) a.here)
      (put_others s w x' s.table (id_is s w) (λ v d. refl))

  pub sync_data : is_empty b ≡ false → q < 2 ^ 32 - 1 → At s w (made w b Filling q) o h → Goes s w (taken (SyncData w) ∷ []) (made w b Synced q) o h
  sync_data full less a =
      let may : possible s (SyncData w) ≡ (not (is_empty b) && nat_lt q (2 ^ 32 - 1)) = λ i. not (a.up i) && (is_in_phase (a.here i) Filling && not (is_empty (a.here i).pairs) && nat_lt (a.here i).seq (2 ^ 32 - 1)) in
      let does : (not (is_empty b) && nat_lt q (2 ^ 32 - 1)) ≡ true = grind (arith, nat_tests, full, less) in
      one s (effect s (SyncData w)) w (SyncData w) (made w b Synced q) o h a.reached
      (may ∙ does) refl refl a.up a.sure a.owner a.history
      (there Filling Synced s.table a) (put_others s w (gone_to (writer_of s w) Synced) s.table (id_is s w) (λ v d. refl))

  pub write_index : At s w (made w b Synced q) o h → Goes s w (taken (WriteIndex w) ∷ []) (made w b Written q) o h
  write_index a =
      one s (effect s (WriteIndex w)) w (WriteIndex w) (made w b Written q) o h a.reached
      ((λ i. not (a.up i) && is_in_phase (a.here i) Synced)) refl refl a.up a.sure a.owner a.history
      (there Synced Written s.table a) (put_others s w (gone_to (writer_of s w) Written) s.table (id_is s w) (λ v d. refl))

  pub sync_index : At s w (made w b Written q) o h → Goes s w (taken (SyncIndex w) ∷ []) (made w b Sealed q) o h
  sync_index a =
      one s (effect s (SyncIndex w)) w (SyncIndex w) (made w b Sealed q) o h a.reached
      ((λ i. not (a.up i) && is_in_phase (a.here i) Written)) refl refl a.up a.sure a.owner a.history
      (there Written Sealed s.table a) (put_others s w (gone_to (writer_of s w) Sealed) s.table (id_is s w) (λ v d. refl))

  pub take_table : length h < 65535 → At s w (made w b Sealed q) None h → Goes s w (taken (Take w) ∷ []) (made w b Holding q) (Some w) h
  take_table room a =
      let may : possible s (Take w) ≡ nat_lt (length h) 65535 = λ i. not (a.up i) && (is_in_phase (a.here i) Sealed && is_none (a.owner i) && nat_lt (length (a.history i)) 65535) in
      let does : nat_lt (length h) 65535 ≡ true = grind (arith, nat_tests, room) in
      one s (effect s (Take w)) w (Take w) (made w b Holding q) (Some w) h a.reached
      (may ∙ does) refl refl a.up a.sure refl a.history
      (there_free a) (put_others s w (gone_to (writer_of s w) Holding) s.table (id_is s w) (λ v d. refl))
    where
      there_free : At s w (made w b Sealed q) None h → writer_in (put_writer s.writers (gone_to (writer_of s w) Holding)) w (fresh s.table w) ≡ made w b Holding q
      there_free a = writer_there s.writers (gone_to (writer_of s w) Holding) (fresh s.table w) w (id_is s w) ∙ ap (λ (y : Writer). gone_to y Holding) a.here

  -- the body that is written changes no other writer's number
  body_same : At s w (made w b Holding q) o h → (v : ℕ) → v ≢ w → writer_in s.writers v (fresh (with_body s.table (length s.history) (entry_of (writer_of s w))) v) ≡ writer_of s v
  body_same a =
      let u : HoldsUp s = reached_up s a.reached a.up in
      let table = owned s u w Holding (ap (λ (y : Writer). y.phase) a.here) (omega arith) a.sure in
      let t' = with_body s.table (length u.entries) (entry_of (writer_of s w)) in
      let settled : IsSettled [] u.entries t' = written_settled [] u.entries s.table (body_of (entry_of (writer_of s w)) ++ 0 ∷ []) table.0 in
      subst (λ (n : ℕ). (v : ℕ) → v ≢ w → writer_in s.writers v (fresh (with_body s.table n (entry_of (writer_of s w))) v) ≡ writer_of s v) (same_count s.files u.entries s.history u.stands)
      (λ v d. same_numbers s u.entries t' table.0.reads settled.reads v)

  pub body : At s w (made w b Holding q) o h → Goes s w (taken (Body w) ∷ []) (made w b BodyLoose q) o h
  body a =
      let t' = with_body s.table (length s.history) (entry_of (writer_of s w)) in
      one s (effect s (Body w)) w (Body w) (made w b BodyLoose q) o h a.reached
      ((λ i. not (a.up i) && (is_in_phase (a.here i) Holding && is_none (a.sure i)))) refl refl a.up a.sure a.owner a.history
      (there Holding BodyLoose t' a) (put_others s w (gone_to (writer_of s w) BodyLoose) t' (id_is s w) (body_same a))

  pub sync_body : At s w (made w b BodyLoose q) o h → Goes s w (taken (SyncBody w) ∷ []) (made w b BodyFirm q) o h
  sync_body a =
      one s (effect s (SyncBody w)) w (SyncBody w) (made w b BodyFirm q) o h a.reached
      ((λ i. not (a.up i) && is_in_phase (a.here i) BodyLoose)) refl refl a.up a.sure a.owner a.history
      (there BodyLoose BodyFirm (synced s.table) a) (put_others s w (gone_to (writer_of s w) BodyFirm) (synced s.table) (id_is s w) (λ v d. refl))

  gate_same : At s w (made w b BodyFirm q) o h → (v : ℕ) → v ≢ w → writer_in s.writers v (fresh (with_gate s.table (length s.history)) v) ≡ writer_of s v
  gate_same a =
      let u : HoldsUp s = reached_up s a.reached a.up in
      subst (λ (n : ℕ). (v : ℕ) → v ≢ w → writer_in s.writers v (fresh (with_gate s.table n) v) ≡ writer_of s v) (same_count s.files u.entries s.history u.stands)
      (gate_numbers s u w (owned s u w BodyFirm (ap (λ (y : Writer). y.phase) a.here) (omega arith) a.sure))

  pub gate : At s w (made w b BodyFirm q) o h → Goes s w (taken (Gate w) ∷ []) (made w b GateLoose q) o h
  gate a =
      let t' = with_gate s.table (length s.history) in
      one s (effect s (Gate w)) w (Gate w) (made w b GateLoose q) o h a.reached
      ((λ i. not (a.up i) && is_in_phase (a.here i) BodyFirm)) refl refl a.up a.sure a.owner a.history
      (there BodyFirm GateLoose t' a) (put_others s w (gone_to (writer_of s w) GateLoose) t' (id_is s w) (gate_same a))

  pub sync_gate : At s w (made w b GateLoose q) o h → Goes s w (taken (SyncGate w) ∷ []) (made w b Listed q) o h
  sync_gate a =
      one s (effect s (SyncGate w)) w (SyncGate w) (made w b Listed q) o h a.reached
      ((λ i. not (a.up i) && is_in_phase (a.here i) GateLoose)) refl refl a.up a.sure a.owner a.history
      (there GateLoose Listed (synced s.table) a) (put_others s w (gone_to (writer_of s w) Listed) (synced s.table) (id_is s w) (λ v d. refl))

  pub post : At s w (made w b Listed q) o h → Goes s w (taken (Post w) ∷ []) (made w b Posted q) o (h ++ b ∷ [])
  post a =
      one s (effect s (Post w)) w (Post w) (made w b Posted q) o (h ++ b ∷ []) a.reached
      ((λ i. not (a.up i) && is_in_phase (a.here i) Listed)) refl refl a.up a.sure a.owner (λ i. a.history i ++ (a.here i).pairs ∷ [])
      (there Listed Posted s.table a) (put_others s w (gone_to (writer_of s w) Posted) s.table (id_is s w) (λ v d. refl))

  pub release : At s w (made w b Posted q) o h → Goes s w (taken (Release w) ∷ []) (made w [] Filling (q + 1)) None h
  release a =
      let x' : Writer = record { id = w; pairs = []; phase = Filling; seq = (writer_of s w).seq + 1 } in
      one s (effect s (Release w)) w (Release w) (made w [] Filling (q + 1)) None h a.reached
      ((λ i. not (a.up i) && is_in_phase (a.here i) Posted)) refl refl a.up a.sure refl a.history
      (writer_there s.writers x' (fresh s.table w) w refl ∙ ap (λ (y : Writer). made w [] Filling (y.seq + 1)) a.here)
      (put_others s w x' s.table refl (λ v d. refl))

  -- calls that fail: a put's, the write of the index, and the write of the body
  pub fail_put : At s w (made w b Filling q) o h → Goes s w (taken (Fail w) ∷ []) (made w b Filling q) o h
  fail_put a =
      one s (failed s (writer_of s w) Filling) w (Fail w) (made w b Filling q) o h a.reached
      (λ i. not (a.up i) && can_fail (a.here i).phase) refl (ap (λ (p : Phase). failed s (writer_of s w) p) (ap (λ (y : Writer). y.phase) a.here)) a.up a.sure a.owner a.history
      a.here (λ v d. refl)

  pub fail_index : At s w (made w b Synced q) o h → Goes s w (taken (Fail w) ∷ []) (made w b Filling q) o h
  fail_index a =
      one s (failed s (writer_of s w) Synced) w (Fail w) (made w b Filling q) o h a.reached
      (λ i. not (a.up i) && can_fail (a.here i).phase) refl (ap (λ (p : Phase). failed s (writer_of s w) p) (ap (λ (y : Writer). y.phase) a.here)) a.up a.sure a.owner a.history
      (there Synced Filling s.table a) (put_others s w (gone_to (writer_of s w) Filling) s.table (id_is s w) (λ v d. refl))

  pub fail_body : At s w (made w b Holding q) o h → Goes s w (taken (Fail w) ∷ []) (made w b Sealed q) None h
  fail_body a =
      let t' = with_body s.table (length s.history) (entry_of (writer_of s w)) in
      one s (back s (writer_of s w) t' s.doubt) w (Fail w) (made w b Sealed q) None h a.reached
      (λ i. not (a.up i) && can_fail (a.here i).phase) refl
      (ap (λ (p : Phase). failed s (writer_of s w) p) (ap (λ (y : Writer). y.phase) a.here) ∙ ap (λ (d : Option Entry). back s (writer_of s w) (if is_some d then with_closed s.table (length s.history) else t') s.doubt) a.sure) a.up a.sure refl a.history
      (there Holding Sealed t' a) (put_others s w (gone_to (writer_of s w) Sealed) t' (id_is s w) (body_same a))
