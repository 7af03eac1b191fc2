-- Each key's answer over layers, also where some of the datasets aren't sound.
use Rattle.std.proofs.Common.{◌≡◌, ◌∙◌, ◌+◌, ℕ, suc, true, List, [], ◌∷◌, length, map, take, drop, All, Option, Some, None, IfSome, refl, sym, ap, subst, arith}
use Rattle.std.specs.Prelude.{◌⊎◌, Contains}
use Rattle.std.specs.List.{AllZip}
use Rattle.std.proofs.lemmas.List.Elements.{All-cons, All-head, All-tail}
use Rattle.fd_disk.specs.Folders.{Holdings, folder_at}
use Rattle.fd_entries.specs.declared.batch.Pair as batches
use Rattle.fd_entries.specs.Batches.{newest}
use Rattle.fd_key.specs.Pairs.{Pair}
use Rattle.fd_schema.specs.declared.place.Place.{Place}
use Rattle.fd_schema.specs.Reading.{seen_place}
use Rattle.fd_schema.specs.Rules.{file_key}
use Rattle.fd_request.specs.Expansion.{Keyword, expand}
use Rattle.fd_words.specs.declared.command.Command.TheVariants.{RetrieveOver}
use Rattle.fd_layers.specs.Tables.{laid}
use Rattle.fd_ahead.specs.declared.located.Located.{Located}
use Rattle.fd_outcome.specs.Asking.{Answer, Tables}
use Rattle.fd_stored.specs.Distinct.{is_among}
use Rattle.fd_outcome.specs.Ends.{AmongLaid, Tells}
use Rattle.fd_outcome.specs.Layered.{Laid, all_places, laid_datasets, laid_of, places_under, tables_at}
use Rattle.fd_outcome.specs.Noticing.{AnsweredEach, AnswersFirmly, AreUndamaged, IsLaidAnswer, Noticed, Notices}
use Rattle.fd_outcome.specs.Objects.{Object}
use Rattle.fd_outcome.specs.Outcome.{answered}
use Rattle.fd_stored.specs.Store.{AreNames, table_at}
use Rattle.fd_stored.specs.declared.status.Status.{Status}
use Rattle.fd_stored.specs.declared.status.Status.TheVariants.{Done, Missed}
use Rattle.fd_answering.specs.Located.{AreAt, IsAt}
use Rattle.fd_retrieve.specs.Located.{IsLocated}
use Rattle.fd_retrieve.specs.Open.{Open, table_in}
use Rattle.fd_recovery.specs.Crashing.{IsFirmTable}
use Rattle.fd_retrieve.specs.Ready.{AreFirmOf}
use Rattle.fd_retrieve.specs.Tables.{datasets_in}
use Rattle.fd_retrieve.proofs.Noticing.{at_same, fielded, stand_all, standing_at, zip_of}
use Rattle.fd_retrieve.proofs.ReadyLemmas.{among_contained}
use Rattle.fd_layered.specs.Chains.{AreChains, IsChain, first_some, firsts}
use Rattle.fd_layered.specs.Finding.{AreNearest}
use Rattle.fd_layered.specs.Ready.{IsReady, laid_with}
use Rattle.fd_layered.proofs.NearestLemmas.{chain_at, nearest_in, nearest_long, zip_parts}
use Rattle.fd_layered.proofs.PreparingLemmas.{among_left, among_right, same_tables, sets, sets_append, sets_of}

-- what stands where the nearest is located is the newest over the layers, where these tell their tables
laid_told : (os : List Open) (tables : Tables) (n : ℕ) (a : Laid) (ls : List (Option Located)) (found : Option (List ℕ)) → IsChain n a → AllZip (IsLocated os) (places_under a) ls → IsAt os found (first_some ls)
    → tables_at (table_in os) (places_under a) ≡ tables_at tables (places_under a) → IfSome (tables_at tables (places_under a)) (λ ts. found ≡ newest (laid ts) (file_key a.place))
laid_told os tables n a ls found chain there at same = go (tables_at tables (places_under a)) same
  where
    go : (o : Option (List (List (List batches.Pair)))) → tables_at (table_in os) (places_under a) ≡ o → IfSome o (λ ts. found ≡ newest (laid ts) (file_key a.place))
    go None e = tt
    go (Some ts) e =
        at_same os found (newest (laid ts) (file_key a.place)) (first_some ls) at (chain_at os (file_key a.place) (places_under a) ls ts (All-cons (λ p. file_key p ≡ file_key a.place) a.place a.under refl chain.same) there e)

module _ (os : List Open) (tables : Tables) (n : ℕ) where
  laid_each : (cs : List Laid) (ls : List (Option Located)) (xs : List Answer) → All (IsChain n) cs → AllZip (IsLocated os) (all_places cs) ls → map (λ x. x.key) xs ≡ map (λ a. a.key) cs → AllZip (λ x l. IsAt os x.found l) xs (firsts (n + 1) (length cs) ls)
      → ((d : List ℕ) → is_among (laid_datasets cs) d ≡ true → table_in os d ≡ tables d) → AllZip (IsLaidAnswer tables) cs xs
  laid_each [] ls [] chains there keys each same = tt
  laid_each [] ls (x ∷ xs) chains there keys each same = absurd (cc keys)
  laid_each (a ∷ cs) ls [] chains there keys each same = absurd (cc keys)
  laid_each (a ∷ cs) ls (x ∷ xs) chains there keys each same =
      let chain : IsChain n a = All-head (IsChain n) a cs chains in
      let long = chain.long in
      let wide : length (places_under a) ≡ n + 1 = omega (arith, long) in
      let parts = subst (λ w. AllZip (IsLocated os) (places_under a) (take w ls) × AllZip (IsLocated os) (all_places cs) (drop w ls)) wide (zip_parts (IsLocated os) (places_under a) (all_places cs) ls there) in
      let both = sets_append (places_under a) (all_places cs) in
      let own = same_tables (table_in os) tables (places_under a) (λ d is. same d (ap (λ l. is_among l d) both ∙ among_left (sets (places_under a)) (laid_datasets cs) d is)) in
      let key : x.key ≡ a.key = cc keys in
      let rest : map (λ x. x.key) xs ≡ map (λ a. a.key) cs = cc keys in (
        record { key = key; found = laid_told os tables n a (take (n + 1) ls) x.found chain parts.0 each.0 own },
        laid_each cs (drop (n + 1) ls) xs (All-tail (IsChain n) a cs chains) parts.1 rest each.1 (λ d is. same d (ap (λ l. is_among l d) both ∙ among_right (sets (places_under a)) (laid_datasets cs) d is)),
      )

module _ (layers : List (List Pair)) (h : Holdings) (octets : List ℕ) (ks : List Keyword) (ps : List Place) (os : List Open) (chains : AreChains (length layers) (expand ks) (map seen_place ps)) (r : IsReady h layers octets ks ps os) where
  abbrev asked : List Laid
  asked = laid_with layers ks ps

  sets_are : laid_datasets asked ≡ datasets_in ps
  sets_are = ap sets chains.places ∙ sets_of ps

  keys_long : (bs : List Laid) → length (map (λ b. b.key) bs) ≡ length bs
  keys_long [] = refl
  keys_long (b ∷ bs) = ap suc (keys_long bs)

  -- each key is answered
  pub over_each : (count : ℕ) (near : List (Option Located)) → count ≡ length (expand ks) → AreNearest os ps (length layers + 1) count near → (s : Status) (a b c d : Option (List ℕ)) → ((xs : List Answer) → AreAt os (expand ks) xs near → Tells s (answered xs) a b c d)
      → AnsweredEach (IsLaidAnswer (table_at h)) (laid_of h layers octets) s a b c d
  over_each count near counted nearest s a b c d tells =
      let n = length layers in
      let all = stand_all os (fielded h os r.each (λ m is. r.undamaged m (r.among m is))) (expand ks) near (nearest_long os ps (n + 1) count near nearest ∙ counted) (nearest_in os ps (n + 1) count near nearest) in
      let many : length asked ≡ length (expand ks) = sym (keys_long asked) ∙ ap length chains.keys in
      let firsts_are : near ≡ firsts (n + 1) (length asked) nearest.located = nearest.is ∙ ap (λ m. firsts (n + 1) m nearest.located) (counted ∙ sym many) in
      let there : AllZip (IsLocated os) (all_places asked) nearest.located = subst (λ l. AllZip (IsLocated os) l nearest.located) (sym chains.places) (zip_of os ps nearest.located nearest.each.long nearest.each.each) in
      subst (λ q. AnsweredEach (IsLaidAnswer (table_at h)) q s a b c d) (sym r.asked) (
        all.0,
        laid_each os (table_at h) n asked nearest.located all.0 chains.each there (all.1.keys ∙ sym chains.keys) (subst (λ l. AllZip (λ x o. IsAt os x.found o) all.0 l) firsts_are all.1.each) (λ m is. r.tables m (sym (ap (λ l. is_among l m) sets_are) ∙ is)),
        tells all.0 (standing_at os (expand ks) near all.0 all.1),
      )

  pub over_undamaged : (root : List ℕ) (workers : ℕ) (names : List (List ℕ)) → AreUndamaged (RetrieveOver root layers workers) h names octets
  over_undamaged root workers names name among =
      let there = subst (λ q. AmongLaid q name) r.asked among in
      r.undamaged name (among_contained (datasets_in ps) name (subst (λ ds. Contains ds name) sets_are there))

pub over_notices : (root : List ℕ) (layers : List (List Pair)) (workers : ℕ) (s : Status) (store : Object Holdings) (input output report : Object (List ℕ)) (ks : List Keyword) (ps : List Place) (os : List Open) → AreChains (length layers) (expand ks) (map seen_place ps)
    → IfSome store.before (λ h. IfSome input.before (λ octets. IsReady h layers octets ks ps os))
    → ((h : Holdings) (octets : List ℕ) → IsReady h layers octets ks ps os → (s ≡ Done) ⊎ (s ≡ Missed) → AnsweredEach (IsLaidAnswer (table_at h)) (laid_of h layers octets) s output.before output.now report.before report.now)
    → Notices (RetrieveOver root layers workers) s store input output report
over_notices root layers workers s store input output report ks ps os chains ready each whole = go input.before store.before store.now ready
  where
    go : (i : Option (List ℕ)) (b n : Option Holdings) → IfSome b (λ h. IfSome i (λ octets. IsReady h layers octets ks ps os))
        → IfSome i (λ octets. IfSome b (λ h. IfSome n (λ j. (names : List (List ℕ)) → AreNames h names → Noticed (RetrieveOver root layers workers) s h names octets output.before output.now report.before report.now)))
    go None b n r = tt
    go (Some octets) None n r = tt
    go (Some octets) (Some h) None r = tt
    go (Some octets) (Some h) (Some j) r = λ names are. (over_undamaged layers h octets ks ps os chains r root workers names, each h octets r whole)

pub over_firm : (root : List ℕ) (layers : List (List Pair)) (workers : ℕ) (s : Status) (store : Object Holdings) (input : Object (List ℕ)) (ks : List Keyword) (ps : List Place) (os : List Open) → AreChains (length layers) (expand ks) (map seen_place ps)
    → IfSome store.before (λ h. IfSome input.before (λ octets. IsReady h layers octets ks ps os)) → IfSome store.now (λ i. AreFirmOf i (datasets_in ps)) → AnswersFirmly (RetrieveOver root layers workers) s store input
over_firm root layers workers s store input ks ps os chains ready firm whole = go input.before store.before store.now ready firm
  where
    go : (i : Option (List ℕ)) (b n : Option Holdings) → IfSome b (λ h. IfSome i (λ octets. IsReady h layers octets ks ps os)) → IfSome n (λ j. AreFirmOf j (datasets_in ps))
        → IfSome i (λ octets. IfSome b (λ h. IfSome n (λ j. (names : List (List ℕ)) → AreNames h names → (name : List ℕ) → AmongLaid (laid_of h layers octets) name → IsFirmTable (folder_at j name).table)))
    go None b n r f = tt
    go (Some octets) None n r f = tt
    go (Some octets) (Some h) None r f = tt
    go (Some octets) (Some h) (Some j) r f = λ names are name among.
        let there = subst (λ q. AmongLaid q name) r.asked among in
        f name (among_contained (datasets_in ps) name (subst (λ ds. Contains ds name) (sets_are layers h octets ks ps os chains r) there))
