-- A fact of what the objects tell, as far as a command asks them.
use Rattle.std.proofs.Common.{List, [], ℕ, Option, Some, None}
use Rattle.std.specs.Prelude.{IfSome}
use Rattle.fd_disk.specs.Folders.{Holdings}
use Rattle.fd_words.specs.declared.command.Command.{Command}
use Rattle.fd_words.specs.declared.command.Command.TheVariants as commands
use Rattle.fd_outcome.specs.Ends.{WhereAsked, nothing_held}

module _ (P Q : List ℕ → Holdings → Holdings → Type 0) (to : (octets : List ℕ) (h i : Holdings) → P octets h i → Q octets h i) where
  of_input : (input : Option (List ℕ)) → IfSome input (λ octets. P octets nothing_held nothing_held) → IfSome input (λ octets. Q octets nothing_held nothing_held)
  of_input None p = tt
  of_input (Some octets) p = to octets nothing_held nothing_held p

  of_store : (octets : List ℕ) (store after : Option Holdings) → IfSome store (λ h. IfSome after (P octets h)) → IfSome store (λ h. IfSome after (Q octets h))
  of_store octets None after p = tt
  of_store octets (Some h) None p = tt
  of_store octets (Some h) (Some i) p = to octets h i p

  of_both : (input : Option (List ℕ)) (store after : Option Holdings) → IfSome input (λ octets. IfSome store (λ h. IfSome after (P octets h))) → IfSome input (λ octets. IfSome store (λ h. IfSome after (Q octets h)))
  of_both None store after p = tt
  of_both (Some octets) store after p = of_store octets store after p

  pub where_asked : (command : Command) (input : Option (List ℕ)) (store after : Option Holdings) → WhereAsked command input store after P → WhereAsked command input store after Q
  where_asked (commands.Pick wanted) input store after p = of_input input p
  where_asked commands.Describe input store after p = of_input input p
  where_asked commands.Split input store after p = of_input input p
  where_asked (commands.Values decimals) input store after p = of_input input p
  where_asked (commands.Generate count) input store after p = to [] nothing_held nothing_held p
  where_asked (commands.Create root) input store after p = of_both input store after p
  where_asked (commands.Archive root given workers) input store after p = of_both input store after p
  where_asked (commands.Retrieve root workers) input store after p = of_both input store after p
  where_asked (commands.RetrieveOver root layers workers) input store after p = of_both input store after p
  where_asked (commands.List root) input store after p = of_both input store after p
  where_asked (commands.Axes root) input store after p = of_both input store after p
  where_asked (commands.Stats root) input store after p = of_store [] store after p
  where_asked (commands.Cubes root) input store after p = tt
  where_asked (commands.Session root) input store after p = tt
  where_asked (commands.Purge root dataset) input store after p = of_store [] store after p
  where_asked (commands.Wipe root dataset) input store after p = of_store [] store after p
  where_asked (commands.Trial root count workers) input store after p = of_store [] store after p

-- a fact of all octets and all stores
module _ (P : List ℕ → Holdings → Holdings → Type 0) (all : (octets : List ℕ) (h i : Holdings) → P octets h i) where
  all_input : (input : Option (List ℕ)) → IfSome input (λ octets. P octets nothing_held nothing_held)
  all_input None = tt
  all_input (Some octets) = all octets nothing_held nothing_held

  all_store : (octets : List ℕ) (store after : Option Holdings) → IfSome store (λ h. IfSome after (P octets h))
  all_store octets None after = tt
  all_store octets (Some h) None = tt
  all_store octets (Some h) (Some i) = all octets h i

  all_both : (input : Option (List ℕ)) (store after : Option Holdings) → IfSome input (λ octets. IfSome store (λ h. IfSome after (P octets h)))
  all_both None store after = tt
  all_both (Some octets) store after = all_store octets store after

  pub asked_all : (command : Command) (input : Option (List ℕ)) (store after : Option Holdings) → WhereAsked command input store after P
  asked_all (commands.Pick wanted) input store after = all_input input
  asked_all commands.Describe input store after = all_input input
  asked_all commands.Split input store after = all_input input
  asked_all (commands.Values decimals) input store after = all_input input
  asked_all (commands.Generate count) input store after = all [] nothing_held nothing_held
  asked_all (commands.Create root) input store after = all_both input store after
  asked_all (commands.Archive root given workers) input store after = all_both input store after
  asked_all (commands.Retrieve root workers) input store after = all_both input store after
  asked_all (commands.RetrieveOver root layers workers) input store after = all_both input store after
  asked_all (commands.List root) input store after = all_both input store after
  asked_all (commands.Axes root) input store after = all_both input store after
  asked_all (commands.Stats root) input store after = all_store [] store after
  asked_all (commands.Cubes root) input store after = tt
  asked_all (commands.Session root) input store after = tt
  asked_all (commands.Purge root dataset) input store after = all_store [] store after
  asked_all (commands.Wipe root dataset) input store after = all_store [] store after
  asked_all (commands.Trial root count workers) input store after = all_store [] store after
