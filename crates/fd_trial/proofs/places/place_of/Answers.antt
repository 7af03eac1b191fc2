use Rattle.std.proofs.Common.{List, ℕ, subst, sym}
use Rattle.fd_sections.specs.Message.{IsMessage}
use Rattle.fd_sections.specs.Parts.{sections_of}
use Rattle.fd_schema.specs.Reading.{seen_place}
use Rattle.fd_gen.specs.Generated.{generated_sections}
use Rattle.fd_trial.proofs.Placing.{key_there, place_there, placed_so}
use Rattle.fd_trial.proofs.places.place_of.Goals as goal

pub unreachable-requires : goal.unreachable-requires
unreachable-requires c = c.in-Err.ensures.err (generated_sections c.args.i) (subst (λ (m : List ℕ). IsMessage m (generated_sections c.args.i)) (sym c.deref.ensures.value) c.in_ok-octets.ensures.message)

pub key_in-requires : goal.key_in-requires
key_in-requires c =
    let read = subst (λ (m : List ℕ). IsMessage m (sections_of c.in-Ok.message)) c.deref.ensures.value c.in-Ok.ensures.ok in
    key_there c.args.schema.now c.args.given.now c.args.i c.in_ok-octets.octets.items (sections_of c.in-Ok.message) read c.in_ok-octets.ensures.message c.requires.placed

pub certain_place-requires : goal.certain_place-requires
certain_place-requires c =
    let read = subst (λ (m : List ℕ). IsMessage m (sections_of c.in-Ok.message)) c.deref.ensures.value c.in-Ok.ensures.ok in
    place_there c.args.schema.now c.args.given.now c.in_ok-key.key c.args.i c.in_ok-octets.octets.items (sections_of c.in-Ok.message) read c.in_ok-octets.ensures.message c.in_ok-key.ensures c.requires.placed

pub returns-in-Ok-certain_place : goal.returns-in-Ok-certain_place
returns-in-Ok-certain_place c =
    let read = subst (λ (m : List ℕ). IsMessage m (sections_of c.in-Ok.message)) c.deref.ensures.value c.in-Ok.ensures.ok in
    placed_so c.args.schema.now c.args.given.now _ c.args.i c.in_ok-octets.octets.items (sections_of c.in-Ok.message) (seen_place c.in-Ok-certain_place.place) read c.in_ok-octets.ensures.message c.in_ok-key.ensures c.in-Ok-certain_place.ensures
