-- What a builder's fields stand for.
use Rattle.std.specs.Prelude.{◌≡◌, ◌+◌, ◌≤◌, ◌<◌, ◌^◌, List, [], ◌∷◌, length}
use Rattle.std.specs.Ordering.{match_ordering, nat_cmp}
use Rattle.std.specs.Cmp.Lexicographic.{slice_cmp}
use Rattle.std.specs.Vec.{vec_capacity}
use Rattle.fd_index.specs.declared.builder.IndexBuilder.TheInside.{Inside}
use Rattle.fd_index.specs.Records.{Record, Rising, AllFit}
use Rattle.fd_index.specs.Held.{Held, key_bytes}
use Rattle.fd_index.specs.Slots.{AreWithin, records_of}

abbrev pub held_of : Inside → Held
held_of b = record { records = records_of b.texts.texts b.slots.items; keys = b.keys; bytes = b.texts.room }

-- The records with one put more: a key that is held takes the new place, and a new one goes to its place in the order.
abbrev pub with_record : Record → List Record → List Record
with_record p [] = p ∷ []
with_record p (r ∷ rs) = match_ordering (slice_cmp nat_cmp p.key r.key) (p ∷ r ∷ rs) (record { key = r.key; at = p.at; len = p.len } ∷ rs) (r ∷ with_record p rs)

-- The fields agree: the keys rise, each text is the key of one record, no more are held than were reserved, what is left
-- is left, and the memory that was reserved is still there.
pub record IsSound (b : Inside) : Type 0 where
  pub rising : Rising (records_of b.texts.texts b.slots.items)
  pub fit : AllFit (records_of b.texts.texts b.slots.items)
  pub within : AreWithin b.texts.texts b.slots.items
  pub number : length b.slots.items ≡ length b.texts.texts
  pub few : length b.slots.items ≤ b.keys
  pub most : b.texts.most ≡ b.keys
  pub small : b.keys < 2 ^ 32
  pub left : b.texts.left + key_bytes (records_of b.texts.texts b.slots.items) ≡ b.texts.room
  pub kept : b.keys ≤ vec_capacity b.slots
