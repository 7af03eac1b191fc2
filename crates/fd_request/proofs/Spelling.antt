-- Keys of names with values, one pair more.
use Rattle.std.proofs.Common.{◌≡◌, ℕ, true, List, [], ◌∷◌, ◌++◌, None, refl, sym, subst}
use Rattle.std.proofs.lemmas.List.Elements.{All-nil, All-push}
use Rattle.fd_spelling.specs.Names.{is_name, is_value}
use Rattle.fd_key.specs.Pairs.{Pair, text_of}
use Rattle.fd_key.proofs.GivenLaws.{differ_push}
use Rattle.fd_request.specs.Spelled.{IsSpelled}

pub spelled_none : (key : List Pair) → key ≡ [] → IsSpelled key
spelled_none key is = subst IsSpelled (sym is) (record { names = All-nil (λ (p : Pair). is_name p.0 ≡ true); values = All-nil (λ (p : Pair). is_value p.1 ≡ true); once = refl })

pub spelled_more : (key after : List Pair) (name text : List ℕ) → after ≡ key ++ (name, text) ∷ [] → is_name name ≡ true → is_value text ≡ true → text_of key name ≡ None → IsSpelled key → IsSpelled after
spelled_more key after name text pushed named valued absent s = subst IsSpelled (sym pushed) (record {
  names = All-push (λ (p : Pair). is_name p.0 ≡ true) key (name, text) s.names named;
  values = All-push (λ (p : Pair). is_value p.1 ≡ true) key (name, text) s.values valued;
  once = differ_push [] key (name, text) s.once absent;
})
