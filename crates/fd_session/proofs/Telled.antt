-- What is written of a session, by where it stopped.
use Rattle.std.proofs.Common.{◌≡◌, ◌∙◌, ◌⊎◌, ℕ, List, [], ◌++◌, Option, Some, None, refl, sym, ap, subst, append_assoc, append-nil, inl, inr}
use Rattle.fd_bytes.specs.Causes.{Rose}
use Rattle.fd_io.specs.Streams.{Takes, TakesFront}
use Rattle.fd_stored.specs.declared.status.Status.{Status}
use Rattle.fd_stored.specs.declared.status.Status.TheVariants.{Damaged, NoMemory, OutputFault}
use Rattle.fd_stored.specs.Causes.{Telling}
use Rattle.fd_outcome.specs.Ends.{no_memory, output_failed}
use Rattle.fd_outcome.specs.Told.{Told, ToldOrNoMemory}
use Rattle.fd_transcript.specs.Starving.{TakesShort}
use Rattle.fd_session.specs.Writes.{All, MayStarve, NoFound, NoText, Starved, ToldClosing, Writes}

takes_both : (c m d : Option (List ℕ)) (x y : List ℕ) → Takes c m x → Takes m d y → Takes c d (x ++ y)
takes_both None m d x y t u = tt
takes_both (Some o) None d x y t u = absurd t
takes_both (Some o) (Some p) None x y t u = absurd u
takes_both (Some o) (Some p) (Some q) x y t u = u ∙ ap (λ (z : List ℕ). z ++ y) t ∙ append_assoc o x y

front_both : (c m d : Option (List ℕ)) (x y : List ℕ) → Takes c m x → TakesFront m d y → TakesFront c d (x ++ y)
front_both c m d x y t (front, rest, is, u) = (x ++ front, rest, ap (λ (z : List ℕ). x ++ z) is ∙ sym (append_assoc x front rest), takes_both c m d x front t u)

-- a front of a text is one of the text and more
front_more : (c d : Option (List ℕ)) (x y : List ℕ) → TakesFront c d x → TakesFront c d (x ++ y)
front_more c d x y (front, rest, is, u) = (front, rest ++ y, ap (λ (z : List ℕ). z ++ y) is ∙ append_assoc front rest y, u)

whole_front : (c d : Option (List ℕ)) (x : List ℕ) → Takes c d x → TakesFront c d x
whole_front c d x t = (x, [], sym (append-nil x), t)

module _ (found text : List ℕ) (end : Telling) (s : Status) (a b : Option (List ℕ)) (k l : ℕ) (c d : Option (List ℕ)) (m n : ℕ) where
  -- a write of the output failed
  pub no_found : TakesFront a b found → Rose k l → Told OutputFault output_failed s c d m n → Writes found text end s a b k l c d m n
  no_found took rose told = NoFound (elim told.told as (λ _. Rattle.fd_session.specs.Writes.WritesNoFound found s a b c d k l) [
    | inl x ↦ record { status = x.status; output = took; report = whole_front c d output_failed x.took; rose = rose }
    | inr x ↦ record { status = x.status; output = took; report = x.took; rose = rose }
  ])

  -- a write of the transcript failed
  pub no_text : Takes a b found → TakesFront c d text → Rose m n → s ≡ OutputFault → Writes found text end s a b k l c d m n
  no_text took front rose is = NoText (record { status = is; output = took; report = inl (front_more c d text end.line front); rose = rose })

  module _ (mid : Option (List ℕ)) (between : ℕ) (calm : between ≡ m) (took : Takes a b found) where
    from_there : Rose between n → Rose m n
    from_there rose = subst (λ (x : ℕ). Rose x n) calm rose

    -- memory ran out behind this front of the transcript
    starved_behind : (front rest : List ℕ) → text ≡ front ++ rest → MayStarve end rest → Takes c mid front → Told NoMemory no_memory s mid d between n → Writes found text end s a b k l c d m n
    starved_behind front rest is cause t told = elim told.told as (λ _. Writes found text end s a b k l c d m n) [
      | inl x ↦ Starved (record { status = x.status; output = took; front = front; rest = rest; is = is; cause = cause; report = takes_both c mid d front no_memory t x.took })
      | inr x ↦ NoText (record { status = x.status; output = took; report = inr (front, rest, is, cause, front_both c mid d front no_memory t x.took); rose = from_there x.rose })
    ]

    pub starved : TakesShort c mid text → Told NoMemory no_memory s mid d between n → Writes found text end s a b k l c d m n
    starved short told = starved_behind short.front short.rest short.split (inl short.more) short.took told

    -- the transcript was written
    pub closed : l ≡ k → Takes c mid text → ToldClosing end s mid d between n → Writes found text end s a b k l c d m n
    closed quiet t (inl told) = elim told.told as (λ _. Writes found text end s a b k l c d m n) [
      | inl x ↦ All (record { status = x.status; calm = quiet; output = took; report = takes_both c mid d text end.line t x.took })
      | inr x ↦ NoText (record { status = x.status; output = took; report = inl (front_both c mid d text end.line t x.took); rose = from_there x.rose })
    ]
    closed quiet t (inr (damaged, told)) = starved_behind text [] (sym (append-nil text)) (inr damaged) t told

-- the line of a damage was told, or that memory ran out in its place
pub damage_told : (line : List ℕ) (s : Status) (c d : Option (List ℕ)) (m n : ℕ) → ToldOrNoMemory Damaged line s c d m n → ToldClosing (record { status = Damaged; line = line }) s c d m n
damage_told line s c d m n (inl told) = inl told
damage_told line s c d m n (inr told) = inr (refl, told)
