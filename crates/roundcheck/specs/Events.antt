-- Records as calls on a board. A record has numbers; those of elements are codes.
use Rattle.std.specs.Prelude.{◌≡◌, ℕ, Some, None, Option}
use Rattle.group.specs.Codes.{four_bytes}
use Rattle.group.specs.Operations.{Operations}
use Rattle.prover.specs.declared.states.Message.{Message}
use Rattle.refusal.specs.Table.{refused_at}
use Rattle.refusal.specs.declared.Reason.TheVariants.{NoElement}
use Rattle.refusal.specs.declared.Refusal.{Refusal}
use Rattle.roundfile.specs.Fields.{post_of, comparator_of}
use Rattle.roundfile.specs.Records.{Content, opening, draws, post, comparator, close, expel}
use Rattle.roundfile.specs.declared.parts.Comparator.{Comparator}
use Rattle.board.specs.Calls.{event_meaning}
use Rattle.board.specs.declared.events.Event.{Event}
use Rattle.board.specs.declared.events.Event.TheVariants.{Post, Close, Step, Expel}

-- what a comparator's record posts
abbrev pub message_of : Comparator → Message ℕ ℕ
message_of c = record {
  outputs = record { first = record { alpha = c.first_alpha; beta = c.first_beta }; second = record { alpha = c.second_alpha; beta = c.second_beta } };
  proofs = record {
    equivalence = record { commitment = c.product_commitment; answer = c.product_response };
    disjunction = record {
      first = record { commitment = c.first_commitment; challenge = c.first_challenge; answer = c.first_response };
      second = record { commitment = c.second_commitment; challenge = c.second_challenge; answer = c.second_response };
    };
  };
}

-- the call that a record says, with codes in the place of elements; none for an opening and for draws
abbrev pub call_of : Content → Option (Event ℕ ℕ)
call_of (opening map fields) = None
call_of (draws map fields) = None
call_of (post map fields) = Some (Post (record { alpha = (post_of map fields).alpha; beta = (post_of map fields).beta }))
call_of (comparator map fields) = Some (Step (message_of (comparator_of map fields)))
call_of close = Some Close
call_of expel = Some Expel

-- Points that were read from codes: each has the code that the number writes in four bytes. The numbers of exponents are taken as they are posted.
module _ {Point : Type 0} (G : Operations Point) (number : ℕ → ℕ) where
  abbrev pub EventRead : Event ℕ ℕ → Event Point ℕ → Type 0
  EventRead codes e = event_meaning G.code (λ n. n) e ≡ event_meaning four_bytes number codes

-- nothing can be read: a code is no element's
abbrev pub Unread : {X : Type 0} → (X → Type 0) → ℕ → Refusal → Type 0
Unread Read place f = (f ≡ refused_at NoElement place) × ((x : _) → Read x → ⊥)
