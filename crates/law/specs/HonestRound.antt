-- A round that meets every premise of the law: two quotes and one honest server, in group 1 under the key 8.
use Rattle.std.specs.Prelude.{◌≡◌, ℕ, T, List, [], ◌∷◌, map, Ok}
use Rattle.board.specs.Calls.{Terms, terms}
use Rattle.board.specs.Rounds.{blank}
use Rattle.board.specs.States.{State, opened}
use Rattle.board.specs.declared.events.Event.TheVariants.{Post, Close, Step}
use Rattle.board.specs.declared.events.Stage.TheVariants.{Finished}
use Rattle.board.specs.declared.events.Taken.TheVariants.{Posted, Closed, Stepped}
use Rattle.elgamal.specs.Ciphertexts.{PrivateKey}
use Rattle.elgamal.specs.declared.Ciphertext.{Ciphertext}
use Rattle.group.specs.Exponents.{Exponents, ExponentLaws}
use Rattle.group.specs.Operations.{Operations, GroupLaws}
use Rattle.modular.specs.Modular.{modular}
use Rattle.modular.specs.Residues.{Residue, member, residues}
use Rattle.plan.specs.Plans.{on, Lawful}
use Rattle.plan.specs.declared.Comparator.{Comparator}
use Rattle.prover.specs.declared.states.Message.{Message}
use Rattle.source.specs.Words.{Words, tape, joined}
use Rattle.law.specs.Histories.{History, Run, expanded}
use Rattle.law.specs.Histories.Item.{call, serve}
use Rattle.law.specs.Plaintexts.{plaintexts}
use Rattle.law.specs.Turns.{account}
use Rattle.law.specs.Witnesses.{RoundWitnessed}

-- the residues modulo 23 of order 11, from 2, and challenges of 3 bits
abbrev pub group1 : Operations (Residue 23 11)
group1 = residues 23 11 2 tt

abbrev pub exponents1 : Exponents
exponents1 = modular 11 3

abbrev pub element : (n : ℕ) → T (member 23 11 n) → Residue 23 11
element n t = (n, t)

abbrev pub ciphertext : (a b : ℕ) → T (member 23 11 a) → T (member 23 11 b) → Ciphertext (Residue 23 11)
ciphertext a b s t = record { alpha = element a s; beta = element b t }

-- two joined tapes, and one comparator on two wires
abbrev pub words : Words
words = joined (tape (9 ∷ 13 ∷ 12 ∷ 14 ∷ [])) (tape (4 ∷ 0 ∷ 0 ∷ 0 ∷ []))

abbrev pub one_comparator : List Comparator
one_comparator = on 0 1 ∷ []

abbrev pub round : Terms (Residue 23 11)
round = terms group1 exponents1 words (element 8 tt) one_comparator

-- the quotes change places, re-encrypted by 2 and 4
abbrev pub message : Message (Residue 23 11) ℕ
message = record {
  outputs = record { first = ciphertext 18 8 tt tt; second = ciphertext 13 6 tt tt };
  proofs = record {
    equivalence = record { commitment = element 12 tt; answer = 0 };
    disjunction = record {
      first = record { commitment = element 8 tt; challenge = 3; answer = 2 };
      second = record { commitment = element 18 tt; challenge = 5; answer = 5 };
    };
  };
}

-- both quotes are posted, and the board is closed; the latest call first
abbrev pub closed_round : History (Residue 23 11)
closed_round =
    call (record { event = Close; bytes = 44; answer = Ok Closed })
    ∷ call (record { event = Post (ciphertext 1 2 tt tt); bytes = 44; answer = Ok (Posted 1) })
    ∷ call (record { event = Post (ciphertext 18 9 tt tt); bytes = 44; answer = Ok (Posted 0) }) ∷ []

-- then the server's turn: by its one step, or served as a whole
abbrev pub by_step : History (Residue 23 11)
by_step = call (record { event = Step message; bytes = 44; answer = Ok (Stepped 1 0 (on 0 1)) }) ∷ closed_round

abbrev pub by_serve : History (Residue 23 11)
by_serve = serve (record { permutation = 1 ∷ 0 ∷ []; places = 1; words = 2 ∷ 4 ∷ 3 ∷ 7 ∷ 2 ∷ 3 ∷ []; bytes = 44; steps = message ∷ []; answer = Ok 1 }) ∷ closed_round

-- how the board is left
abbrev pub final : State (Ciphertext (Residue 23 11))
final = record {
  wires = ciphertext 18 8 tt tt ∷ ciphertext 13 6 tt tt ∷ [];
  start = ciphertext 18 8 tt tt ∷ ciphertext 13 6 tt tt ∷ [];
  servers = 1;
  stage = Finished;
  posted = 2;
  completed = 1;
  server = 1;
  next = 0;
}

pub record HonestRound : Type 0 where
  pub group_lawful : GroupLaws group1
  pub exponents_lawful : ExponentLaws exponents1
  pub plan_lawful : Lawful 2 one_comparator
  pub private_key : PrivateKey group1 (element 8 tt) 3
  pub stepped : Run round 2 (opened 2 1 (blank group1)) by_step final
  pub served : Run round 2 (opened 2 1 (blank group1)) by_serve final
  pub same_calls : expanded one_comparator by_serve ≡ expanded one_comparator by_step
  pub witnessed : RoundWitnessed round (account round (expanded one_comparator by_step))
  -- 4 and 3 were sealed, and stand on the wires as 3 and 4
  pub posted : map (λ p. p.0) (plaintexts group1 3 (account round (expanded one_comparator by_step)).posted) ≡ 4 ∷ 3 ∷ []
  pub left : map (λ p. p.0) (plaintexts group1 3 final.wires) ≡ 3 ∷ 4 ∷ []
