-- The check of a whole file: the opening, both draws, and the run of the other records.
use Rattle.std.specs.Prelude.{◌≡◌, ℕ, true, false, ◌⊎◌, List, [], ◌∷◌, Some, None, Ok, Err, Option, Result, ◌≢◌}
use Rattle.board.specs.Calls.{Terms, terms}
use Rattle.board.specs.Rounds.{judge_open, servers_fit, blank}
use Rattle.board.specs.States.{State, opened}
use Rattle.elgamal.specs.declared.Ciphertext.{Ciphertext}
use Rattle.group.specs.Codes.{four_bytes}
use Rattle.group.specs.Exponents.{Exponents}
use Rattle.group.specs.Operations.{Operations}
use Rattle.kinds.specs.Kinds.{group_kind, plan_kind, LaidOut}
use Rattle.kinds.specs.declared.GroupKind.{GroupKind}
use Rattle.kinds.specs.declared.GroupKind.TheVariants.{ResiduesModulo23, BinaryPolynomials}
use Rattle.kinds.specs.declared.PlanKind.{PlanKind}
use Rattle.modular.specs.Modular.{modular}
use Rattle.modular.specs.Residues.{residues}
use Rattle.plan.specs.declared.Comparator.{Comparator}
use Rattle.polynomial.specs.Polynomials.{polynomials}
use Rattle.refusal.specs.Table.{refused_at}
use Rattle.refusal.specs.declared.Reason.{Reason}
use Rattle.refusal.specs.declared.Reason.TheVariants.{MisplacedRecord, UnknownGroupOrPlan, UnfitWires, UnfitServers, NoElement}
use Rattle.refusal.specs.declared.Refusal.{Refusal}
use Rattle.roundfile.specs.Fields.{opening_of, words_in}
use Rattle.roundfile.specs.Reading.{Place, Found, Step, gave, ended, refused, step, open_file}
use Rattle.roundfile.specs.Records.{Content, opening, draws, post, comparator, close, expel}
use Rattle.roundfile.specs.declared.parts.Opening.{Opening}
use Rattle.source.specs.Words.{Words, tape, joined}
use Rattle.roundcheck.specs.Runs.{Ending, Runs}
use Rattle.roundcheck.specs.declared.report.Line.{Line}
use Rattle.roundcheck.specs.declared.report.Line.TheVariants.{Round}

-- A reader that gives no record where one has to come.
abbrev pub NoneGiven : Step → Refusal → Type 0
NoneGiven (gave f q) r = ⊥
NoneGiven ended r = r ≡ refused_at MisplacedRecord 0
NoneGiven (refused e) r = r ≡ e

-- An opening or draws, with their offset and the place behind them. A reader whose file still wants one of these gives no other
-- record and does not come to the end.
abbrev pub opening_in : Found → Place → Content → Result (ℕ × Opening × Place) Refusal
opening_in f q (opening map fields) = Ok (f.offset, opening_of map fields, q)
opening_in f q (draws map fields) = Err (refused_at MisplacedRecord f.offset)
opening_in f q (post map fields) = Err (refused_at MisplacedRecord f.offset)
opening_in f q (comparator map fields) = Err (refused_at MisplacedRecord f.offset)
opening_in f q close = Err (refused_at MisplacedRecord f.offset)
opening_in f q expel = Err (refused_at MisplacedRecord f.offset)

abbrev pub next_opening : Step → Result (ℕ × Opening × Place) Refusal
next_opening (gave f q) = opening_in f q f.holds
next_opening ended = Err (refused_at MisplacedRecord 0)
next_opening (refused r) = Err r

abbrev pub draws_in : Found → Place → Content → Result (List ℕ × Place) Refusal
draws_in f q (opening map fields) = Err (refused_at MisplacedRecord f.offset)
draws_in f q (draws map fields) = Ok (words_in map fields, q)
draws_in f q (post map fields) = Err (refused_at MisplacedRecord f.offset)
draws_in f q (comparator map fields) = Err (refused_at MisplacedRecord f.offset)
draws_in f q close = Err (refused_at MisplacedRecord f.offset)
draws_in f q expel = Err (refused_at MisplacedRecord f.offset)

abbrev pub next_draws : Step → Result (List ℕ × Place) Refusal
next_draws (gave f q) = draws_in f q f.holds
next_draws ended = Err (refused_at MisplacedRecord 0)
next_draws (refused r) = Err r

-- no line, and this refusal
abbrev pub Stops : Refusal → List Line → Ending → Type 0
Stops r lines ending = (lines ≡ []) × (ending ≡ Err r)

-- both draws, joined, and the run of the other records
abbrev pub ChecksSecond : {Point : Type 0} → (ℕ → ℕ) → (Words → Terms Point) → State (Ciphertext Point) → List ℕ → Result (List ℕ × Place) Refusal → List Line → Ending → Type 0
ChecksSecond number T s first (Ok d) lines ending = Runs (T (joined (tape first) (tape d.0))) number d.1 s lines ending
ChecksSecond number T s first (Err r) lines ending = Stops r lines ending

abbrev pub ChecksFirst : {Point : Type 0} → (ℕ → ℕ) → (Words → Terms Point) → State (Ciphertext Point) → Result (List ℕ × Place) Refusal → List Line → Ending → Type 0
ChecksFirst number T s (Ok d) lines ending = ChecksSecond number T s d.0 (next_draws (step d.1)) lines ending
ChecksFirst number T s (Err r) lines ending = Stops r lines ending

-- The key of an opening. Its servers are judged before its code, and then whether it is the one.
abbrev pub KeyRead : {Point : Type 0} → Operations Point → Opening → Point → Type 0
KeyRead G o y = (servers_fit o.servers ≡ true) × (G.code y ≡ four_bytes o.key)

abbrev pub KeyUnread : {Point : Type 0} → Operations Point → Opening → ℕ → Refusal → Type 0
KeyUnread {Point} G o offset r =
    ((servers_fit o.servers ≡ false) × (r ≡ refused_at UnfitServers offset))
    ⊎ ((servers_fit o.servers ≡ true) × ((y : Point) → G.code y ≢ four_bytes o.key) × (r ≡ refused_at NoElement offset))

module _ {Point : Type 0} (G : Operations Point) (E : Exponents) (number : ℕ → ℕ) where
  -- with the key y, by what the opening of a board says to it
  abbrev pub ChecksKey : Point → ℕ → List Comparator → ℕ → Opening → Place → Option Reason → List Line → Ending → Type 0
  ChecksKey y n cs offset o q None lines ending =
      (rest : List Line) × (lines ≡ Round o ∷ rest) × ChecksFirst number (λ S. terms G E S y cs) (opened n o.servers (blank G)) (next_draws (step q)) rest ending
  ChecksKey y n cs offset o q (Some why) lines ending = Stops (refused_at why offset) lines ending

  -- the round on a plan of n wires with these comparators
  abbrev pub ChecksRound : ℕ → List Comparator → ℕ → Opening → Place → List Line → Ending → Type 0
  ChecksRound n cs offset o q lines ending =
      ((r : Refusal) × KeyUnread G o offset r × Stops r lines ending)
      ⊎ ((y : Point) × KeyRead G o y × ChecksKey y n cs offset o q (judge_open G n o.servers y n n) lines ending)

  -- the round on the plan that the opening names
  abbrev pub ChecksPlan : Option PlanKind → ℕ → Opening → Place → List Line → Ending → Type 0
  ChecksPlan None offset o q lines ending = Stops (refused_at UnknownGroupOrPlan offset) lines ending
  ChecksPlan (Some kind) offset o q lines ending =
      ((cs : List Comparator) × LaidOut kind o.wires cs × ChecksRound o.wires cs offset o q lines ending)
      ⊎ (((cs : List Comparator) → LaidOut kind o.wires cs → ⊥) × Stops (refused_at UnfitWires offset) lines ending)

-- the round in the group that the opening names
abbrev pub ChecksGroup : Option GroupKind → ℕ → Opening → Place → List Line → Ending → Type 0
ChecksGroup None offset o q lines ending = Stops (refused_at UnknownGroupOrPlan offset) lines ending
ChecksGroup (Some ResiduesModulo23) offset o q lines ending = ChecksPlan (residues 23 11 2 tt) (modular 11 3) (λ n. n) (plan_kind o.plan) offset o q lines ending
ChecksGroup (Some BinaryPolynomials) offset o q lines ending = ChecksPlan polynomials (modular 8191 12) (λ n. n) (plan_kind o.plan) offset o q lines ending

abbrev pub ChecksOpening : Result (ℕ × Opening × Place) Refusal → List Line → Ending → Type 0
ChecksOpening (Ok t) lines ending = ChecksGroup (group_kind t.1.group) t.0 t.1 t.2 lines ending
ChecksOpening (Err r) lines ending = Stops r lines ending

abbrev pub ChecksFrom : Result Place Refusal → List Line → Ending → Type 0
ChecksFrom (Ok p) lines ending = ChecksOpening (next_opening (step p)) lines ending
ChecksFrom (Err r) lines ending = Stops r lines ending

-- Of these bytes come these lines and this ending.
abbrev pub Checks : List ℕ → List Line → Ending → Type 0
Checks bytes lines ending = ChecksFrom (open_file bytes) lines ending
