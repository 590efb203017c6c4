-- Rounds whose steps are witnessed, as the drill asks.
use Rattle.std.specs.Prelude.{ℕ, List, [], ◌∷◌, Ok}
use Rattle.board.specs.Calls.{Terms}
use Rattle.board.specs.Steps.{comparison_at}
use Rattle.drill.specs.Rule.{Drilled}
use Rattle.drill.specs.declared.finding.Finding.TheVariants.{Outputs}
use Rattle.drill.specs.declared.finding.Reencryption.{Reencryption}
use Rattle.elgamal.specs.declared.Ciphertext.{Ciphertext}
use Rattle.plan.specs.declared.Comparator.{Comparator}
use Rattle.posting.specs.declared.comparison.Comparison.{Comparison}
use Rattle.prover.specs.declared.states.Message.{Message}
use Rattle.witness.specs.Witnesses.{EquivalenceWitness, DisjunctiveWitness}
use Rattle.law.specs.Turns.{Ending, Turn, Account, put, turn_written, last_list}
use Rattle.law.specs.Turns.Ending.{completed, expelled}

module _ {Point : Type 0} (T : Terms Point) where
  -- Witnesses that the drill takes on these inputs and outputs, three of one proof and five of the other, finding no key.
  pub record Witnessed (k : Comparison Point) : Type 0 where
    pub equivalence : List (EquivalenceWitness Point)
    pub disjunction : List (DisjunctiveWitness Point)
    pub found : Reencryption ℕ
    pub drilled : Drilled T.group T.exponents k equivalence disjunction (Ok (Outputs found))

  -- Each of a turn's steps, on one comparator after another: its inputs are what stands on its two wires after those before it.
  abbrev pub StepsWitnessed : List (Message Point ℕ) → List Comparator → List (Ciphertext Point) → Type 0
  StepsWitnessed [] cs wires = Unit {0}
  StepsWitnessed (m ∷ ms) [] wires = Unit {0}
  StepsWitnessed (m ∷ ms) (c ∷ cs) wires = Witnessed (comparison_at T.key wires c m.outputs) × StepsWitnessed ms cs (put c m.outputs wires)

  -- nothing is asked of an expelled server's steps
  abbrev pub TurnWitnessed : Ending → List (Message Point ℕ) → List (Ciphertext Point) → Type 0
  TurnWitnessed completed steps wires = StepsWitnessed steps T.comparators wires
  TurnWitnessed expelled steps wires = Unit {0}

  abbrev pub TurnsWitnessed : List (Turn Point) → List (Ciphertext Point) → Type 0
  TurnsWitnessed [] wires = Unit {0}
  TurnsWitnessed (t ∷ ts) wires = TurnWitnessed t.ending t.steps wires × TurnsWitnessed ts (turn_written t.ending t.steps T.comparators wires)

  -- each step that counts is witnessed
  abbrev pub RoundWitnessed : Account Point → Type 0
  RoundWitnessed a = TurnsWitnessed a.past a.posted × StepsWitnessed a.present T.comparators (last_list T a)
