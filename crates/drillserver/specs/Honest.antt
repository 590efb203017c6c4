-- The law of honest tasks: they are answered by their own order and exponents, unless two of their z are equal.
use Rattle.std.specs.Prelude.{◌≡◌, ℕ, [], Some, None, Ok, Err, Option, Result}
use Rattle.drill.specs.declared.finding.Finding.{Finding}
use Rattle.drill.specs.declared.finding.Finding.TheVariants.{Outputs}
use Rattle.group.specs.Exponents.{Exponents, remainder}
use Rattle.plan.specs.declared.Setting.{Setting}
use Rattle.plan.specs.declared.Setting.TheVariants.{Straight, Swapped}
use Rattle.refusal.specs.declared.Refusal.{Refusal}
use Rattle.witness.specs.Refusals.{or_else, repeated}
use Rattle.drillserver.specs.Answering.{each_below}
use Rattle.drillserver.specs.Knowledge.{word}
use Rattle.drillserver.specs.declared.task.Fault.TheVariants.{Nothing}
use Rattle.drillserver.specs.declared.task.Kind.{Kind}
use Rattle.drillserver.specs.declared.task.Outputs.{Outputs as MadeOutputs}
use Rattle.drillserver.specs.declared.task.Outputs.TheVariants.{Straight as MadeStraight, Swapped as MadeSwapped}
use Rattle.drillserver.specs.declared.task.Task.{Task}

-- the inputs re-encrypted in this order
abbrev pub in_order : Setting → MadeOutputs
in_order Straight = MadeStraight
in_order Swapped = MadeSwapped

-- an honest kind: these outputs, and no fault in the witnesses
abbrev pub honest : Setting → Kind
honest s = record { outputs = in_order s; fault = Nothing }

-- the refusal where there is one, else what is found
abbrev pub unless_refused : Option Refusal → Finding ℕ → Result (Finding ℕ) Refusal
unless_refused None f = Ok f
unless_refused (Some why) f = Err why

module _ (E : Exponents) where
  -- the z of the j-th witness, of either proof
  abbrev pub own_z : Task → ℕ → ℕ
  own_z t j = remainder E (word t.seed j)

  -- the first z that an earlier witness of its proof has
  abbrev pub equal_z : Task → Option Refusal
  equal_z t = or_else (repeated 0 [] (each_below (own_z t) 3)) (repeated 3 [] (each_below (own_z t) 5))

  -- the order s, and the task's exponents modulo q
  abbrev pub own_finding : Setting → Task → Finding ℕ
  own_finding s t = Outputs (record { setting = s; r1 = remainder E t.r1; r2 = remainder E t.r2 })

  abbrev pub AnsweredHonestly : Task → Result (Finding ℕ) Refusal → Type 0
  AnsweredHonestly t r = (s : Setting) → t.kind ≡ honest s → r ≡ unless_refused (equal_z t) (own_finding s t)
