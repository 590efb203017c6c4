-- What witnesses show: at z, the exponent γ.
use Rattle.std.specs.Prelude.{ℕ, Bool, true, false, List, [], ◌∷◌, map, length, Some, None, Option, ◌==◌, nat_le, slice_index_or}
use Rattle.std.specs.Option.{option_map}
use Rattle.group.specs.Exponents.{Exponents, remainder, difference, product}
use Rattle.plan.specs.declared.Setting.{Setting}
use Rattle.plan.specs.declared.Setting.TheVariants.{Straight, Swapped}
use Rattle.witness.specs.Witnesses.{EquivalenceWitness, DisjunctiveWitness}
use Rattle.witness.specs.declared.posted.Answer.{Answer}
use Rattle.witness.specs.declared.posted.Disjunction.{Disjunction}
use Rattle.witness.specs.declared.posted.Transcript.{Transcript}
use Rattle.witness.specs.declared.samples.Branch.{Branch}
use Rattle.witness.specs.declared.samples.Drawn.{Drawn}
use Rattle.witness.specs.declared.samples.Examination.{Examination}
use Rattle.witness.specs.declared.samples.Sample.{Sample}
use Rattle.witness.specs.declared.samples.Samples.{Samples}

-- samples of exponents, as numbers
module _ {X : Type 0} (value : X → ℕ) where
  abbrev pub sample_meaning : Sample X → Sample ℕ
  sample_meaning s = record { z = value s.z; gamma = value s.gamma }

  abbrev pub samples_meaning : Samples X → Samples ℕ
  samples_meaning s = record { first = sample_meaning s.first; second = sample_meaning s.second; third = sample_meaning s.third }

  abbrev pub drawn_meaning : Drawn X → Drawn ℕ
  drawn_meaning d = record { setting = d.setting; sample = sample_meaning d.sample }

  abbrev pub branch_meaning : Branch X → Branch ℕ
  branch_meaning b = record { setting = b.setting; samples = samples_meaning b.samples }

  abbrev pub examination_meaning : Examination X → Examination ℕ
  examination_meaning e = record { product = samples_meaning e.product; branch = branch_meaning e.branch }

-- the branch on which a disjunctive witness shows γ: the lowest whose challenges differ
abbrev pub setting_of : {Point : Type 0} → Disjunction Point ℕ → Setting
setting_of d = elim (d.straight.first.challenge == d.straight.second.challenge) [ true ↦ Swapped | false ↦ Straight ]

abbrev pub branch_of : {Point : Type 0} → Setting → Disjunction Point ℕ → Transcript Point ℕ
branch_of Straight d = d.straight
branch_of Swapped d = d.swapped

module _ (E : Exponents) where
  -- γ of two answers: (s - s') / (c - c')
  unfoldable pub gamma : Answer ℕ → Answer ℕ → ℕ
  gamma a b =
      product E (difference E a.exponent b.exponent) (E.inverse (difference E (remainder E a.challenge) (remainder E b.challenge)))

  abbrev pub equivalence_sample : {Point : Type 0} → EquivalenceWitness Point → Sample ℕ
  equivalence_sample w = record { z = w.z; gamma = gamma w.answered.first w.answered.second }

  abbrev pub disjunctive_sample : {Point : Type 0} → DisjunctiveWitness Point → Setting → Sample ℕ
  disjunctive_sample w s = record { z = w.z; gamma = gamma (branch_of s w.answered).first (branch_of s w.answered).second }

  abbrev pub drawn : {Point : Type 0} → DisjunctiveWitness Point → Drawn ℕ
  drawn w = record { setting = setting_of w.answered; sample = disjunctive_sample w (setting_of w.answered) }

abbrev pub same_setting : Setting → Setting → Bool
same_setting Straight Straight = true
same_setting Straight Swapped = false
same_setting Swapped Straight = false
same_setting Swapped Swapped = true

-- the sample, where it is of this branch
abbrev pub sample_on : {X : Type 0} → Setting → Drawn X → Option (Sample X)
sample_on s d = elim (same_setting s d.setting) [ true ↦ Some d.sample | false ↦ None ]

-- the samples of a branch, in order
abbrev pub on_branch : Setting → List (Drawn ℕ) → List (Sample ℕ)
on_branch s [] = []
on_branch s (d ∷ ds) = elim (same_setting s d.setting) [ true ↦ d.sample ∷ on_branch s ds | false ↦ on_branch s ds ]

-- the branch that has three or more of five
abbrev pub majority : List (Drawn ℕ) → Setting
majority ds = elim (nat_le 3 (length (on_branch Straight ds))) [ true ↦ Straight | false ↦ Swapped ]

-- the first three samples; where there are fewer, which is refused before, zeros stand in
abbrev pub nothing : Sample ℕ
nothing = record { z = 0; gamma = 0 }

abbrev pub first_three : List (Sample ℕ) → Samples ℕ
first_three l = record { first = slice_index_or l 0 nothing; second = slice_index_or l 1 nothing; third = slice_index_or l 2 nothing }

-- the same, only where there are three
abbrev pub three_of : List (Sample ℕ) → Option (Samples ℕ)
three_of [] = None
three_of (a ∷ []) = None
three_of (a ∷ (b ∷ [])) = None
three_of (a ∷ (b ∷ (c ∷ l))) = Some (record { first = a; second = b; third = c })

-- a branch with its first three samples, where it has three
abbrev pub three_on : Setting → List (Drawn ℕ) → Option (Branch ℕ)
three_on s ds = option_map (λ t. record { setting = s; samples = t }) (three_of (on_branch s ds))

-- the branch that is used, with its first three samples
unfoldable pub chosen : List (Drawn ℕ) → Branch ℕ
chosen ds = record { setting = majority ds; samples = first_three (on_branch (majority ds) ds) }

-- all that the witnesses show
abbrev pub examination : {Point : Type 0} → Exponents → List (EquivalenceWitness Point) → List (DisjunctiveWitness Point) → Examination ℕ
examination E W V = record {
  product = first_three (map (equivalence_sample E) W);
  branch = chosen (map (drawn E) V);
}
