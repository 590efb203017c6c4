-- A comparator's key, inputs and outputs.
use Rattle.std.specs.Prelude.{List, [], ◌∷◌}
use Rattle.elgamal.specs.Ciphertexts.{meaning}
use Rattle.elgamal.specs.declared.Ciphertext.{Ciphertext}
use Rattle.posting.specs.declared.comparison.Comparison.{Comparison}
use Rattle.posting.specs.declared.comparison.Pair.{Pair}

-- what ciphertexts of elements mean: those of points
abbrev pub pair_meaning : {Element Point : Type 0} → (Element → Point) → Pair Element → Pair Point
pair_meaning point p = record { first = meaning point p.first; second = meaning point p.second }

abbrev pub comparison_meaning : {Element Point : Type 0} → (Element → Point) → Comparison Element → Comparison Point
comparison_meaning point c = record { key = point c.key; inputs = pair_meaning point c.inputs; outputs = pair_meaning point c.outputs }

-- the parts of a ciphertext and of a pair, as they are posted
abbrev pub ciphertext_points : {Point : Type 0} → Ciphertext Point → List Point
ciphertext_points c = c.alpha ∷ c.beta ∷ []

abbrev pub pair_points : {Point : Type 0} → Pair Point → List Point
pair_points p = p.first.alpha ∷ p.first.beta ∷ p.second.alpha ∷ p.second.beta ∷ []

-- what a challenge is drawn over: the key, inputs and outputs, and then the commitments
abbrev pub posted : {Point : Type 0} → Comparison Point → List Point → List Point
posted c commitments =
    c.key
    ∷ c.inputs.first.alpha ∷ c.inputs.first.beta ∷ c.inputs.second.alpha ∷ c.inputs.second.beta
    ∷ c.outputs.first.alpha ∷ c.outputs.first.beta ∷ c.outputs.second.alpha ∷ c.outputs.second.beta
    ∷ commitments
