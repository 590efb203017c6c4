-- A step on a comparator, over items of any kind.
use Rattle.std.specs.Prelude.{List, slice_index_or}
use Rattle.elgamal.specs.declared.Ciphertext.{Ciphertext}
use Rattle.plan.specs.declared.Comparator.{Comparator}
use Rattle.posting.specs.declared.comparison.Comparison.{Comparison}
use Rattle.posting.specs.declared.comparison.Pair.{Pair}

-- the key, what stands on the comparator's wires, and the outputs
abbrev pub comparison_at : {X : Type 0} → X → List (Ciphertext X) → Comparator → Pair X → Comparison X
comparison_at key wires c outputs = record {
  key = key;
  inputs = record { first = slice_index_or wires c.first outputs.first; second = slice_index_or wires c.second outputs.second };
  outputs = outputs;
}
