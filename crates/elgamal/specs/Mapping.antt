-- A ciphertext whose parts are made of another's, each by one step that may fail. `P x r` says that the step gives r of x.
use Rattle.std.specs.Prelude.{◌⊎◌, Ok, Err, Result}
use Rattle.elgamal.specs.declared.Ciphertext.{Ciphertext}

module _ {X Y R : Type 0} (P : X → Result Y R → Type 0) where
  abbrev pub CiphertextMapped : Ciphertext X → Ciphertext Y → Type 0
  CiphertextMapped c d = P c.alpha (Ok d.alpha) × P c.beta (Ok d.beta)

  -- the step fails at a part
  abbrev pub CiphertextUnmapped : Ciphertext X → R → Type 0
  CiphertextUnmapped c e = P c.alpha (Err e) ⊎ P c.beta (Err e)
