-- ElGamal ciphertexts over any group. A private key is an x with base^x = y, for the public key y.
use Rattle.std.specs.Prelude.{◌≡◌, ℕ, ◌+◌, ◌%◌}
use Rattle.elgamal.specs.declared.Ciphertext.{Ciphertext}
use Rattle.group.specs.Operations.{Operations, power, quotient}

-- what a ciphertext of elements means: one of points
abbrev pub meaning : {Element Point : Type 0} → (Element → Point) → Ciphertext Element → Ciphertext Point
meaning point c = record { alpha = point c.alpha; beta = point c.beta }

module _ {Point : Type 0} (G : Operations Point) where
  abbrev pub PrivateKey : Point → ℕ → Type 0
  PrivateKey y x = power G G.base x ≡ y

  -- the point m, encrypted under y by γ
  abbrev pub encrypted : Point → Point → ℕ → Ciphertext Point
  encrypted y m γ = record { alpha = G.times m (power G y γ); beta = power G G.base γ }

  -- c, re-encrypted under y by r
  abbrev pub reencrypted : Point → Ciphertext Point → ℕ → Ciphertext Point
  reencrypted y c r = record { alpha = G.times c.alpha (power G y r); beta = G.times c.beta (power G G.base r) }

  -- c and d, multiplied part by part
  abbrev pub multiplied : Ciphertext Point → Ciphertext Point → Ciphertext Point
  multiplied c d = record { alpha = G.times c.alpha d.alpha; beta = G.times c.beta d.beta }

  -- what c decrypts to under the private key x
  abbrev pub plaintext : ℕ → Ciphertext Point → Point
  plaintext x c = quotient G c.alpha (power G c.beta x)

  -- c carries m: it decrypts to m under every private key of y
  abbrev pub Carries : Point → Ciphertext Point → Point → Type 0
  Carries y c m = (x : ℕ) → PrivateKey y x → plaintext x c ≡ m

  -- c and d decrypt alike under every private key of y
  abbrev pub SamePlaintext : Point → Ciphertext Point → Ciphertext Point → Type 0
  SamePlaintext y c d = (x : ℕ) → PrivateKey y x → plaintext x c ≡ plaintext x d

  -- re-encrypting d by s is re-encrypting c by the sum of r and s, for every s
  abbrev pub Joins : Point → Ciphertext Point → Ciphertext Point → ℕ → Type 0
  Joins y c d r = (s : ℕ) → reencrypted y d s ≡ reencrypted y c ((r + s) % G.order)

  -- the plaintext of the product is the product of the plaintexts, for every exponent x
  abbrev pub Multiplies : Ciphertext Point → Ciphertext Point → Type 0
  Multiplies c d = (x : ℕ) → plaintext x (multiplied c d) ≡ G.times (plaintext x c) (plaintext x d)
