-- One quote, sealed and opened again. The numbers are judged in the order of the line.
use Rattle.std.specs.Prelude.{◌≡◌, ℕ, ◌<◌, ◌≤◌, List, ◌≢◌}
use Rattle.elgamal.specs.Ciphertexts.{meaning, encrypted, reencrypted}
use Rattle.group.specs.Operations.{Operations, power}
use Rattle.refusal.specs.Table.{refused_at}
use Rattle.refusal.specs.declared.Reason.TheVariants.{KeyIsOne, NoElement, UnfitNumber}
use Rattle.refusal.specs.declared.Refusal.{Refusal}
use Rattle.quote.specs.declared.sealing.Quote.{Quote}

-- a quote of elements, as points
abbrev pub quote_meaning : {Element Point : Type 0} → (Element → Point) → Quote Element → Quote Point
quote_meaning point q = record { key = point q.key; sealed = meaning point q.sealed; mixed = meaning point q.mixed; opened = point q.opened }

-- Over the group, the order of its exponents, the private key, the message's code, and both exponents.
module _ {Point : Type 0} (G : Operations Point) (order private : ℕ) (message : List ℕ) (gamma r : ℕ) where
  -- the quote of the point m, where every number is fit
  pub record Sealed (m : Point) (q : Quote Point) : Type 0 where
    pub private_below : private < order
    pub key_proper : power G G.base private ≡ G.one → ⊥
    pub message_is : G.code m ≡ message
    pub gamma_below : gamma < order
    pub r_below : r < order
    pub key_is : q.key ≡ power G G.base private
    pub sealed_is : q.sealed ≡ encrypted G q.key m gamma
    pub mixed_is : q.mixed ≡ reencrypted G q.key q.sealed r
    pub opened_is : q.opened ≡ m

  -- the first unfit number, and its refusal
  pub data Unfit (f : Refusal) : Type 0 where
    private_unfit : order ≤ private → f ≡ refused_at UnfitNumber 0 → Unfit f
    key_is_one : private < order → power G G.base private ≡ G.one → f ≡ refused_at KeyIsOne 0 → Unfit f
    no_message : private < order → (power G G.base private ≢ G.one) → ((x : Point) → G.code x ≢ message) → f ≡ refused_at NoElement 0 → Unfit f
    gamma_unfit : private < order → (power G G.base private ≢ G.one) → (m : Point) → G.code m ≡ message → order ≤ gamma → f ≡ refused_at UnfitNumber 0 → Unfit f
    r_unfit : private < order → (power G G.base private ≢ G.one) → (m : Point) → G.code m ≡ message → gamma < order → order ≤ r → f ≡ refused_at UnfitNumber 0 → Unfit f
