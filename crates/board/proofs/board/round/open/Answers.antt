use Rattle.std.proofs.Common.{◌≡◌, ℕ, List, map, length, replicate, None, sym, refl, ap, ◌∙◌, ap₂}
use Rattle.board.proofs.Meanings.{map_replicate}
use Rattle.board.proofs.Stepping.{answer_ok}
use Rattle.board.specs.Rounds.{judge_open, blank}
use Rattle.board.specs.States.{State}
use Rattle.board.specs.declared.events.Stage.TheVariants.{Gathering}
use Rattle.elgamal.specs.Ciphertexts.{meaning}
use Rattle.elgamal.specs.declared.Ciphertext.{Ciphertext}
use Rattle.group.specs.Operations.{Operations}
use Rattle.board.proofs.board.round.open.Goals as goal

-- a list that was filled with the one
filled : {E P : Type 0} (G : Operations P) (point : E → P) (xs : List (Ciphertext E)) (k n : ℕ) (one : E) → point one ≡ G.one → xs ≡ replicate k (record { alpha = one; beta = one }) → k ≡ n → map (meaning point) xs ≡ replicate n (blank G)
filled G point xs k n one e is same =
    ap (map (meaning point)) is ∙ map_replicate (meaning point) k (record { alpha = one; beta = one })
    ∙ ap₂ (λ (m : ℕ) x. replicate m (record { alpha = x; beta = x })) same e

pub returns : goal.returns
returns g c =
    let G = g.G.Group.operations in
    let point = g.G.Group.point in
    let n = g.P.Plan.width c.args.plan.now in
    let fits = c.in_ok-judge_opening.ensures.fits in
    let width = c.wires.ensures in
    let wires = length c.args.wires.now in
    let start = length c.args.start.now in
    let judged : judge_open G n c.args.servers (point c.args.key) wires start ≡ None =
    ap (λ (m : ℕ). judge_open G m c.args.servers (point c.args.key) wires start) (sym width) ∙ answer_ok _ _ _ c.in_ok-judge_opening.ensures.judged in
    rw judged (
      refl,
      ap₂ {C = State (Ciphertext g.G.Group.Point)} (λ ws ss. record { wires = ws; start = ss; servers = c.args.servers; stage = Gathering; posted = 0; completed = 0; server = 0; next = 0 })
          (filled G point _ wires n c.one-one.result c.one-one.ensures c.fill.ensures (fits.2 ∙ width))
          (filled G point _ start n c.one-one.result c.one-one.ensures c.fill-2.ensures (fits.3 ∙ width)),
    )
