use Rattle.std.proofs.Common.{Some, sym, refl, ap, ◌∙◌, arith}
use Rattle.std.specs.Option.{option_map}
use Rattle.plan.specs.Plans.{nth}
use Rattle.butterfly.specs.Halves.{in_half, network}
use Rattle.butterfly.proofs.Finding.{network_none, half_below, in_first, in_even, in_odd, in_last, past_last}
use Rattle.butterfly.proofs.+listed.Goals as goal

pub returns-in_err-parts : goal.returns-in_err-parts
returns-in_err-parts t c = c.from_residual.ensures ∙ ap (λ cs. nth cs c.args.k) (sym (network_none c.args.levels.count c.in_err-parts.ensures))

pub returns-then-k-pairs : goal.returns-then-k-pairs
returns-then-k-pairs t c =
    let p = c.in_ok-parts.parts in
    ap Some c.pair_of.ensures ∙ in_first (network p.half.count) p.pairs c.args.k (omega arith) ∙ ap (λ cs. nth cs c.args.k) (sym c.in_ok-parts.ensures.listing)

pub on_wires-requires : goal.on_wires-requires
on_wires-requires t c = half_below c.in_ok-parts.parts.half.count _ _ c.in_ok-parts.parts.half.few c.listed.ensures

pub returns-then-k-pairs-2 : goal.returns-then-k-pairs-2
returns-then-k-pairs-2 t c =
    let p = c.in_ok-parts.parts in
    c.on_wires.ensures ∙ ap (option_map (in_half 0)) c.listed.ensures
    ∙ in_even (network p.half.count) p.pairs p.inner c.args.k p.comparators (omega arith) (omega arith)
    ∙ ap (λ cs. nth cs c.args.k) (sym c.in_ok-parts.ensures.listing)

pub on_wires-requires-then-k-pairs-3 : goal.on_wires-requires-then-k-pairs-3
on_wires-requires-then-k-pairs-3 t c = half_below c.in_ok-parts.parts.half.count _ _ c.in_ok-parts.parts.half.few c.listed-then-k-pairs-3.ensures

pub returns-then-k-pairs-3 : goal.returns-then-k-pairs-3
returns-then-k-pairs-3 t c =
    let p = c.in_ok-parts.parts in
    c.on_wires-then-k-pairs-3.ensures ∙ ap (option_map (in_half 1)) c.listed-then-k-pairs-3.ensures
    ∙ in_odd (network p.half.count) p.pairs p.inner c.args.k p.comparators (omega arith) (omega arith)
    ∙ ap (λ cs. nth cs c.args.k) (sym c.in_ok-parts.ensures.listing)

pub returns-then-i-pairs : goal.returns-then-i-pairs
returns-then-i-pairs t c =
    let p = c.in_ok-parts.parts in
    ap Some c.last_pair.ensures
    ∙ in_last (network p.half.count) p.pairs p.inner c.args.k _ p.comparators (omega arith) refl (omega arith)
    ∙ ap (λ cs. nth cs c.args.k) (sym c.in_ok-parts.ensures.listing)

pub returns-else-i-pairs : goal.returns-else-i-pairs
returns-else-i-pairs t c =
    let p = c.in_ok-parts.parts in
    past_last (network p.half.count) p.pairs p.inner c.args.k _ p.comparators (omega arith) refl (omega arith)
    ∙ ap (λ cs. nth cs c.args.k) (sym c.in_ok-parts.ensures.listing)
