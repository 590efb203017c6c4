use Rattle.std.proofs.Common.{refl}
use Rattle.polynomial.specs.Product.{times_t}
use Rattle.polynomial.proofs.multiply_by_t.Goals as goal

pub returns : goal.returns
unfolding times_t
returns c = refl
