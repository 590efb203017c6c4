-- How a record is taken off the front of bytes, in the steps of the code.
use Rattle.std.proofs.Common.{◌≡◌, ℕ, ◌+◌, ◌*◌, ◌/◌, ◌^◌, ◌≤◌, Bool, true, false, cond, List, [], ◌∷◌, length, take, drop, Some, None, Ok, Err, Option, refl, ap, ◌∙◌, arith, ltb-false, le-ltb, eq-eqb, eqb-true}
use Rattle.std.proofs.lemmas.List.{length-drop}
use Rattle.std.proofs.lemmas.Bool.{cond-true, cond-false}
use Rattle.roundfile.specs.Kinds.{kind_of, field_count, size}
use Rattle.roundfile.specs.Records.{Content, content_of, parse, parse_kind, parse_fields}
use Rattle.roundfile.specs.declared.kind.Kind.{Kind}

-- fields that the kind has, and that are all there
pub fields_there : (kind : Kind) (map : ℕ) (rest : List ℕ) → map / 2 ^ field_count kind ≡ 0 → size kind map rest ≤ length rest →
    parse_fields kind map rest ≡ Ok (content_of kind map (take (size kind map rest) rest), drop (size kind map rest) rest)
fields_there kind map rest within whole =
    cond-true _ _ _ (eq-eqb (map / 2 ^ field_count kind) 0 within)
    ∙ cond-false _ _ _ (le-ltb (length rest) (size kind map rest) whole)

-- the other way: what is known where a record came off the front
passed : {X Y : Type 0} (within short : Bool) (x t : X) (y z : Y) → cond within (cond short (Err y) (Ok x)) (Err z) ≡ Ok t →
    (within ≡ true) × (short ≡ false) × (x ≡ t)
passed true true x t y z e = cc
passed true false x t y z e = (refl, refl, cc)
passed false short x t y z e = cc

pub fields_were_there : (kind : Kind) (map : ℕ) (rest : List ℕ) (t : Content × List ℕ) → parse_fields kind map rest ≡ Ok t →
    (map / 2 ^ field_count kind ≡ 0) × (size kind map rest ≤ length rest) × ((content_of kind map (take (size kind map rest) rest), drop (size kind map rest) rest) ≡ t)
fields_were_there kind map rest t e =
    let facts = passed _ _ _ t _ _ e in
    (eqb-true _ 0 facts.0, ltb-false _ _ facts.1, facts.2)

rest_no_longer : (known : Option Kind) (map : ℕ) (rest : List ℕ) (t : Content × List ℕ) → parse_kind known map rest ≡ Ok t → length t.1 ≤ length rest
rest_no_longer None map rest t e = cc
rest_no_longer (Some kind) map rest t e =
    let facts = fields_were_there kind map rest t e in
    omega (arith, length-drop (size kind map rest) rest, ap (λ (u : Content × List ℕ). length u.1) facts.2)

pub three_or_more : (bytes : List ℕ) (t : Content × List ℕ) → parse bytes ≡ Ok t → length t.1 + 3 ≤ length bytes
three_or_more [] t e = cc
three_or_more (a ∷ []) t e = cc
three_or_more (a ∷ b ∷ []) t e = cc
three_or_more (a ∷ b ∷ c ∷ rest) t e = omega (arith, rest_no_longer (kind_of a) (b * 256 + c) rest t e)
