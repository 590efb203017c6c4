-- The line that is printed for a record: its offset, its kind, and each field by its name.
use Rattle.std.specs.Prelude.{ℕ, List, ◌++◌, codes, decimal}
use Rattle.std.specs.List.{flat_map}
use Rattle.roundfile.specs.Fields.{opening_of, post_of, comparator_of, field, words_in, default_number}
use Rattle.roundfile.specs.Records.{Content, opening, draws, post, comparator, close, expel}
use Rattle.roundfile.specs.declared.parts.Opening.{Opening}
use Rattle.roundfile.specs.declared.parts.Post.{Post}
use Rattle.roundfile.specs.declared.parts.Comparator.{Comparator}

abbrev pub opening_text : Opening → List ℕ
opening_text o =
    codes "opening group " ++ (decimal o.group ++ (codes " plan " ++ (decimal o.plan ++ (codes " wires " ++ (decimal o.wires
    ++ (codes " servers " ++ (decimal o.servers ++ (codes " key " ++ decimal o.key))))))))

-- Words, each after a space.
abbrev pub words_text : List ℕ → List ℕ
words_text words = flat_map (λ word. codes " " ++ decimal word) words

abbrev pub draws_text : ℕ → List ℕ → List ℕ
draws_text map fields = (codes "draws count " ++ (decimal (field map fields 0 default_number) ++ codes " words")) ++ words_text (words_in map fields)

abbrev pub post_text : Post → List ℕ
post_text p = codes "post alpha " ++ (decimal p.alpha ++ (codes " beta " ++ decimal p.beta))

abbrev pub outputs_text : Comparator → List ℕ
outputs_text c =
    codes "first_alpha " ++ (decimal c.first_alpha ++ (codes " first_beta " ++ (decimal c.first_beta
    ++ (codes " second_alpha " ++ (decimal c.second_alpha ++ (codes " second_beta " ++ decimal c.second_beta))))))

abbrev pub product_text : Comparator → List ℕ
product_text c = codes "product_commitment " ++ (decimal c.product_commitment ++ (codes " product_response " ++ decimal c.product_response))

abbrev pub branches_text : Comparator → List ℕ
branches_text c =
    codes "first_commitment " ++ (decimal c.first_commitment ++ (codes " second_commitment " ++ (decimal c.second_commitment
    ++ (codes " first_challenge " ++ (decimal c.first_challenge ++ (codes " second_challenge " ++ (decimal c.second_challenge
    ++ (codes " first_response " ++ (decimal c.first_response ++ (codes " second_response " ++ decimal c.second_response))))))))))

abbrev pub comparator_text : Comparator → List ℕ
comparator_text c = codes "comparator " ++ (outputs_text c ++ (codes " " ++ (product_text c ++ (codes " " ++ branches_text c))))

abbrev pub record_text : Content → List ℕ
record_text (opening map fields) = opening_text (opening_of map fields)
record_text (draws map fields) = draws_text map fields
record_text (post map fields) = post_text (post_of map fields)
record_text (comparator map fields) = comparator_text (comparator_of map fields)
record_text close = codes "close"
record_text expel = codes "expel"

abbrev pub line_text : ℕ → Content → List ℕ
line_text offset held = decimal offset ++ (codes " " ++ record_text held)
