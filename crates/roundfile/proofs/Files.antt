-- The reader reads round files, and nothing else.
use Rattle.std.proofs.Common.{◌≡◌, ℕ, ◌+◌, ◌-◌, ◌<◌, ◌≤◌, Bool, true, false, cond, eqb, ltb, List, [], ◌∷◌, ◌++◌, map, length, get_or, drop, Some, None, Ok, Err, Option, Result, sym, refl, ap, ◌∙◌, subst, arith, ltb-false, le-ltb, ne_eqb, eqb-true}
use Rattle.std.proofs.lemmas.List.{length-append, nil_from_length, get_or-append-add}
use Rattle.std.proofs.lemmas.Bool.{cond-false, and_parts}
use Rattle.std.specs.List.{flat_map}
use Rattle.refusal.specs.declared.Reason.{Reason}
use Rattle.roundfile.specs.Files.{Later, IsOpening, IsDraws, All, InOrder, from_offset, Gives, ReadsRoundFiles, ReadsNothingElse, FileLaws}
use Rattle.roundfile.specs.Laws.{Bytes, bytes_of, FitsFormat}
use Rattle.roundfile.specs.Reading.{Place, Found, gave, ended, mark, marked, open_at, open_file, after, offset_at, step_at_end, step_over, step_placed}
use Rattle.roundfile.specs.Records.{Content, opening, draws, post, comparator, close, expel, kind_in, parse}
use Rattle.roundfile.specs.declared.reader.Stage.{Stage}
use Rattle.roundfile.specs.declared.reader.Stage.TheVariants.{Start, Opened, HalfDrawn, Drawn}
use Rattle.roundfile.proofs.Laws.{reads_all_that_fits, reads_the_front}

-- the order of records, one at a time
abbrev OrderedFrom : Stage → List Content → Type 0
OrderedFrom stage [] = stage ≡ Drawn
OrderedFrom stage (held ∷ more) = (next : Stage) × (after stage (kind_in held) ≡ Some next) × OrderedFrom next more

later_from : (records : List Content) → All Later records → OrderedFrom Drawn records
later_from [] later = refl
later_from (opening m f ∷ more) later = absurd later.0
later_from (draws m f ∷ more) later = absurd later.0
later_from (post m f ∷ more) later = (Drawn, refl, later_from more later.1)
later_from (comparator m f ∷ more) later = (Drawn, refl, later_from more later.1)
later_from (close ∷ more) later = (Drawn, refl, later_from more later.1)
later_from (expel ∷ more) later = (Drawn, refl, later_from more later.1)

opening_first : (held : Content) → IsOpening held → after Start (kind_in held) ≡ Some Opened
opening_first (opening m f) is = refl
opening_first (draws m f) is = absurd is
opening_first (post m f) is = absurd is
opening_first (comparator m f) is = absurd is
opening_first close is = absurd is
opening_first expel is = absurd is

draws_next : (held : Content) → IsDraws held → (after Opened (kind_in held) ≡ Some HalfDrawn) × (after HalfDrawn (kind_in held) ≡ Some Drawn)
draws_next (opening m f) is = absurd is
draws_next (draws m f) is = (refl, refl)
draws_next (post m f) is = absurd is
draws_next (comparator m f) is = absurd is
draws_next close is = absurd is
draws_next expel is = absurd is

ordered : (records : List Content) → InOrder records → OrderedFrom Start records
ordered [] order = absurd order
ordered (a ∷ []) order = absurd order
ordered (a ∷ b ∷ []) order = absurd order
ordered (a ∷ b ∷ c ∷ more) order =
    (Opened, opening_first a order.0, (HalfDrawn, (draws_next b order.1).0, (Drawn, (draws_next c order.2).1, later_from more order.3)))

-- a record has a first byte
not_empty : (held : Content) (rest : List ℕ) → 0 < length (bytes_of held ++ rest)
not_empty (opening m f) rest = omega arith
not_empty (draws m f) rest = omega arith
not_empty (post m f) rest = omega arith
not_empty (comparator m f) rest = omega arith
not_empty close rest = omega arith
not_empty expel rest = omega arith

gives_from : (stage : Stage) (end n : ℕ) (records : List Content) → All FitsFormat records → OrderedFrom stage records → end ≡ n + length (flat_map bytes_of records) →
    Gives (record { stage = stage; end = end; rest = flat_map bytes_of records }) (from_offset n records)
gives_from stage end n [] fits order is = ap (λ s. step_at_end s end) order
gives_from stage end n (held ∷ more) fits order is =
    let rest : List ℕ = bytes_of held ++ flat_map bytes_of more in
    let p : Place = record { stage = stage; end = end; rest = rest } in
    let next : Stage = order.0 in
    let q : Place = record { stage = next; end = end; rest = flat_map bytes_of more } in
    let some : eqb (length rest) 0 ≡ false = ne_eqb (length rest) 0 (λ e. omega (arith, not_empty held (flat_map bytes_of more))) in
    let long : length rest ≡ length (bytes_of held) + length (flat_map bytes_of more) = length-append (bytes_of held) (flat_map bytes_of more) in
    let place : end - length rest ≡ n = omega arith in (
      q,
      cond-false _ _ _ some
          ∙ ap (step_over p) (reads_all_that_fits held (flat_map bytes_of more) fits.0)
          ∙ ap (step_placed p (held, flat_map bytes_of more)) order.1
          ∙ ap (λ k. gave (record { offset = k; holds = held }) q) place,
      gives_from next end (n + length (bytes_of held)) more fits.1 order.2 (omega arith),
    )

reads_round_files : ReadsRoundFiles
reads_round_files bytes records file =
    let rest : List ℕ = flat_map bytes_of records in
    let opens : open_file (mark ++ rest) ≡ Ok (record { stage = Start; end = length (mark ++ rest); rest = rest }) =
    ap (open_at (length (mark ++ rest))) (cond-false _ _ _ (le-ltb 65536 (length (mark ++ rest)) (subst (λ b. length b ≤ 65536) file.whole file.short))) in (
      record { stage = Start; end = length (mark ++ rest); rest = rest },
      ap open_file file.whole ∙ opens,
      gives_from Start (length (mark ++ rest)) 4 records file.fits (ordered records file.order) (omega arith),
    )

-- The other way: what a call that gave a record knows.
Knows : Place → Result (Content × List ℕ) Reason → Found → Place → Type 0
Knows p read f q = (read ≡ Ok (f.holds, q.rest)) × (after p.stage (kind_in f.holds) ≡ Some q.stage) × (q.end ≡ p.end) × (f.offset ≡ offset_at p)

placed_gave : (p : Place) (t : Content × List ℕ) (next : Option Stage) (f : Found) (q : Place) → after p.stage (kind_in t.0) ≡ next →
    step_placed p t next ≡ gave f q → Knows p (Ok t) f q
unfolding Knows
placed_gave p t None f q is e = cc
placed_gave p t (Some next) f q is e =
    let found : ◌≡◌ {A = Found} (record { offset = offset_at p; holds = t.0 }) f = cc in
    let place : ◌≡◌ {A = Place} (record { stage = next; end = p.end; rest = t.1 }) q = cc in (
      ap (λ (g : Found). Ok (g.holds, t.1)) found ∙ ap (λ (r : Place). Ok (f.holds, r.rest)) place,
      ap (λ (g : Found). after p.stage (kind_in g.holds)) (sym found) ∙ is ∙ ap (λ (r : Place). Some r.stage) place,
      ap (λ (r : Place). r.end) (sym place),
      ap (λ (g : Found). g.offset) (sym found),
    )

over_gave : (p : Place) (read : Result (Content × List ℕ) Reason) (f : Found) (q : Place) → step_over p read ≡ gave f q → Knows p read f q
over_gave p (Ok t) f q e = placed_gave p t (after p.stage (kind_in t.0)) f q refl e
over_gave p (Err reason) f q e = cc

end_gives_none : (stage : Stage) (n : ℕ) (f : Found) (q : Place) → step_at_end stage n ≡ gave f q → ⊥
end_gives_none Start n f q e = cc
end_gives_none Opened n f q e = cc
end_gives_none HalfDrawn n f q e = cc
end_gives_none Drawn n f q e = cc

stepped : (p : Place) (f : Found) (q : Place) (empty : Bool) → cond empty (step_at_end p.stage p.end) (step_over p (parse p.rest)) ≡ gave f q → Knows p (parse p.rest) f q
stepped p f q true e = absurd (end_gives_none p.stage p.end f q e)
stepped p f q false e = over_gave p (parse p.rest) f q e

-- and a call that came to the end
placed_goes_on : (p : Place) (t : Content × List ℕ) (next : Option Stage) → step_placed p t next ≡ ended → ⊥
placed_goes_on p t None e = cc
placed_goes_on p t (Some next) e = cc

over_goes_on : (p : Place) (read : Result (Content × List ℕ) Reason) → step_over p read ≡ ended → ⊥
over_goes_on p (Ok t) e = placed_goes_on p t _ e
over_goes_on p (Err reason) e = cc

ends_drawn : (stage : Stage) (n : ℕ) → step_at_end stage n ≡ ended → stage ≡ Drawn
ends_drawn Start n e = cc
ends_drawn Opened n e = cc
ends_drawn HalfDrawn n e = cc
ends_drawn Drawn n e = refl

came_to_end : (p : Place) (empty : Bool) → eqb (length p.rest) 0 ≡ empty →
    cond empty (step_at_end p.stage p.end) (step_over p (parse p.rest)) ≡ ended → (p.stage ≡ Drawn) × (p.rest ≡ [])
came_to_end p true is e = (ends_drawn p.stage p.end e, nil_from_length p.rest (eqb-true (length p.rest) 0 is))
came_to_end p false is e = absurd (over_goes_on p (parse p.rest) e)

behind_small : (front rest : List ℕ) → Bytes (front ++ rest) → Bytes rest
behind_small front rest small i = subst (λ n. n < 256) (get_or-append-add front rest i 0) (small (length front + i))

held_in : List Found → List Content
held_in given = map (λ (f : Found). f.holds) given

gave_round : (p : Place) (given : List Found) → Bytes p.rest → length p.rest ≤ p.end → Gives p given →
    OrderedFrom p.stage (held_in given) × All FitsFormat (held_in given) × (p.rest ≡ flat_map bytes_of (held_in given)) × (given ≡ from_offset (offset_at p) (held_in given))
unfolding held_in Knows
gave_round p [] small within gives = let done = came_to_end p _ refl gives in (done.0, tt, done.1, refl)
gave_round p (f ∷ more) small within (q, e, gives) =
    let known = stepped p f q (eqb (length p.rest) 0) e in
    let bytes : List ℕ = bytes_of f.holds in
    let front = reads_the_front p.rest f.holds q.rest small known.0 in
    let long : length p.rest ≡ length bytes + length q.rest = ap length front.0 ∙ length-append bytes q.rest in
    let further : offset_at q ≡ offset_at p + length bytes = omega (arith, known.2) in
    let others = gave_round q more (behind_small bytes q.rest (subst Bytes front.0 small)) (omega (arith, known.2)) gives in (
      (q.stage, known.1, others.0),
      (front.1, others.1),
      front.0 ∙ ap (λ z. bytes ++ z) others.2,
      ap (λ n. record { offset = n; holds = f.holds } ∷ more) known.3
          ∙ ap (λ z. record { offset = offset_at p; holds = f.holds } ∷ z) (others.3 ∙ ap (λ n. from_offset n (held_in more)) further),
    )

-- the order that the stages keep
from_start : (held : Content) (next : Stage) → after Start (kind_in held) ≡ Some next → IsOpening held × (next ≡ Opened)
from_start (opening m f) next e = (tt, cc)
from_start (draws m f) next e = cc
from_start (post m f) next e = cc
from_start (comparator m f) next e = cc
from_start close next e = cc
from_start expel next e = cc

from_opened : (held : Content) (next : Stage) → after Opened (kind_in held) ≡ Some next → IsDraws held × (next ≡ HalfDrawn)
from_opened (opening m f) next e = cc
from_opened (draws m f) next e = (tt, cc)
from_opened (post m f) next e = cc
from_opened (comparator m f) next e = cc
from_opened close next e = cc
from_opened expel next e = cc

from_half_drawn : (held : Content) (next : Stage) → after HalfDrawn (kind_in held) ≡ Some next → IsDraws held × (next ≡ Drawn)
from_half_drawn (opening m f) next e = cc
from_half_drawn (draws m f) next e = (tt, cc)
from_half_drawn (post m f) next e = cc
from_half_drawn (comparator m f) next e = cc
from_half_drawn close next e = cc
from_half_drawn expel next e = cc

from_drawn : (held : Content) (next : Stage) → after Drawn (kind_in held) ≡ Some next → Later held × (next ≡ Drawn)
from_drawn (opening m f) next e = cc
from_drawn (draws m f) next e = cc
from_drawn (post m f) next e = (tt, cc)
from_drawn (comparator m f) next e = (tt, cc)
from_drawn close next e = (tt, cc)
from_drawn expel next e = (tt, cc)

all_later : (stage : Stage) (records : List Content) → stage ≡ Drawn → OrderedFrom stage records → All Later records
all_later stage [] is order = tt
all_later stage (held ∷ more) is (next, e, order) =
    let one = from_drawn held next (ap (λ s. after s (kind_in held)) (sym is) ∙ e) in
    (one.0, all_later next more one.1 order)

in_order : (records : List Content) → OrderedFrom Start records → InOrder records
in_order [] order = cc
in_order (a ∷ []) (one, e, order) = let first = from_start a one e in cc first.1
in_order (a ∷ b ∷ []) (one, e, (two, e', order)) =
    let first = from_start a one e in
    let second = from_opened b two (ap (λ s. after s (kind_in b)) (sym first.1) ∙ e') in
    cc second.1
in_order (a ∷ b ∷ c ∷ more) (one, e, (two, e', (three, e'', order))) =
    let first = from_start a one e in
    let second = from_opened b two (ap (λ s. after s (kind_in b)) (sym first.1) ∙ e') in
    let third = from_half_drawn c three (ap (λ s. after s (kind_in c)) (sym second.1) ∙ e'') in
    (first.0, second.0, third.0, all_later three more third.1 order)

-- a file that was opened
four_marks : (bytes : List ℕ) → marked bytes ≡ true → (get_or bytes 0 0 ≡ 77) × (get_or bytes 1 0 ≡ 73) × (get_or bytes 2 0 ≡ 88) × (get_or bytes 3 0 ≡ 82)
four_marks bytes h =
    let first = and_parts (eqb (get_or bytes 0 0) 77) _ h in
    let second = and_parts (eqb (get_or bytes 1 0) 73) _ first.1 in
    let third = and_parts (eqb (get_or bytes 2 0) 88) (eqb (get_or bytes 3 0) 82) second.1 in
    (eqb-true _ 77 first.0, eqb-true _ 73 second.0, eqb-true _ 88 third.0, eqb-true _ 82 third.1)

mark_in_front : (bytes : List ℕ) → (get_or bytes 0 0 ≡ 77) × (get_or bytes 1 0 ≡ 73) × (get_or bytes 2 0 ≡ 88) × (get_or bytes 3 0 ≡ 82) → bytes ≡ mark ++ drop 4 bytes
mark_in_front [] is = absurd (omega arith)
mark_in_front (m ∷ []) is = absurd (omega arith)
mark_in_front (m ∷ i ∷ []) is = absurd (omega arith)
mark_in_front (m ∷ i ∷ x ∷ []) is = absurd (omega arith)
mark_in_front (m ∷ i ∷ x ∷ r ∷ more) is = cc (is.0, is.1, is.2, is.3)

OpenedAs : List ℕ → Place → Type 0
OpenedAs bytes p = (length bytes ≤ 65536) × (bytes ≡ mark ++ p.rest) × (p.stage ≡ Start) × (p.end ≡ length bytes)

was_opened : (bytes : List ℕ) (p : Place) (long there : Bool) → ltb 65536 (length bytes) ≡ long → marked bytes ≡ there →
    open_at (length bytes) (cond long None (cond there (Some (drop 4 bytes)) None)) ≡ Ok p → OpenedAs bytes p
unfolding OpenedAs
was_opened bytes p true there fits is e = cc
was_opened bytes p false false fits is e = cc
was_opened bytes p false true fits is e =
    let place : ◌≡◌ {A = Place} (record { stage = Start; end = length bytes; rest = drop 4 bytes }) p = cc in (
      ltb-false 65536 (length bytes) fits,
      mark_in_front bytes (four_marks bytes is) ∙ ap (λ (q : Place). mark ++ q.rest) place,
      ap (λ (q : Place). q.stage) (sym place),
      ap (λ (q : Place). q.end) (sym place),
    )

reads_nothing_else : ReadsNothingElse
unfolding held_in OpenedAs
reads_nothing_else bytes p given small opened gives =
    let file = was_opened bytes p _ _ refl refl opened in
    let long : length bytes ≡ 4 + length p.rest = omega (arith, ap length file.1) in
    let round = gave_round p given (behind_small mark p.rest (subst Bytes file.1 small)) (omega (arith, file.3)) gives in
    let first : offset_at p ≡ 4 = omega (arith, file.3) in (
      record {
        short = file.0;
        whole = file.1 ∙ ap (λ z. mark ++ z) round.2;
        fits = round.1;
        order = in_order _ (subst (λ s. OrderedFrom s (held_in given)) file.2 round.0);
      },
      round.3 ∙ ap (λ n. from_offset n (held_in given)) first,
    )

pub file_laws : FileLaws
file_laws = record { complete = reads_round_files; sound = reads_nothing_else }
