-- What a call of the reader tells of the step that it made, and which records are not the wanted ones.
use Rattle.std.proofs.Common.{◌≡◌, Some, None, Ok, Err, Option, ok_or, MatchResult, sym, refl, ap, subst}
use Rattle.refusal.specs.Table.{refused_at}
use Rattle.refusal.specs.declared.Reason.TheVariants.{MisplacedRecord}
use Rattle.refusal.specs.declared.Refusal.{Refusal}
use Rattle.roundfile.specs.Reading.{Place, Found, Step, gave, ended, refused, answer, left, found}
use Rattle.roundfile.specs.declared.reader.Entry.{Entry}
use Rattle.roundcheck.specs.Checks.{NoneGiven, next_opening, next_draws}
use Rattle.roundcheck.specs.Runs.{found_in}

pub gave_by : (s : Step) (p q : Place) (f : Found) → Ok (Some f) ≡ answer s → q ≡ left p s → s ≡ gave f q
gave_by (gave f' q') p q f e l = cc
gave_by ended p q f e l = cc
gave_by (refused r) p q f e l = cc

pub ended_by : (s : Step) → Ok None ≡ answer s → s ≡ ended
ended_by (gave f q) e = cc
ended_by ended e = refl
ended_by (refused r) e = cc

pub refused_by : (s : Step) (r : Refusal) → Err r ≡ answer s → s ≡ refused r
refused_by (gave f q) r e = cc
refused_by ended r e = cc
refused_by (refused r') r e = cc

pub none_refused : (s : Step) (r : Refusal) → Err r ≡ answer s → NoneGiven s r
none_refused s r e = subst (λ (x : Step). NoneGiven x r) (sym (refused_by s r e)) refl

-- a record that has to come, or the refusal where the reader came to the end
pub one_wanted : (s : Step) (p q : Place) (o : Option Entry) (r : Refusal) → found (Ok o) ≡ answer s → q ≡ left p s → r ≡ refused_at MisplacedRecord 0
    → MatchResult (ok_or o r) (λ entry. s ≡ gave (found_in entry) q) (NoneGiven s)
one_wanted s p q None r e l is = subst (λ (x : Step). NoneGiven x r) (sym (ended_by s e)) is
one_wanted s p q (Some entry) r e l is = gave_by s p q (found_in entry) e l

pub none_for_opening : (s : Step) (r : Refusal) → NoneGiven s r → next_opening s ≡ Err r
none_for_opening (gave f q) r h = absurd h
none_for_opening ended r h = ap Err (sym h)
none_for_opening (refused e) r h = ap Err (sym h)

pub none_for_draws : (s : Step) (r : Refusal) → NoneGiven s r → next_draws s ≡ Err r
none_for_draws (gave f q) r h = absurd h
none_for_draws ended r h = ap Err (sym h)
none_for_draws (refused e) r h = ap Err (sym h)
