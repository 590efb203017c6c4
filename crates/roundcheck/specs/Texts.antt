-- The lines that are printed of a round.
use Rattle.std.specs.Prelude.{ℕ, List, [], ◌∷◌, ◌++◌, Ok, Err, codes, decimal}
use Rattle.std.specs.List.{flat_map}
use Rattle.board.specs.declared.verdict.Standing.{Standing}
use Rattle.board.specs.declared.verdict.Verdict.{Verdict}
use Rattle.board.specs.declared.verdict.Verdict.TheVariants.{Stands, Void, Unfinished}
use Rattle.refusal.specs.Text.{refusal_text}
use Rattle.roundcheck.specs.Runs.{Ending}
use Rattle.roundcheck.specs.declared.report.Line.{Line}
use Rattle.roundcheck.specs.declared.report.Line.TheVariants.{Round, Post, Close, Step, Expel}

abbrev pub line_text : Line → List ℕ
line_text (Round o) =
    codes "round " ++ (decimal o.group ++ (codes " " ++ (decimal o.plan ++ (codes " " ++ (decimal o.wires ++ (codes " " ++ decimal o.servers))))))
line_text (Post wire p) = codes "post " ++ (decimal wire ++ (codes " " ++ (decimal p.alpha ++ (codes " " ++ decimal p.beta))))
line_text Close = codes "close"
line_text (Step server comparator on) =
    codes "step " ++ (decimal server ++ (codes " " ++ (decimal comparator ++ (codes " " ++ (decimal on.first ++ (codes " " ++ decimal on.second))))))
line_text (Expel server) = codes "expel " ++ decimal server

abbrev pub verdict_text : Verdict → List ℕ
verdict_text Stands = codes "stands"
verdict_text Void = codes "void"
verdict_text Unfinished = codes "open"

abbrev pub standing_text : Standing → List ℕ
standing_text s = verdict_text s.verdict ++ (codes " " ++ (decimal s.completed ++ (codes " " ++ decimal s.servers)))

abbrev pub ending_text : Ending → List ℕ
ending_text (Ok s) = standing_text s
ending_text (Err r) = refusal_text r

-- a newline behind each line
abbrev pub lines_text : List Line → List ℕ
lines_text lines = flat_map (λ line. line_text line ++ (10 ∷ [])) lines

-- all that is printed of a round
abbrev pub report_text : List Line → Ending → List ℕ
report_text lines ending = lines_text lines ++ (ending_text ending ++ (10 ∷ []))
