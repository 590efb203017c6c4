-- How a refusal is printed: `refused NUMBER STATION PLACE`.
use Rattle.std.specs.Prelude.{ℕ, List, Option, Some, None, ◌++◌, codes, decimal}
use Rattle.refusal.specs.Table.{number_of, station_of}
use Rattle.refusal.specs.declared.Refusal.{Refusal}
use Rattle.refusal.specs.declared.failure.Failure.{Failure}
use Rattle.refusal.specs.declared.failure.Failure.TheVariants.{Refused, NoMemory}
use Rattle.refusal.specs.declared.Station.{Station}
use Rattle.refusal.specs.declared.Station.TheVariants.{File, Opening, Group, Board, Source, Proof, Drill}

abbrev pub station_text : Station → List ℕ
station_text File = codes "file"
station_text Opening = codes "opening"
station_text Group = codes "group"
station_text Board = codes "board"
station_text Source = codes "source"
station_text Proof = codes "proof"
station_text Drill = codes "drill"

abbrev pub refusal_text : Refusal → List ℕ
refusal_text r = codes "refused " ++ (decimal (number_of r.reason) ++ (codes " " ++ (station_text (station_of r.reason) ++ (codes " " ++ decimal r.place))))

-- A failure prints as the refusal that it holds; of want of memory nothing is said.
abbrev pub failure_text : Failure → Option (List ℕ)
failure_text (Refused r) = Some (refusal_text r)
failure_text (NoMemory e) = None
