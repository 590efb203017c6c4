-- The table of refusals: the return number and the station of each reason.
use Rattle.std.specs.Prelude.{ℕ}
use Rattle.refusal.specs.declared.Reason.{Reason}
use Rattle.refusal.specs.declared.Reason.TheVariants.{NoRoundFile, ShortRecord, UnknownRecord, UnknownField, MisplacedRecord, ShortBuffer, UnknownGroupOrPlan, UnfitWires, UnfitServers, KeyIsOne, NoElement, UnfitNumber, UnfitLength, NoPermutation, WrongStage, BoardFull, BoardShort, BeyondReach, ProductProof, ChallengeSplit, FirstBranch, SecondBranch, UnfitWitnessCount, UnfitWitnessNumber, EqualDraws, EqualChallenges, UnacceptedAnswer}
use Rattle.refusal.specs.declared.Refusal.{Refusal}
use Rattle.refusal.specs.declared.Station.{Station}
use Rattle.refusal.specs.declared.Station.TheVariants.{File, Opening, Group, Board, Source, Proof, Drill}

abbrev pub number_of : Reason → ℕ
number_of NoRoundFile = 1
number_of ShortRecord = 2
number_of UnknownRecord = 3
number_of UnknownField = 4
number_of MisplacedRecord = 5
number_of ShortBuffer = 12
number_of UnknownGroupOrPlan = 6
number_of UnfitWires = 7
number_of UnfitServers = 8
number_of KeyIsOne = 9
number_of NoElement = 10
number_of UnfitNumber = 11
number_of UnfitLength = 12
number_of NoPermutation = 13
number_of WrongStage = 14
number_of BoardFull = 15
number_of BoardShort = 16
number_of BeyondReach = 17
number_of ProductProof = 18
number_of ChallengeSplit = 19
number_of FirstBranch = 20
number_of SecondBranch = 21
number_of UnfitWitnessCount = 12
number_of UnfitWitnessNumber = 11
number_of EqualDraws = 22
number_of EqualChallenges = 23
number_of UnacceptedAnswer = 24

abbrev pub station_of : Reason → Station
station_of NoRoundFile = File
station_of ShortRecord = File
station_of UnknownRecord = File
station_of UnknownField = File
station_of MisplacedRecord = File
station_of ShortBuffer = File
station_of UnknownGroupOrPlan = Opening
station_of UnfitWires = Opening
station_of UnfitServers = Opening
station_of KeyIsOne = Opening
station_of NoElement = Group
station_of UnfitNumber = Group
station_of UnfitLength = Board
station_of NoPermutation = Board
station_of WrongStage = Board
station_of BoardFull = Board
station_of BoardShort = Board
station_of BeyondReach = Source
station_of ProductProof = Proof
station_of ChallengeSplit = Proof
station_of FirstBranch = Proof
station_of SecondBranch = Proof
station_of UnfitWitnessCount = Drill
station_of UnfitWitnessNumber = Drill
station_of EqualDraws = Drill
station_of EqualChallenges = Drill
station_of UnacceptedAnswer = Drill

abbrev pub refused_at : Reason → ℕ → Refusal
refused_at why at = record { reason = why; place = at }
