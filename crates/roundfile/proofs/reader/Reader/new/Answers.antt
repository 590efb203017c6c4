use Rattle.roundfile.proofs.Files.{file_laws}
use Rattle.roundfile.proofs.Wholes.{record_laws}
use Rattle.roundfile.proofs.reader.Reader.new.Goals as goal

pub returns-in_err-rest-clause-records : goal.returns-in_err-rest-clause-records
returns-in_err-rest-clause-records c = record_laws

pub returns-in_err-rest-clause-files : goal.returns-in_err-rest-clause-files
returns-in_err-rest-clause-files c = file_laws

pub returns-clause-records : goal.returns-clause-records
returns-clause-records c = record_laws

pub returns-clause-files : goal.returns-clause-files
returns-clause-files c = file_laws
