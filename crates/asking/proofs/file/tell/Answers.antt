-- `asking::file::tell` meets its contract.
-- Assumes nothing.
use Rattle.asking.proofs.Handing.{handed_refused, handed_file}
use Rattle.asking.proofs.file.tell.Goals as goal

pub returns-then-number-ne0-clause-is : goal.returns-then-number-ne0-clause-is
returns-then-number-ne0-clause-is c = handed_refused _ _ c.if-number-ne0.true

pub returns-clause-is : goal.returns-clause-is
returns-clause-is c = handed_file _ _ _ c.if-number-ne0.false c.file_in-file.ensures.is
