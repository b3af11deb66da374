-- `kinds::count::is_of_kind` meets its contract.
-- Assumes nothing.
use Rattle.kinds.proofs.count.is_of_kind.Goals as goal

pub returns-in-Any : goal.returns-in-Any
returns-in-Any c = cc

pub returns-in-Bit16 : goal.returns-in-Bit16
returns-in-Bit16 c = cc

pub returns-in-Bit17 : goal.returns-in-Bit17
returns-in-Bit17 c = cc
